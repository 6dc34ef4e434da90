use Rattle.std.proofs.Common.{refl, sym, ap, arith, option_map, ◌∙◌}
use Rattle.std.proofs.lemmas.Option.{slice_get_past, slice_get_read}
use Rattle.craq_script.specs.declared.line.ScriptLine.TheVariants as lines
use Rattle.craq_schedules.proofs.Choices.{arrival, tick_at}
use Rattle.craq_schedules.proofs.drawing.event_at.Goals as goal

pub returns-then-place-sent : goal.returns-then-place-sent
returns-then-place-sent c = sym (arrival c.args.sent c.args.place c.args.running.now (omega arith))

pub returns-in-None : goal.returns-in-None
returns-in-None c =
    sym (tick_at c.args.sent c.args.place c.args.running.now (omega arith) ∙ ap (λ id. option_map lines.Tick id) (slice_get_past c.args.running.now _ c.in-None.ensures.lookup.3))

pub returns-in-Some : goal.returns-in-Some
returns-in-Some c =
    sym (tick_at c.args.sent c.args.place c.args.running.now (omega arith) ∙ ap (λ id. option_map lines.Tick id) (slice_get_read c.args.running.now _ _ c.in-Some.id.now refl c.in-Some.ensures.lookup.3.0 c.in-Some.ensures.lookup.1))
