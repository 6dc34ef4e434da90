use Rattle.std.proofs.Common.{◌≡◌, ◌+◌, refl, ap, arith, length, ◌∙◌}
use Rattle.craq_play.specs.Played.{script_opening}
use Rattle.craq_schedules.specs.Stopped.{after_lines, cuts_text, count_taken}
use Rattle.craq_schedules.proofs.stopping.stop_lines.Goals as goal

pub returns : goal.returns
returns g c = λ holds answers.
    let end = c.in_ok-take_lines.ensures ∙ ap (λ w. after_lines w c.args.lines.now) c.in_ok-whole.ensures in
    let moves : length c.as_slice.result.now ≡ count_taken (after_lines (script_opening c.args.nodes) c.args.lines.now) = rw (← end, c.as_slice.ensures, c.run.ensures.value) refl in
    let all : c.loop-cut.cut ≡ count_taken (after_lines (script_opening c.args.nodes) c.args.lines.now) + 1 = omega (arith, moves) in
    c.loop-cut.invariant holds answers ∙ ap (λ n. cuts_text holds c.args.nodes c.args.node c.args.lines.now n) all
