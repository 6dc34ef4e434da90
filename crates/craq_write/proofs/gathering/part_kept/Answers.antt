use Rattle.std.proofs.Common.{List, None, sym, ap, subst, ◌∙◌}
use Rattle.std.specs.Prelude.{IfOk}
use Rattle.craq_model.specs.declared.step.Out.{Out}
use Rattle.craq_model.specs.Parts.{gathering_for}
use Rattle.craq_model.specs.Settle.{Transition}
use Rattle.craq_history.specs.declared.change.Change.{Change}
use Rattle.craq_history.specs.declared.change.GatheringChange.TheVariants.{Gains}
use Rattle.craq_history.specs.Nodes.{plain_of}
use Rattle.craq_history.specs.Effects.{IsEffectOf}
use Rattle.craq_write.proofs.Gathers.{completes, gains}
use Rattle.craq_write.proofs.gathering.part_kept.Goals as goal

pub returns-then-is_last_missing : goal.returns-then-is_last_missing
returns-then-is_last_missing g c =
    let p = plain_of g.H.History.past c.args.node.now in
    let same = completes p (gathering_for c.args.part p.gathering) c.args.part c.args.parts.now c.args.count c.in_ok-state.state c.requires.parts c.requires.count c.requires.position c.requires.rising c.requires.absent (sym c.is_last_missing.ensures ∙ c.if-is_last_missing.true) c.in_ok-state.ensures in
    subst (λ (t : Transition). IfOk c.state_taken.result (λ r. IsEffectOf p r t)) (sym same) c.state_taken.ensures

pub returns : goal.returns
returns g c =
    let p = plain_of g.H.History.past c.args.node.now in
    gains p c.args.part c.args.parts.now c.args.count _ _ c.requires.parts c.requires.count c.requires.rising c.requires.absent (sym c.is_last_missing.ensures ∙ c.if-is_last_missing.false)
    (ap (λ (x : Change). record x { gathering = Gains c.args.part }) c.none-change.ensures)
    (c.done.ensures ∙ ap (λ (os : List Out). record { ticket = None; outs = os; ignored = None }) c.new.ensures.items)
