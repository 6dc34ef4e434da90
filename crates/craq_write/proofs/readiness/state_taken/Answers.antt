use Rattle.std.proofs.Common.{List, None, sym, ap, ◌∙◌}
use Rattle.craq_model.specs.declared.step.Out.{Out}
use Rattle.craq_history.specs.declared.change.GatheringChange.{GatheringChange}
use Rattle.craq_history.specs.declared.change.HistoryChange.TheVariants as histories
use Rattle.craq_history.specs.Change.{no_change}
use Rattle.craq_history.specs.Nodes.{plain_of}
use Rattle.craq_write.proofs.Waiting.{copy_waits}
use Rattle.craq_write.proofs.readiness.state_taken.Goals as goal

pub returns : goal.returns
returns g c =
    copy_waits (plain_of g.H.History.past c.args.node.now) c.args.position c.args.state _ _ c.requires.unready (sym c.is_floor_reached.ensures ∙ c.if-is_floor_reached.false)
    (c.copying.ensures ∙ ap (λ (x : GatheringChange). record no_change { history = histories.IsCopied c.args.position c.args.state; gathering = x }) c.gathering_at-gathering.ensures)
    (c.done.ensures ∙ ap (λ (os : List Out). record { ticket = None; outs = os; ignored = None }) c.new.ensures.items)
