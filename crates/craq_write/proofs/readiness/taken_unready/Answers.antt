use Rattle.std.proofs.Common.{◌≤◌, List, None, sym, ap, ◌∙◌, arith, rules}
use Rattle.craq_names.specs.Limits.{greatest}
use Rattle.craq_model.specs.declared.step.Out.{Out}
use Rattle.craq_history.specs.declared.change.Change.{Change}
use Rattle.craq_history.specs.declared.change.GatheringChange.{GatheringChange}
use Rattle.craq_history.specs.declared.change.HistoryChange.TheVariants as histories
use Rattle.craq_history.specs.Change.{no_change}
use Rattle.craq_history.specs.Nodes.{plain_of}
use Rattle.craq_write.proofs.Waiting.{entries_wait}
use Rattle.craq_write.proofs.readiness.taken_unready.Goals as goal

pub returns : goal.returns
returns g c =
    let p = plain_of g.H.History.past c.args.node.now in
    let few : c.args.end ≤ greatest = first_of (omega arith, search rules) in
    entries_wait p c.args.entries c.args.end _ _ c.requires.end few c.requires.unready (sym c.is_floor_reached.ensures ∙ c.if-is_floor_reached.false)
    (ap (λ (x : Change). record x { gathering = c.gathering_at.result }) c.growing-change.ensures ∙ ap (λ (x : GatheringChange). record no_change { history = histories.Grows c.args.entries; gathering = x }) c.gathering_at.ensures)
    (c.done.ensures ∙ ap (λ (os : List Out). record { ticket = None; outs = os; ignored = None }) c.new.ensures.items)
