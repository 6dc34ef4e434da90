use Rattle.std.proofs.Common.{sym, ◌∙◌}
use Rattle.craq_commands.specs.SingleCopy.{after_entries}
use Rattle.craq_full_history.proofs.Batches.{next_fits}
use Rattle.craq_full_history.proofs.history.FullHistoryHistory.are_next.Goals as goal

pub loop-place-preserved : goal.loop-place-preserved
loop-place-preserved c =
    next_fits (after_entries c.args.self.now.base_state c.args.self.now.entries.items) c.args.entries.now c.loop-place.place c.index-entries-place.result c.loop-place-test.true c.index-entries-place.is (sym c.is_next.ensures ∙ c.if-not-is_next.false)
    ∙ c.loop-place.invariant
