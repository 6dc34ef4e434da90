use Rattle.std.proofs.Common.{sym, ◌∙◌}
use Rattle.craq_model.specs.Past.{newest_in}
use Rattle.craq_node_invariant.specs.Compacted.{compacted_in}
use Rattle.craq_full_history.proofs.Batches.{next_fits}
use Rattle.craq_compact_history.specs.Stored.{stored}
use Rattle.craq_compact_history.proofs.history.CompactingHistoryHistory.are_next.Goals as goal

pub loop-place-preserved : goal.loop-place-preserved
loop-place-preserved c =
    next_fits (newest_in (compacted_in (stored c.args.self.now.held.base c.args.self.now.held.state c.args.self.now.held.entries c.args.self.now.acknowledged))) c.args.entries.now c.loop-place.place c.index-entries-place.result c.loop-place-test.true c.index-entries-place.is (sym c.is_next.ensures ∙ c.if-not-is_next.false)
    ∙ c.loop-place.invariant
