use Rattle.std.proofs.Common.{◌≡◌, take, drop}
use Rattle.craq_commands.specs.SingleCopy.{after_entries}
use Rattle.craq_model.specs.Deliveries.{are_applicable}
use Rattle.craq_model.specs.Past.{newest_in}
use Rattle.craq_node_invariant.specs.Compacted.{compacted_in}
use Rattle.craq_compact_history.specs.Stored.{stored}
use Rattle.craq_compact_history.proofs.history.CompactingHistoryHistory.are_next.Given as goal

-- each visited entry fits; the rest follows them
abbrev pub invariant-loop-place : goal.invariant-loop-place
invariant-loop-place l =
    are_applicable (after_entries (newest_in (compacted_in (stored l.self.held.base l.self.held.state l.self.held.entries l.self.acknowledged))) (take l.place l.entries)) (drop l.place l.entries)
    ≡ are_applicable (newest_in (compacted_in (stored l.self.held.base l.self.held.state l.self.held.entries l.self.acknowledged))) l.entries
