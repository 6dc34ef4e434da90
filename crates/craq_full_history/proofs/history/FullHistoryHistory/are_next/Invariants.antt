use Rattle.std.proofs.Common.{◌≡◌, take, drop}
use Rattle.craq_commands.specs.SingleCopy.{after_entries}
use Rattle.craq_model.specs.Deliveries.{are_applicable}
use Rattle.craq_full_history.proofs.history.FullHistoryHistory.are_next.Given as goal

-- each visited entry fits; the rest follows them
abbrev pub invariant-loop-place : goal.invariant-loop-place
invariant-loop-place l =
    are_applicable (after_entries (after_entries l.self.base_state l.self.entries.items) (take l.place l.entries)) (drop l.place l.entries)
    ≡ are_applicable (after_entries l.self.base_state l.self.entries.items) l.entries
