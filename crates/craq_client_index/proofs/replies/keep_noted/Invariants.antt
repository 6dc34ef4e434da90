use Rattle.std.proofs.Common.{◌≤◌, length, drop}
use Rattle.craq_full_history.specs.Slots.{slots_after}
use Rattle.craq_client_index.proofs.Keeping.{GoesOn}
use Rattle.craq_client_index.proofs.replies.keep_noted.Given as goal

-- the remaining entries lead to the wanted slots
abbrev pub invariant-loop-place : goal.invariant-loop-place
invariant-loop-place l = record {
  few : length l.slots.items ≤ 8;
  goes_on : GoesOn l.fn.client l.after l.first l.entries (drop l.place l.positions) l.slots.items (slots_after l.fn.client l.first l.entries l.fn.slots.items);
}
