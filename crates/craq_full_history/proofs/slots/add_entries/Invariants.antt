use Rattle.std.proofs.Common.{◌≡◌, ◌+◌, ◌≤◌, length, drop}
use Rattle.craq_full_history.specs.Slots.{slots_after}
use Rattle.craq_full_history.proofs.slots.add_entries.Given as goal

-- the rest, added to the slots so far, gives the result
abbrev pub invariant-loop-entry : goal.invariant-loop-entry
invariant-loop-entry l = record {
  index : l.index ≡ l.first + l.entry-index;
  few : length l.slots.items ≤ 8;
  goes_on : slots_after l.client l.index (drop l.entry-index l.entries) l.slots.items ≡ slots_after l.client l.first l.entries l.fn.slots.items;
}
