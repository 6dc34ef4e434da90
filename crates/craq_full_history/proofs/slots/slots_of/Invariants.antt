use Rattle.std.proofs.Common.{◌≡◌, ◌++◌, length, drop}
use Rattle.craq_full_history.specs.Slots.{slots_from}
use Rattle.craq_full_history.proofs.slots.slots_of.Given as goal

-- the slots so far and those of the rest are the result
abbrev pub invariant-loop-number : goal.invariant-loop-number
invariant-loop-number l = record {
  slots : l.slots.items ++ slots_from l.number-index (drop l.number-index l.window) ≡ slots_from 0 l.window;
  count : length l.slots.items ≡ l.number-index;
}
