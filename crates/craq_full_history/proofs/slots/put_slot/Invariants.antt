use Rattle.std.proofs.Common.{◌≡◌, ◌++◌, take, drop}
use Rattle.craq_names.specs.Maps.{put_number}
use Rattle.craq_full_history.proofs.slots.put_slot.Given as goal

-- the insertion point is not before the visited slots, and the slots are unchanged
abbrev pub invariant-loop-place : goal.invariant-loop-place
invariant-loop-place l = record {
  same : l.slots.items ≡ l.fn.slots.items;
  later : take l.place l.slots.items ++ put_number (drop l.place l.slots.items) l.slot.0 l.slot.1 ≡ put_number l.fn.slots.items l.slot.0 l.slot.1;
}
