use Rattle.std.proofs.Common.{◌≤◌, ◌-◌, ℕ, List, take}
use Rattle.craq_commands.specs.Objects.{version_of}
use Rattle.craq_model.specs.Past.{values_after}
use Rattle.craq_compact_state.specs.Applied.{AreApplied}
use Rattle.craq_compact_state.specs.Bytes.{bytes_of_entries, Counts}
use Rattle.craq_compact_state.specs.Followed.{AreNext}
use Rattle.craq_compact_state.specs.Indexed.{AreIndexed}
use Rattle.craq_compact_state.specs.Placed.{objects_of, state_at, IsPlaced}
use Rattle.craq_compact_state.specs.Room.{AreAppliable, HasRoomForReplies}
use Rattle.craq_compact_state.proofs.applying.apply.Given as goal

-- the entries so far are applied
abbrev pub invariant-loop-alloc : goal.invariant-loop-alloc
invariant-loop-alloc l = record {
  from : l.initial.entries.base ≤ l.entries.base;
  to : l.entries.base ≤ l.position;
  applied : AreApplied (state_at (objects_of l.initial.counted.table) l.initial.replies.kept) l.initial.entries (state_at (objects_of l.counted.table) l.replies.kept) l.entries;
  indexed : AreIndexed l.counted.table l.entries l.indexed;
  next : (q : List ℕ) → AreNext (version_of (objects_of l.counted.table) q) (values_after l.entries.entries q);
  placed : IsPlaced l.counted.table;
  counted : Counts l.counted.bytes (objects_of l.counted.table) (bytes_of_entries l.entries.entries);
  room : HasRoomForReplies l.initial.replies (take (l.position - l.initial.entries.base) l.initial.entries.entries) → AreAppliable l.initial.entries.base l.initial.indexed (take (l.position - l.initial.entries.base) l.initial.entries.entries) → HasRoomForReplies l.replies (take (l.position - l.entries.base) l.entries.entries) × AreAppliable l.entries.base l.indexed (take (l.position - l.entries.base) l.entries.entries);
}

abbrev pub decreases-loop-alloc : goal.decreases-loop-alloc
decreases-loop-alloc l = l.position - l.entries.base
