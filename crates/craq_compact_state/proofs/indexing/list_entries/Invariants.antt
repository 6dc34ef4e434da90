use Rattle.std.proofs.Common.{◌≡◌, ◌≤◌, ◌-◌, drop, max}
use Rattle.craq_compact_state.specs.Indexed.{AreIndexed}
use Rattle.craq_compact_state.specs.Placed.{objects_of, IsPlaced}
use Rattle.craq_compact_state.specs.Room.{HasRoomForVersions}
use Rattle.craq_compact_state.proofs.indexing.list_entries.Given as goal

-- the entries so far are indexed
abbrev pub invariant-loop-table : goal.invariant-loop-table
invariant-loop-table l = record {
  objects : objects_of l.table ≡ objects_of l.initial.table;
  indexed : AreIndexed l.table l.entries l.indexed;
  more : l.initial.indexed ≤ l.indexed;
  most : l.indexed ≤ max l.initial.indexed l.most;
  placed : IsPlaced l.table;
  room : HasRoomForVersions l.initial.table.rooms (drop (l.initial.indexed - l.entries.base) l.entries.entries) → HasRoomForVersions l.table.rooms (drop (l.indexed - l.entries.base) l.entries.entries);
}

abbrev pub decreases-loop-table : goal.decreases-loop-table
decreases-loop-table l = l.most - l.indexed
