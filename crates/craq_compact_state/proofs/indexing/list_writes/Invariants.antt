use Rattle.std.proofs.Common.{◌≡◌, ◌≤◌, ◌+◌, ◌++◌, ℕ, List, drop, take}
use Rattle.craq_model.specs.Past.{values_in}
use Rattle.craq_versions.specs.Tables.{room_at}
use Rattle.craq_compact_state.specs.Followed.{AreNext}
use Rattle.craq_compact_state.specs.Indexed.{written_in}
use Rattle.craq_compact_state.specs.Placed.{count_of, later_of, newest_version, objects_of, versions_of, IsPlaced}
use Rattle.craq_compact_state.proofs.indexing.list_writes.Given as goal

-- the writes so far are indexed, and the others give the next versions
abbrev pub invariant-loop-index : goal.invariant-loop-index
invariant-loop-index l = record {
  objects : objects_of l.table ≡ objects_of l.initial.table;
  later : (q : List ℕ) → later_of l.table q ≡ later_of l.initial.table q ++ written_in l.position 0 (take l.index l.writes) q;
  next : (q : List ℕ) → AreNext (newest_version (versions_of l.table q)) (values_in (drop l.index l.writes) q);
  placed : IsPlaced l.table;
  room : (q : List ℕ) → room_at l.initial.table q ≤ room_at l.table q + count_of (take l.index l.writes) q;
}
