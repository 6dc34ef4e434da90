use Rattle.std.proofs.Common.{◌≡◌, take}
use Rattle.craq_compact_state.specs.Placed.{objects_of, IsPlaced, LaterTakenBack}
use Rattle.craq_compact_state.proofs.indexing.unlist.Given as goal

-- from each object as many versions are removed as the visited writes give it
abbrev pub invariant-loop-write : goal.invariant-loop-write
invariant-loop-write l = record {
  objects : objects_of l.table ≡ objects_of l.initial.table;
  later : LaterTakenBack (take l.write-index l.writes) l.initial.table l.table;
  placed : IsPlaced l.table;
}
