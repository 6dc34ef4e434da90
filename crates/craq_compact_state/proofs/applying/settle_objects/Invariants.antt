use Rattle.std.proofs.Common.{◌≡◌, ℕ, ◌+◌, List, drop}
use Rattle.craq_commands.specs.SingleCopy.{with_writes}
use Rattle.craq_model.specs.Past.{values_in}
use Rattle.craq_compact_state.specs.Bytes.{bytes_of_writes, Counts}
use Rattle.craq_compact_state.specs.Followed.{CanApply}
use Rattle.craq_compact_state.specs.Placed.{objects_of, count_of, later_of, versions_of, IsPlaced}
use Rattle.craq_compact_state.proofs.applying.settle_objects.Given as goal

-- the settled writes and the remaining ones are all writes
abbrev pub invariant-loop-write : goal.invariant-loop-write
invariant-loop-write l = record {
  written : with_writes (objects_of l.counted.table) l.write-iterator.rest.items ≡ with_writes (objects_of l.initial.counted.table) l.fn.writes;
  later : (q : List ℕ) → drop (count_of l.write-iterator.rest.items q) (later_of l.counted.table q) ≡ drop (count_of l.fn.writes q) (later_of l.initial.counted.table q);
  ready : (q : List ℕ) → CanApply (values_in l.write-iterator.rest.items q) (versions_of l.counted.table q);
  placed : IsPlaced l.counted.table;
  counted : (more : ℕ) → Counts l.initial.counted.bytes (objects_of l.initial.counted.table) (bytes_of_writes l.fn.writes + more) → Counts l.counted.bytes (objects_of l.counted.table) (bytes_of_writes l.write-iterator.rest.items + more);
}
