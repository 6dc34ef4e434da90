use Rattle.std.proofs.Common.{◌≡◌, ◌≤◌, ◌++◌, ℕ, List, []}
use Rattle.std.specs.List.{AllByRecursion}
use Rattle.craq_compact_state.specs.Placed.{later_of, objects_of, IsPlaced}
use Rattle.craq_compact_state.proofs.objects.objects_placed.Given as goal

-- the moved objects and the remaining ones are all objects, and each has one version
abbrev pub invariant-loop-key : goal.invariant-loop-key
invariant-loop-key l = record {
  moved : objects_of l.table ++ l.key-iterator.rest.items ≡ l.fn.objects;
  later : (q : List ℕ) → later_of l.table q ≡ [];
  written : AllByRecursion (λ (o : List ℕ × (ℕ × List ℕ)). 1 ≤ o.1.0) l.key-iterator.rest.items;
  placed : IsPlaced l.table;
}
