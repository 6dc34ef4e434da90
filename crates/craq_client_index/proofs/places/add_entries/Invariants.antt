use Rattle.std.proofs.Common.{◌≡◌, ℕ, ◌++◌, take}
use Rattle.std.specs.BTreeMap.{IsOrdered}
use Rattle.std.specs.Ordering.{nat_cmp}
use Rattle.craq_client_index.specs.Indexed.{positions_of, noted_of}
use Rattle.craq_client_index.proofs.places.add_entries.Given as goal

-- the entries so far are indexed
abbrev pub invariant-loop-index : goal.invariant-loop-index
invariant-loop-index l = record {
  noted : (q : ℕ) → noted_of l.places.entries q ≡ noted_of l.initial.places.entries q ++ positions_of q l.after (take l.index l.entries);
  ordered : IsOrdered nat_cmp l.places;
}
