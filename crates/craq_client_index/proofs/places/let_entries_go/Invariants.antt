use Rattle.std.proofs.Common.{◌≡◌, ℕ, ◌+◌, ◌++◌, List, drop}
use Rattle.std.specs.BTreeMap.{IsOrdered}
use Rattle.std.specs.Ordering.{nat_cmp}
use Rattle.craq_commands.specs.declared.entry.Entry.{Entry}
use Rattle.craq_client_index.specs.Indexed.{positions_of, noted_of}
use Rattle.craq_client_index.proofs.places.let_entries_go.Given as goal

-- the remaining entries are indexed
abbrev pub invariant-loop-entry : goal.invariant-loop-entry
invariant-loop-entry l = record {
  noted : (after : ℕ) (later : List Entry) (q : ℕ) → noted_of l.initial.places.entries q ≡ positions_of q after (l.entries ++ later) → noted_of l.places.entries q ≡ positions_of q (after + l.entry-index) (drop l.entry-index l.entries ++ later);
  ordered : IsOrdered nat_cmp l.places;
}
