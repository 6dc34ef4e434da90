use Rattle.std.proofs.Common.{◌≡◌, ℕ, ◌+◌, ◌-◌, ◌≤◌, ◌++◌, List, [], drop, length, unwrap_or}
use Rattle.std.specs.List.{AllZip}
use Rattle.craq_model.specs.Past.{newest_within, values_after}
use Rattle.craq_compact_state.specs.Indexed.{GivesValue}
use Rattle.craq_compact_state.specs.Placed.{settled_in}
use Rattle.craq_compact_state.proofs.Found.{places_in, refs_in}
use Rattle.craq_compact_state.proofs.lookups.within_list.Given as goal

-- the values that the places to come give, and those that are not listed, end in the one that is sought
abbrev pub invariant-loop-index : goal.invariant-loop-index
invariant-loop-index l = record {
  goes_on : (vs : List (ℕ × List ℕ)) × AllZip (GivesValue l.entries) (refs_in (drop l.index (places_in l.list.versions))) vs × (newest_within (l.version + l.above) (l.last, l.bytes) (vs ++ values_after (drop (l.indexed - l.entries.base) l.entries.entries) l.key) ≡ newest_within (l.version + l.above) (unwrap_or (settled_in l.list.versions) (0, [])) (values_after l.entries.entries l.key));
  short : length l.bytes ≤ 4096;
}
