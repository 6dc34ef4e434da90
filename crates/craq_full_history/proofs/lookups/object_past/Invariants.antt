use Rattle.std.proofs.Common.{◌≡◌, ◌+◌, ◌≤◌, ◌++◌, length, drop}
use Rattle.craq_model.specs.Past.{values_in, values_after}
use Rattle.craq_full_history.specs.Scans.{last_value}
use Rattle.craq_full_history.proofs.lookups.object_past.Given as goal

-- a scan of the remaining values from the one found so far gives the result
abbrev pub invariant-loop-entry : goal.invariant-loop-entry
invariant-loop-entry l = record {
  goes_on : last_value (l.last, l.bytes) (values_after (drop l.entry-index l.entries) l.key) ≡ last_value (l.fn.version, l.fn.value) (values_after l.entries l.key);
  short : length l.bytes ≤ 4096;
}

abbrev pub invariant-loop-write : goal.invariant-loop-write
invariant-loop-write l = record {
  goes_on : last_value (l.last, l.bytes) (values_in (drop l.write-index l.write-items) l.key ++ values_after (drop (l.entry-index + 1) l.entries) l.key) ≡ last_value (l.fn.version, l.fn.value) (values_after l.entries l.key);
  short : length l.bytes ≤ 4096;
}
