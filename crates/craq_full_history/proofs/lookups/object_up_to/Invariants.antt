use Rattle.std.proofs.Common.{◌≡◌, ◌+◌, ◌≤◌, ◌++◌, length, drop}
use Rattle.craq_model.specs.Past.{values_in, values_after, newest_within}
use Rattle.craq_full_history.proofs.lookups.object_up_to.Given as goal

-- a scan of the remaining values from the one found so far gives the result
abbrev pub invariant-loop-entry : goal.invariant-loop-entry
invariant-loop-entry l = record {
  goes_on : newest_within (l.base + l.above) (l.last, l.bytes) (values_after (drop l.entry-index l.later) l.key) ≡ newest_within (l.base + l.above) (l.fn.version, l.fn.value) (values_after l.later l.key);
  short : length l.bytes ≤ 4096;
}

abbrev pub invariant-loop-write : goal.invariant-loop-write
invariant-loop-write l = record {
  goes_on : newest_within (l.base + l.above) (l.last, l.bytes) (values_in (drop l.write-index l.write-items) l.key ++ values_after (drop (l.entry-index + 1) l.later) l.key) ≡ newest_within (l.base + l.above) (l.fn.version, l.fn.value) (values_after l.later l.key);
  short : length l.bytes ≤ 4096;
}
