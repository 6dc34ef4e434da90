use Rattle.std.proofs.Common.{◌≡◌, ◌+◌, ◌++◌, drop}
use Rattle.craq_model.specs.Past.{values_in, values_after}
use Rattle.craq_compact_history.specs.Later.{last_version}
use Rattle.craq_compact_history.proofs.later.version_past.Given as goal

-- a scan of the remaining values from the version found so far gives the result
abbrev pub invariant-loop-entry : goal.invariant-loop-entry
invariant-loop-entry l = last_version l.last (values_after (drop l.entry-index l.entries) l.key) ≡ last_version l.fn.version (values_after l.entries l.key)

abbrev pub invariant-loop-write : goal.invariant-loop-write
invariant-loop-write l = last_version l.last (values_in (drop l.write-index l.write-items) l.key ++ values_after (drop (l.entry-index + 1) l.entries) l.key) ≡ last_version l.fn.version (values_after l.entries l.key)
