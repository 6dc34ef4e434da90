use Rattle.std.proofs.Common.{◌≡◌, ◌<◌, ◌+◌, ◌%◌, ◌^◌, drop}
use Rattle.craq_compact_state.specs.Bytes.{bytes_of_entries}
use Rattle.craq_compact_state.proofs.counted.bytes_of_entries.Given as goal

-- the count so far and that of the entries that are left is that of all
abbrev pub invariant-loop-entry : goal.invariant-loop-entry
invariant-loop-entry l = (l.bytes < 2 ^ 64) × ((l.bytes + bytes_of_entries (drop l.entry-index l.entries)) % 2 ^ 64 ≡ bytes_of_entries l.entries % 2 ^ 64)
