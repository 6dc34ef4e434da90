use Rattle.std.proofs.Common.{◌≡◌, ◌<◌, ◌+◌, ◌%◌, ◌^◌, drop}
use Rattle.craq_compact_state.specs.Bytes.{bytes_of_writes}
use Rattle.craq_compact_state.proofs.counted.bytes_of_writes.Given as goal

-- the count so far and that of the writes that are left is that of all
abbrev pub invariant-loop-write : goal.invariant-loop-write
invariant-loop-write l = (l.bytes < 2 ^ 64) × ((l.bytes + bytes_of_writes (drop l.write-index l.writes)) % 2 ^ 64 ≡ bytes_of_writes l.writes % 2 ^ 64)
