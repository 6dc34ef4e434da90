use Rattle.std.proofs.Common.{◌≡◌, ◌≤◌, ◌+◌, ◌-◌, ◌^◌, drop, min}
use Rattle.craq_compact_history.specs.Counted.{first_writes}
use Rattle.craq_compact_history.proofs.history.count_first.Given as goal

-- the count so far and that of the writes that are left is that of all
abbrev pub invariant-loop-write : goal.invariant-loop-write
invariant-loop-write l = (l.count ≤ 2 ^ 64 - 1) × (min (l.count + first_writes (drop l.write-index l.writes)) (2 ^ 64 - 1) ≡ min (first_writes l.writes) (2 ^ 64 - 1))
