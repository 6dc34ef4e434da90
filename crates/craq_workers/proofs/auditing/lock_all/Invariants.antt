use Rattle.std.proofs.Common.{◌≡◌, length}
use Rattle.craq_workers.proofs.auditing.lock_all.Given as goal

-- as many guards as nodes so far
abbrev pub invariant-loop-node : goal.invariant-loop-node
invariant-loop-node g l = length l.seats.items ≡ l.node-index
