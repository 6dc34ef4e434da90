use Rattle.std.proofs.Common.{◌≡◌, drop}
use Rattle.craq_commands.specs.SingleCopy.{with_writes}
use Rattle.craq_full_history.proofs.states.put_writes.Given as goal

-- the rest, written to the objects so far, gives the result
abbrev pub invariant-loop-write : goal.invariant-loop-write
invariant-loop-write l = with_writes l.objects.items (drop l.write-index l.writes) ≡ with_writes l.fn.objects.items l.writes
