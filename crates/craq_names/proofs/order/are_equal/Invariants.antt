use Rattle.std.proofs.Common.{◌≡◌, nat_eq, length}
use Rattle.std.specs.Cmp.Lexicographic.{pointwise}
use Rattle.craq_names.proofs.order.are_equal.Given as goal

abbrev pub invariant-loop-byte : goal.invariant-loop-byte
invariant-loop-byte l = (pointwise nat_eq l.left.rest.now l.right.rest.now ≡ pointwise nat_eq l.bytes l.others)

abbrev pub decreases-loop-byte : goal.decreases-loop-byte
decreases-loop-byte l = length l.left.rest.now
