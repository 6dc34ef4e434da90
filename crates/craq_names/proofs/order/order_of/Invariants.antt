use Rattle.std.proofs.Common.{◌≡◌, length}
use Rattle.std.specs.Ordering.{nat_cmp}
use Rattle.std.specs.Cmp.Lexicographic.{slice_cmp}
use Rattle.craq_names.proofs.Words.{AreBytes}
use Rattle.craq_names.proofs.order.order_of.Given as goal

abbrev pub invariant-loop-word : goal.invariant-loop-word
invariant-loop-word l =
    record {
      same : slice_cmp nat_cmp l.left l.right ≡ slice_cmp nat_cmp l.bytes l.others;
      left : AreBytes l.left;
      right : AreBytes l.right;
    }

abbrev pub decreases-loop-word : goal.decreases-loop-word
decreases-loop-word l = length l.left
