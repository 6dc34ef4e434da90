use Rattle.std.proofs.Common.{◌∙◌, refl, sym, subst, arith}
use Rattle.std.specs.Ordering.{nat_cmp}
use Rattle.std.specs.Cmp.Lexicographic.{slice_cmp}
use Rattle.craq_names.proofs.Words.{AreBytes, each_byte, back, word_decides, word_leaves}
use Rattle.craq_names.proofs.order.order_of.Goals as goal

pub loop-word-init : goal.loop-word-init
loop-word-init c = record { same = refl; left = each_byte c.args.bytes.now (λ i. (c.type_inv.bytes i).fits); right = each_byte c.args.others.now (λ i. (c.type_inv.others i).fits) }

pub returns-then-word-other : goal.returns-then-word-other
returns-then-word-other c =
    c.cmp.ensures
    ∙ sym (word_decides _ _ _ _ _ _ c.loop-word.invariant.left c.loop-word.invariant.right c.in-Some.ensures.cases.0 c.in-Some-split_first_chunk.ensures.cases.0 (omega (arith, c.in-Some.ensures.cases.2)) (omega (arith, c.in-Some-split_first_chunk.ensures.cases.2)) c.from_be_bytes-word.ensures c.from_be_bytes-other.ensures c.if-word-other.true)
    ∙ c.loop-word.invariant.same

pub loop-word-preserved : goal.loop-word-preserved
loop-word-preserved c =
    record {
      same =
          (λ i. slice_cmp nat_cmp (c.in-Some.ensures.cases.1 i) (c.in-Some-split_first_chunk.ensures.cases.1 i))
          ∙ sym (word_leaves _ _ _ _ _ _ c.loop-word.invariant.left c.loop-word.invariant.right c.in-Some.ensures.cases.0 c.in-Some-split_first_chunk.ensures.cases.0 (omega (arith, c.in-Some.ensures.cases.2)) (omega (arith, c.in-Some-split_first_chunk.ensures.cases.2)) c.from_be_bytes-word.ensures c.from_be_bytes-other.ensures c.if-word-other.false)
          ∙ c.loop-word.invariant.same;
      left = subst AreBytes (sym c.in-Some.ensures.cases.1) (back 8 _ c.loop-word.invariant.left);
      right = subst AreBytes (sym c.in-Some-split_first_chunk.ensures.cases.1) (back 8 _ c.loop-word.invariant.right);
    }
