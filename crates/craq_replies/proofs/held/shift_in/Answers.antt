use Rattle.std.proofs.Common.{◌≡◌, ◌∙◌, ◌-◌, ℕ, suc, ◌++◌, ◌∷◌, length, take, drop, sym, ap, arith}
use Rattle.craq_replies.proofs.Shifted.{begins, ends, kept_length, moved}
use Rattle.craq_replies.proofs.held.shift_in.Goals as goal

pub loop-index-init : goal.loop-index-init
loop-index-init c = record {
  all = begins c.args.replies.now.items c.args.newest _ (omega (arith, c.len-index.ensures));
  within = omega (arith, c.len-index.ensures);
}

pub loop-index-preserved : goal.loop-index-preserved
loop-index-preserved c =
    let k : ℕ = c.loop-index.index in
    let next : k ≡ suc (k - 1) = omega (arith, c.loop-index-test.true) in
    let w = c.loop-index.replies.items in
    record {
      all =
          (λ i. take (k - 1) (c.exchange-kept.ensures.new i) ++ c.exchange-kept.result ∷ drop (k - 1) (c.exchange-kept.ensures.new i))
          ∙ moved w (k - 1) c.exchange-kept.result c.loop-index.kept (omega (arith, c.loop-index-test.true, c.loop-index.invariant.within)) c.exchange-kept.ensures.old
          ∙ ap (λ (n : ℕ). take n w ++ c.loop-index.kept ∷ drop n w) (sym next)
          ∙ c.loop-index.invariant.all;
      within = omega (arith, ap length c.exchange-kept.ensures.new ∙ kept_length w (k - 1) c.loop-index.kept, c.loop-index.invariant.within);
    }

pub returns : goal.returns
returns c = ends c.loop-index.replies.items _ c.loop-index.kept c.loop-index.index (omega (arith, c.loop-index-test.false)) c.loop-index.invariant.all
