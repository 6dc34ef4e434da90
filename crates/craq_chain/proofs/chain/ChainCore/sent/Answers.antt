use Rattle.std.proofs.Common.{◌≡◌, ◌∷◌, length, get_or, sym, ap, subst, arith, ◌∙◌}
use Rattle.craq_chain.specs.Chained.{Chained, chain_of_run}
use Rattle.craq_chain.specs.Sent.{sent_by}
use Rattle.craq_chain.proofs.Taking.{all_counted}
use Rattle.craq_chain.proofs.chain.ChainCore.sent.Goals as goal

pub returns : goal.returns
returns g c =
    let s = c.self.inside in
    let w : Chained = record { chain = s.chain; run = s.run } in
    let count : c.len.result ≡ length s.sent.items = omega (arith, s.sent.ok) in
    let last : c.counted_before.result ≡ length (sent_by s.run.moves) = all_counted w s.sent.items c.counted_before.result c.self.invariant.counts (c.counted_before.ensures ∙ ap (λ xs. get_or (0 ∷ xs) c.len.result 0) c.as_slice.ensures.value ∙ ap (λ k. get_or (0 ∷ s.sent.items) k 0) count) in
    subst (λ (x : Chained). c.counted_before.result ≡ length (chain_of_run x).messages) c.self.view_is (last ∙ sym (ap length c.self.invariant.messages))
