use Rattle.std.proofs.Common.{◌≡◌, ◌≤◌, ◌<◌, ◌+◌, ◌∷◌, ◌^◌, length, get_or, refl, sym, ap, subst, arith, ◌∙◌}
use Rattle.craq_names.specs.Limits.{greatest}
use Rattle.craq_runs.specs.Chain.{sent_in}
use Rattle.craq_chain.specs.Chained.{Chained, chain_of_run}
use Rattle.craq_chain.specs.Sent.{sent_by}
use Rattle.craq_chain.proofs.Taking.{took, refused, all_counted}
use Rattle.craq_chain.proofs.chain.ChainCore.take.Goals as goal

pub invariant_of-self-in-Ok : goal.invariant_of-self-in-Ok
invariant_of-self-in-Ok g c =
    let s = c.self.inside in
    let w : Chained = record { chain = s.chain; run = s.run } in
    let same : c.into_vec-moves.result.items ≡ s.run.moves = c.into_vec-moves.ensures ∙ c.replace.ensures.value in
    let a = c.in-Ok.ensures.step (chain_of_run w) c.self.invariant.parts (c.self.invariant.messages ∙ ap sent_by (sym same)) in
    let lent : c.as_slice.result.now ≡ s.sent.items = c.as_slice.ensures.value ∙ c.in-Ok.ensures.same_counts in
    let items = ap length c.in-Ok.ensures.same_counts in
    let count : c.len.result ≡ length s.sent.items = omega (arith, c.step_of.new.sent.ok) in
    let last : c.counted_before-before.result ≡ length (sent_by s.run.moves) = all_counted w s.sent.items c.counted_before-before.result c.self.invariant.counts (c.counted_before-before.ensures ∙ ap (λ xs. get_or (0 ∷ xs) c.len.result 0) lent ∙ ap (λ k. get_or (0 ∷ s.sent.items) k 0) count) in
    let low : length (sent_by s.run.moves) ≤ 2 ^ 63 = subst (λ n. n ≤ 2 ^ 63) (all_counted w s.sent.items (get_or (0 ∷ s.sent.items) (length s.sent.items) 0) c.self.invariant.counts refl) c.in-Ok.ensures.few in
    let kept = ap length c.in-Ok.ensures.same_moves ∙ ap length same in
    let few : length s.run.moves < greatest = omega (arith, c.step_of.new.moves.ok, c.in-Ok.ensures.room) in
    let sends : c.sends_in.result ≡ length (sent_in c.in-Ok.step.outs) = c.sends_in.ensures.count ∙ ap (λ os. length (sent_in os)) c.as_slice-in-Ok.ensures in
    let fits : length (sent_by s.run.moves) + length (sent_in c.in-Ok.step.outs) ≤ greatest = omega (arith, low, sends, c.sends_in.ensures.few, c.as_slice-in-Ok.type_inv) in
    let k = took g.C.Core.represents s.cores.items c.step_of.new.cores.items s.master c.step_of.new.master s.sent.items (c.counted_before-before.result + c.sends_in.result) w (record { chosen = c.args.chosen; step = c.in-Ok.step }) c.self.invariant a c.in-Ok.ensures.spelled c.in-Ok.ensures.typed few fits (omega (arith, last, sends)) in
    rw (c.push_reserved.ensures.items, c.in-Ok.ensures.same_counts, c.of-in-Ok.ensures, c.push_reserved-in-Ok.ensures.items, c.in-Ok.ensures.same_moves, same) k.standing

pub returns-in-Ok : goal.returns-in-Ok
returns-in-Ok g c =
    let s = c.self.inside in
    let w : Chained = record { chain = s.chain; run = s.run } in
    let same : c.into_vec-moves.result.items ≡ s.run.moves = c.into_vec-moves.ensures ∙ c.replace.ensures.value in
    let a = c.in-Ok.ensures.step (chain_of_run w) c.self.invariant.parts (c.self.invariant.messages ∙ ap sent_by (sym same)) in
    let lent : c.as_slice.result.now ≡ s.sent.items = c.as_slice.ensures.value ∙ c.in-Ok.ensures.same_counts in
    let items = ap length c.in-Ok.ensures.same_counts in
    let count : c.len.result ≡ length s.sent.items = omega (arith, c.step_of.new.sent.ok) in
    let last : c.counted_before-before.result ≡ length (sent_by s.run.moves) = all_counted w s.sent.items c.counted_before-before.result c.self.invariant.counts (c.counted_before-before.ensures ∙ ap (λ xs. get_or (0 ∷ xs) c.len.result 0) lent ∙ ap (λ k. get_or (0 ∷ s.sent.items) k 0) count) in
    let low : length (sent_by s.run.moves) ≤ 2 ^ 63 = subst (λ n. n ≤ 2 ^ 63) (all_counted w s.sent.items (get_or (0 ∷ s.sent.items) (length s.sent.items) 0) c.self.invariant.counts refl) c.in-Ok.ensures.few in
    let kept = ap length c.in-Ok.ensures.same_moves ∙ ap length same in
    let few : length s.run.moves < greatest = omega (arith, c.step_of.new.moves.ok, c.in-Ok.ensures.room) in
    let sends : c.sends_in.result ≡ length (sent_in c.in-Ok.step.outs) = c.sends_in.ensures.count ∙ ap (λ os. length (sent_in os)) c.as_slice-in-Ok.ensures in
    let fits : length (sent_by s.run.moves) + length (sent_in c.in-Ok.step.outs) ≤ greatest = omega (arith, low, sends, c.sends_in.ensures.few, c.as_slice-in-Ok.type_inv) in
    let k = took g.C.Core.represents s.cores.items c.step_of.new.cores.items s.master c.step_of.new.master s.sent.items (c.counted_before-before.result + c.sends_in.result) w (record { chosen = c.args.chosen; step = c.in-Ok.step }) c.self.invariant a c.in-Ok.ensures.spelled c.in-Ok.ensures.typed few fits (omega (arith, last, sends)) in
    let grown = ap length c.of-in-Ok.ensures in
    record {
      gives = (rw (← c.self.view_is, c.of-in-Ok.ensures, c.push_reserved-in-Ok.ensures.items, c.in-Ok.ensures.same_moves, same) k.wanted, omega (arith, c.push_reserved-in-Ok.new.self.ok));
      typed = rw (c.of-in-Ok.ensures, c.push_reserved-in-Ok.ensures.items, c.in-Ok.ensures.same_moves, same) k.standing.run;
    }

pub returns-in-Err : goal.returns-in-Err
returns-in-Err g c =
    let s = c.self.inside in
    let w : Chained = record { chain = s.chain; run = s.run } in
    let same : c.into_vec-moves.result.items ≡ s.run.moves = c.into_vec-moves.ensures ∙ c.replace.ensures.value in
    let a = c.in-Err.ensures.step (chain_of_run w) c.self.invariant.parts (c.self.invariant.messages ∙ ap sent_by (sym same)) in
    record {
      gives = (
        rw (← c.self.view_is) (refused w c.args.chosen c.in-Err.refusal a.0),
        rw (c.of.ensures, c.in-Err.ensures.same_moves, same) c.self.view_is,
      );
      typed = rw (c.of.ensures, c.in-Err.ensures.same_moves, same) c.self.invariant.run;
    }
