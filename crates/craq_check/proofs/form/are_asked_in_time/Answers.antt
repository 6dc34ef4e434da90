use Rattle.std.proofs.Common.{◌≡◌, ℕ, ◌+◌, ◌∙◌, true, get_or, take, sym, ap, subst}
use Rattle.std.specs.Prelude.{nat_le}
use Rattle.std.specs.List.{list_all}
use Rattle.craq_check.proofs.InTime.{later_pass, both_pass, time_passed}
use Rattle.craq_check.proofs.form.are_asked_in_time.Goals as goal

pub are_first_at_most-requires : goal.are_first_at_most-requires
are_first_at_most-requires c = later_pass (take c.loop-count.looked c.args.asks.now) c.loop-count.number c.loop-count.invariant.by_now

pub loop-count-preserved : goal.loop-count-preserved
loop-count-preserved c =
    let P : ℕ → Type 0 = λ n. list_all (λ a. nat_le a (c.loop-count.number + 1)) (take n c.args.asks.now) ≡ true in
    let before : P c.loop-count.looked = later_pass (take c.loop-count.looked c.args.asks.now) c.loop-count.number c.loop-count.invariant.by_now in
    let here : P (get_or c.args.lens.now c.loop-count.count-index 0) = sym c.if-not-are_first_at_most.ensures in
    record {
      number = ap (λ n. n + 1) c.loop-count.invariant.number;
      by_now = subst P (sym c.max-looked.ensures) (both_pass (λ a. nat_le a (c.loop-count.number + 1)) c.args.asks.now c.loop-count.looked (get_or c.args.lens.now c.loop-count.count-index 0) before here);
      goes_on = time_passed c.args.asks.now c.args.lens.now (c.loop-count.number + 1) c.loop-count.count-index c.loop-count-test.true here ∙ c.loop-count.invariant.goes_on;
    }
