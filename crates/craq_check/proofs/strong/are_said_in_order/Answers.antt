use Rattle.std.proofs.Common.{◌≡◌, ◌+◌, List, drop, refl, sym, ap, subst, ◌∙◌, arith}
use Rattle.craq_commands.specs.declared.state.State.{State}
use Rattle.craq_commands.specs.SingleCopy.{apply}
use Rattle.craq_commands.specs.declared.command.Update.{Update}
use Rattle.std.specs.Prelude.{is_some}
use Rattle.std.proofs.lemmas.List.{drop_all}
use Rattle.craq_check.specs.Tests.{Placed, HasVersionsUpTo, found_in, are_said}
use Rattle.craq_check.proofs.Bounds.{none_yet}
use Rattle.craq_check.proofs.Placed.{rises, rises_on, goes_on_from, refused_here, at_the_end, front, some_first}
use Rattle.craq_check.proofs.strong.are_said_in_order.Goals as goal

pub loop-update-init : goal.loop-update-init
loop-update-init c =
    let P : State → Type 0 = λ s. HasVersionsUpTo 0 s.objects in
    record {
      count = refl;
      highest = refl;
      bound = subst P (sym c.new-single.ensures) none_yet;
      within = omega arith;
      rise = rises c.args.claims.now c.requires;
      goes_on = ap (λ (s : State). are_said (found_in c.args.asks.now) c.args.claims.now s 0 c.args.updates.now) c.new-single.ensures;
    }

pub returns-in-None : goal.returns-in-None
returns-in-None c =
    refused_here (found_in c.args.asks.now) c.loop-update.single c.loop-update.count (drop c.loop-update.from c.args.claims.now) c.update-item.result (drop (c.loop-update.update-index + 1) c.args.updates.now) (sym c.in-None.ensures.first)
    ∙ ap (are_said (found_in c.args.asks.now) (drop c.loop-update.from c.args.claims.now) c.loop-update.single c.loop-update.count) (sym (front c.args.updates.now c.loop-update.update-index c.update-item.result c.loop-update-test.true c.update-item.is))
    ∙ c.loop-update.invariant.goes_on

pub loop-update-preserved : goal.loop-update-preserved
loop-update-preserved c =
    let later : List Update = drop (c.loop-update.update-index + 1) c.args.updates.now in
    let rest : List Placed = drop c.loop-update.from c.args.claims.now in
    let next : List Placed = drop c.in-Some.next c.args.claims.now in
    let state_is : c.apply.new.self ≡ apply c.loop-update.single c.update-item.result = c.in_ok-apply.ensures.state ∙ ap (apply c.loop-update.single) c.update.ensures in
    record {
      count = ap (λ n. n + 1) c.loop-update.invariant.count;
      highest = omega (arith, c.loop-update.invariant.highest);
      bound = c.in_ok-apply.ensures.bound;
      within = c.in-Some.ensures.within;
      rise = rises_on (found_in c.args.asks.now) c.loop-update.single c.loop-update.count rest next c.loop-update.invariant.rise (sym c.in-Some.ensures.first);
      goes_on =
          ap (λ (s : State). are_said (found_in c.args.asks.now) next s (c.loop-update.count + 1) later) state_is
          ∙ goes_on_from (found_in c.args.asks.now) c.loop-update.single c.loop-update.count rest next c.update-item.result later c.loop-update.invariant.rise (sym c.in-Some.ensures.first)
          ∙ ap (are_said (found_in c.args.asks.now) rest c.loop-update.single c.loop-update.count) (sym (front c.args.updates.now c.loop-update.update-index c.update-item.result c.loop-update-test.true c.update-item.is))
          ∙ c.loop-update.invariant.goes_on;
    }

pub returns : goal.returns
returns c =
    c.is_some.ensures
    ∙ some_first (λ i. drop i c.args.claims.now) c.said_from-last.result
    ∙ ap is_some c.said_from-last.ensures.first
    ∙ at_the_end (found_in c.args.asks.now) c.loop-update.single c.loop-update.count (drop c.loop-update.from c.args.claims.now) c.loop-update.invariant.rise
    ∙ ap (are_said (found_in c.args.asks.now) (drop c.loop-update.from c.args.claims.now) c.loop-update.single c.loop-update.count) (sym (drop_all c.loop-update.update-index c.args.updates.now c.loop-update-test.false))
    ∙ c.loop-update.invariant.goes_on
