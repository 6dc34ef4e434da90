use Rattle.std.proofs.Common.{◌≡◌, ◌<◌, ◌≤◌, ◌∙◌, sym, ap, refl, length, arith, []}
use Rattle.std.proofs.lemmas.Bool.{false≢true}
use Rattle.std.proofs.lemmas.List.{nil_from_length}
use Rattle.craq_model.specs.Deliveries.{later_updates}
use Rattle.craq_history.proofs.Waiting.{first_is_later, first_goes, is_before, is_not_before, rest_rises}
use Rattle.craq_history.specs.Waiting.{rise}
use Rattle.craq_history.proofs.waiting_updates.drop_first.Goals as goal

pub returns-then-lt-clause-left : goal.returns-then-lt-clause-left
returns-then-lt-clause-left c =
    let position = c.args.position in
    let later : position < c.in-Some.first.now.position = is_before position c.in-Some.first.now.position c.lt.result c.lt.ensures c.if-lt.true in
    sym (first_is_later position c.loop-first.items.items c.in-Some.first.now c.loop-first.invariant.rise c.in-Some.ensures.lookup later) ∙ c.loop-first.invariant.left

pub loop-first-preserved : goal.loop-first-preserved
loop-first-preserved c =
    let position = c.args.position in
    let all = c.loop-first.items.ok.0 in
    let some : 0 < c.loop-first.items.len = c.in-Some.ensures.variant.0 refl in
    let any : 0 < length c.loop-first.items.items = omega (arith, all, some) in
    let within : c.in-Some.first.now.position ≤ position = is_not_before position c.in-Some.first.now.position c.lt.result c.lt.ensures c.if-lt.false in
    record {
      left = ap (later_updates position) c.pop_front.ensures.rest ∙ first_goes position c.loop-first.items.items c.in-Some.first.now any c.in-Some.ensures.lookup within ∙ c.loop-first.invariant.left;
      rise = ap rise c.pop_front.ensures.rest ∙ rest_rises c.loop-first.items.items c.loop-first.invariant.rise;
    }

pub returns-clause-left : goal.returns-clause-left
unfolding later_updates
returns-clause-left c =
    let all = c.loop-first.items.ok.0 in
    let no : 0 < c.loop-first.items.len → ⊥ = λ some. false≢true (c.in_default.ensures.variant.1 some) in
    let none : length c.loop-first.items.items ≡ 0 = omega (arith, all, no) in
    let empty : c.loop-first.items.items ≡ [] = nil_from_length c.loop-first.items.items none in
    empty ∙ sym (ap (later_updates c.args.position) empty) ∙ c.loop-first.invariant.left
