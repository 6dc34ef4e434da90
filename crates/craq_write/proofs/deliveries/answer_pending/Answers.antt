use Rattle.std.proofs.Common.{◌≡◌, ◌<◌, ◌∙◌, ◌++◌, [], List, length, drop, map, sym, ap, arith, true, append-nil}
use Rattle.craq_model.specs.declared.waiting.WaitingUpdate.{WaitingUpdate}
use Rattle.craq_model.specs.Deliveries.{pending_updates}
use Rattle.craq_model.specs.Settle.{answer_outs, update_given}
use Rattle.craq_history.specs.Waiting.{rise}
use Rattle.craq_write.proofs.Pending.{is_later, none_from_later}
use Rattle.craq_write.proofs.deliveries.answer_pending.Goals as goal

pub returns-then-rise : goal.returns-then-rise
returns-then-rise c =
    let us = c.args.updates.now.items in
    let outs = c.loop-place.outs.items in
    let place = c.loop-place.place in
    let position = c.args.position in
    let within : place < length us = omega (arith, c.loop-place-test.true, c.len-place-end.ensures) in
    let later : position < c.get-update.result.now.position = is_later c.get-update.result.now.position position c.le.result c.le.ensures c.if-le.false in
    let rises : rise us ≡ true = sym c.rise.ensures ∙ c.if-rise.true in
    let none : pending_updates position (drop place us) ≡ [] = none_from_later position place us c.get-update.result.now rises c.get-update.ensures later within in
    sym (append-nil outs) ∙ ap (λ (l : List WaitingUpdate). outs ++ answer_outs (map update_given l)) (sym none) ∙ c.loop-place.invariant
