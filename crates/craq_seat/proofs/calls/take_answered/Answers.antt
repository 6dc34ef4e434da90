use Rattle.std.proofs.Common.{◌≡◌, ◌∷◌, rules, subst}
use Rattle.craq_node_invariant.specs.Sound.{AreEncodable}
use Rattle.craq_seat.proofs.Moved.{one_after, one_called, rest_among}
use Rattle.craq_seat.proofs.calls.take_answered.Goals as goal

pub returns-in_err-answer_call-clause-others : goal.returns-in_err-answer_call-clause-others
returns-in_err-answer_call-clause-others c =
    one_after c.args.waiting.now.items c.loop-out.waiting.items c.answer_call.new.waiting.items c.loop-out.rest.now c.in-Some.later.now c.args.outs.now c.in-Some.out.now (search rules) c.answer_call.ensures.others c.loop-out.invariant.1 c.loop-out.invariant.2

pub loop-out-preserved : goal.loop-out-preserved
loop-out-preserved c =
    let is : c.loop-out.rest.now ≡ c.in-Some.out.now ∷ c.in-Some.later.now = search rules in (
      one_called c.loop-out.receipts.items c.answer_call.new.receipts.items c.args.waiting.now.items c.loop-out.waiting.items c.answer_call.new.waiting.items c.args.answered.now c.loop-out.rest.now c.in-Some.later.now c.args.outs.now c.in-Some.out.now is c.answer_call.ensures.others c.in_ok-answer_call.ensures.receipts c.loop-out.invariant.0,
      one_after c.args.waiting.now.items c.loop-out.waiting.items c.answer_call.new.waiting.items c.loop-out.rest.now c.in-Some.later.now c.args.outs.now c.in-Some.out.now is c.answer_call.ensures.others c.loop-out.invariant.1 c.loop-out.invariant.2,
      rest_among c.loop-out.rest.now c.in-Some.later.now c.args.outs.now c.in-Some.out.now is c.loop-out.invariant.2,
      (subst AreEncodable is c.loop-out.invariant.3).1,
    )

pub answer_call-requires : goal.answer_call-requires
answer_call-requires c =
    let is : c.loop-out.rest.now ≡ c.in-Some.out.now ∷ c.in-Some.later.now = search rules in
    (subst AreEncodable is c.loop-out.invariant.3).0
