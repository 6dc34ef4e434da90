use Rattle.craq_event_loop.proofs.Halves.{answer_ends, refusal_ends}
use Rattle.craq_event_loop.proofs.connection_state.end_turn.Goals as goal

pub returns-in-Ok-clause-ends : goal.returns-in-Ok-clause-ends
returns-in-Ok-clause-ends c =
    answer_ends c.args.request.now c.args.outcome c.args.calls.now.receipts.items c.reply_of_call.new.calls.receipts.items c.in-Ok.reply c.in-Ok.ensures.called c.in-Ok.ensures.closed c.in-Ok.ensures.own

pub returns-in-Err-clause-ends : goal.returns-in-Err-clause-ends
returns-in-Err-clause-ends c =
    refusal_ends c.args.request.now c.args.outcome c.args.calls.now.receipts.items c.reply_of_call.new.calls.receipts.items c.in-Err.refusal c.in-Err.ensures.refused c.in-Err.ensures.same c.in-Err.ensures.closed c.in-Err.ensures.own
