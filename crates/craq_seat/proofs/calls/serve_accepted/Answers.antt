use Rattle.std.proofs.Common.{sym}
use Rattle.craq_seat.proofs.Own.{own_served}
use Rattle.craq_seat.proofs.calls.serve_accepted.Goals as goal

pub returns-in-Some : goal.returns-in-Some
returns-in-Some c =
    rw c.in-Ok.is (own_served c.args.waiting.now.items c.in-Ok.asked c.args.taken.now.step.now.ticket c.args.taken.now.step.now.outs c.args.taken.now.receipt.now c.args.taken.now.pass c.in-Some.answer.now c.answer_own.result c.in-Some.ensures c.answer_own.ensures)
