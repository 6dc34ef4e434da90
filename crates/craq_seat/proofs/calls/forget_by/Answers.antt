use Rattle.std.proofs.Common.{◌∙◌}
use Rattle.craq_seat.proofs.Own.{forgets, sends}
use Rattle.craq_seat.proofs.calls.forget_by.Goals as goal

pub returns-in-Answer : goal.returns-in-Answer
returns-in-Answer c = rw c.in-Answer.is (c.forget.ensures ∙ forgets c.args.waiting.now.items c.in-Answer.ticket c.in-Answer.answer)

pub returns-in-Send : goal.returns-in-Send
returns-in-Send c = rw c.in-Send.is (sends c.args.waiting.now.items c.in-Send.to c.in-Send.message)
