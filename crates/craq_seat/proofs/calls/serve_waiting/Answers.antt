use Rattle.craq_seat.proofs.Moved.{none_served}
use Rattle.craq_seat.proofs.calls.serve_waiting.Goals as goal

pub returns : goal.returns
returns c =
    none_served c.args.waiting.now.items c.take_answered-receipts.new.waiting.items c.forget_answered.new.waiting.items c.args.receipt.now c.args.outs.now c.take_answered-receipts.result c.take_answered-receipts.ensures.receipts c.take_answered-receipts.ensures.others c.forget_answered.ensures
