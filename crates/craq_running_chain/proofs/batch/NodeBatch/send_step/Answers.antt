use Rattle.std.proofs.Common.{refl, length}
use Rattle.craq_locked_chain.specs.Held.{cell_in}
use Rattle.craq_seat.specs.Cells.{receipt_of}
use Rattle.craq_running_chain.proofs.Owed.{still}
use Rattle.craq_running_chain.proofs.batch.NodeBatch.send_step.Goals as goal

pub returns-clause-still : goal.returns-clause-still
returns-clause-still g c =
    let cell = cell_in c.args.self.now.seated in
    let sent = c.messages_of-messages.result.sent in
    still cell cell.last (receipt_of cell) sent (length sent) c.args.self.now.owed c.take.new.self c.is_empty.result refl refl c.is_empty.ensures c.if-is_empty.false
    (rw c.deref_mut.ensures.value at c.messages_of-messages.ensures.sent)

pub returns-then-is_empty-clause-seated : goal.returns-then-is_empty-clause-seated
returns-then-is_empty-clause-seated g c = rw (c.messages_of-messages.ensures.same, c.deref_mut.ensures.value)

pub returns-clause-seated : goal.returns-clause-seated
returns-clause-seated g c = rw (c.messages_of-messages.ensures.same, c.deref_mut.ensures.value)
