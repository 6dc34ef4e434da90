use Rattle.craq_seat.specs.Calls.{receipt_in}
use Rattle.craq_locked_chain.proofs.Becoming.{becomes}
use Rattle.craq_locked_chain.proofs.chain_book.ChainBook.take.Goals as goal

pub invariant_of-self : goal.invariant_of-self
invariant_of-self g c = becomes c.self.inside.book c.take.new.self c.args.event 0 (receipt_in c.take.result) c.take.ensures.step c.self.invariant
