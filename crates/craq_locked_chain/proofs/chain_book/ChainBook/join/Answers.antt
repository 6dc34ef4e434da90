use Rattle.craq_seat.specs.declared.journal.BookEvent.TheVariants as books
use Rattle.craq_seat.specs.Calls.{receipt_in}
use Rattle.craq_locked_chain.proofs.Becoming.{becomes}
use Rattle.craq_locked_chain.proofs.chain_book.ChainBook.join.Goals as goal

pub invariant_of-self : goal.invariant_of-self
invariant_of-self g c = becomes c.self.inside.book c.join.new.self (books.Join c.args.node) 0 (receipt_in c.join.result) c.join.ensures.step c.self.invariant
