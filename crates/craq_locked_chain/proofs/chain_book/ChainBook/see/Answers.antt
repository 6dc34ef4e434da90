use Rattle.craq_locked_chain.proofs.chain_book.ChainBook.see.Goals as goal

pub invariant_of-self : goal.invariant_of-self
invariant_of-self g c = rw c.see.ensures.same c.self.invariant
