use Rattle.craq_chain_invariants.proofs.Invariants.{copies_are_committed}
use Rattle.craq_chain_invariants.proofs.copies_are_committed.Goals as goal

pub returns : goal.returns
returns c = copies_are_committed
