use Rattle.craq_chain_invariants.proofs.Invariants.{histories_are_whole}
use Rattle.craq_chain_invariants.proofs.histories_are_whole.Goals as goal

pub returns : goal.returns
returns c = histories_are_whole
