use Rattle.craq_chain_invariants.proofs.Invariants.{predecessors_are_ready}
use Rattle.craq_chain_invariants.proofs.predecessors_are_ready.Goals as goal

pub returns : goal.returns
returns c = predecessors_are_ready
