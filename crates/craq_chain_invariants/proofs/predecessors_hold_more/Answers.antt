use Rattle.craq_chain_invariants.proofs.Invariants.{predecessors_hold_more}
use Rattle.craq_chain_invariants.proofs.predecessors_hold_more.Goals as goal

pub returns : goal.returns
returns c = predecessors_hold_more
