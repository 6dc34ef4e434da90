use Rattle.craq_chain_invariants.proofs.Invariants.{members_are_nodes}
use Rattle.craq_chain_invariants.proofs.members_are_nodes.Goals as goal

pub returns : goal.returns
returns c = members_are_nodes
