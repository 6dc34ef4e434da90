use Rattle.craq_node_invariant.proofs.CompactedSteps.{alike_steps}
use Rattle.craq_node_invariant.proofs.alike_nodes_step_alike.Goals as goal

pub returns : goal.returns
returns c = alike_steps
