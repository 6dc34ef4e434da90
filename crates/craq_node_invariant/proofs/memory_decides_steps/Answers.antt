use Rattle.craq_node_invariant.proofs.CompactedSteps.{transition_remembered, step_remembered}
use Rattle.craq_node_invariant.proofs.memory_decides_steps.Goals as goal

pub returns-clause-transition : goal.returns-clause-transition
returns-clause-transition c = transition_remembered

pub returns-clause-step : goal.returns-clause-step
returns-clause-step c = step_remembered
