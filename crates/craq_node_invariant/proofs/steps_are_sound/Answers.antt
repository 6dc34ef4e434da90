use Rattle.craq_node_invariant.proofs.Steps.{step_is_sound}
use Rattle.craq_node_invariant.proofs.steps_are_sound.Goals as goal

pub returns : goal.returns
returns c = step_is_sound
