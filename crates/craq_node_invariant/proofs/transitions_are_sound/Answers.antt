use Rattle.craq_node_invariant.proofs.Steps.{transition_is_sound}
use Rattle.craq_node_invariant.proofs.transitions_are_sound.Goals as goal

pub returns : goal.returns
returns c = transition_is_sound
