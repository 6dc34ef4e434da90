use Rattle.craq_history.specs.Nodes.{plain_of}
use Rattle.craq_node.proofs.Kept.{transition_sound}
use Rattle.craq_node.proofs.node_core.take_floor.Goals as goal

pub apply_change-requires-clause-sound : goal.apply_change-requires-clause-sound
apply_change-requires-clause-sound g c = transition_sound (plain_of g.H.History.past c.args.node.now) c.in-Ok.change c.in-Ok.step _ c.requires.sound c.in-Ok.ensures.transition.is
