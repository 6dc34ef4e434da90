use Rattle.craq_node_invariant.proofs.CompactedSoundness.{remembered_is}
use Rattle.craq_node_invariant.proofs.remembered_nodes_are_sound.Goals as goal

pub returns : goal.returns
returns c = remembered_is
