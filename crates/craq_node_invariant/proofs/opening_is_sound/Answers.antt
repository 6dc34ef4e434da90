use Rattle.craq_node_invariant.proofs.Openings.{member_is_sound, joined_is_sound}
use Rattle.craq_node_invariant.proofs.opening_is_sound.Goals as goal

pub returns : goal.returns
returns c = record { member = member_is_sound; joined = joined_is_sound }
