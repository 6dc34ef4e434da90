use Rattle.craq_node_invariant.proofs.Stamps.{stamped_is_encodable}
use Rattle.craq_node_invariant.proofs.stamps_are_free.Goals as goal

pub returns : goal.returns
returns c = stamped_is_encodable
