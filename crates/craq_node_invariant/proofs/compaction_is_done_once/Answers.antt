use Rattle.craq_node_invariant.proofs.CompactedPasts.{compacted_twice}
use Rattle.craq_node_invariant.proofs.compaction_is_done_once.Goals as goal

pub returns : goal.returns
returns c = compacted_twice
