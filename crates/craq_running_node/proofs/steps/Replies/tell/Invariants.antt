use Rattle.std.specs.Prelude.{⊤}
use Rattle.std.specs.Vec.Iter.{into_iter_len}
use Rattle.craq_running_node.proofs.steps.Replies.tell.Given as goal

abbrev pub invariant-loop-reported : goal.invariant-loop-reported
invariant-loop-reported g l = ⊤

abbrev pub decreases-loop-reported : goal.decreases-loop-reported
decreases-loop-reported g l = into_iter_len l.left
