use Rattle.std.proofs.Common.{drop}
use Rattle.craq_running_node.specs.Replies.{without_memory}
use Rattle.craq_running_node.proofs.Telling.{Left}
use Rattle.craq_running_node.proofs.steps.give_up_step.Given as goal

-- the callers of the outs that are left are refused as all are
abbrev pub invariant-loop-out : goal.invariant-loop-out
invariant-loop-out g l = Left l.fn.callers.items l.callers.items l.fn.replies l.replies (without_memory l.outs) (without_memory (drop l.out-index l.outs))
