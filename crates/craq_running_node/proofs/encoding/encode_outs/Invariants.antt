use Rattle.std.proofs.Common.{drop}
use Rattle.craq_running_node.proofs.SentOrder.{Goes}
use Rattle.craq_running_node.proofs.encoding.encode_outs.Given as goal

abbrev pub invariant-loop-out : goal.invariant-loop-out
invariant-loop-out l = Goes l.receipt l.outs l.sent.items (drop l.out-index l.outs)
