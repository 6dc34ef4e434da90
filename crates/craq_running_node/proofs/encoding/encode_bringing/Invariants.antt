use Rattle.std.proofs.Common.{drop}
use Rattle.craq_running_node.proofs.SentOrder.{Brings}
use Rattle.craq_running_node.proofs.encoding.encode_bringing.Given as goal

abbrev pub invariant-loop-out : goal.invariant-loop-out
invariant-loop-out l = Brings l.first l.receipt l.outs l.sent.items l.index (drop l.out-index l.outs)
