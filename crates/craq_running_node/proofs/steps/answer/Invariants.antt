use Rattle.std.proofs.Common.{◌≡◌}
use Rattle.craq_store_parts.specs.Recorded.{HaveReplied}
use Rattle.craq_running_node.specs.Replies.{others_of}
use Rattle.craq_running_node.proofs.Telling.{Left, Owns}
use Rattle.craq_running_node.proofs.steps.answer.Given as goal

-- the receipts that are left go to their callers as all do, and the own one is among them or was met; the node gave each of them
abbrev pub invariant-loop-receipt : goal.invariant-loop-receipt
invariant-loop-receipt g l = record {
  left : Left l.fn.callers.items l.callers.items l.fn.replies l.replies (others_of l.fn.answering.ticket l.fn.receipts.items) (others_of l.fn.answering.ticket l.receipt-iterator.rest.items);
  own : Owns l.fn.answering.ticket l.own l.fn.receipts.items l.receipt-iterator.rest.items;
  same : l.answering ≡ l.fn.answering;
  replied : HaveReplied l.fn.answering.token l.fn.answering.name l.receipt-iterator.rest.items;
}
