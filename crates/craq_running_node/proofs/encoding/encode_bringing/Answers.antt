use Rattle.std.proofs.Common.{◌∙◌, sym, arith}
use Rattle.craq_running_node.proofs.SentOrder.{all_brought, brings_begin, next_answered, next_index, next_left, next_sent}
use Rattle.craq_running_node.proofs.encoding.encode_bringing.Goals as goal
use Rattle.craq_running_node.proofs.encoding.encode_bringing.Goals.{in-Answer, in-Send, else-brings_from, then-brings_from+in_ok-encode_one-in-Send+in_ok-push-in-Send}

pub loop-out-init : goal.loop-out-init
loop-out-init c = brings_begin c.args.first c.args.receipt.now c.args.outs.now c.new-sent.result.items c.new-sent.ensures.items c.requires.few c.requires.spelled

pub overflow_cast-index : goal.overflow_cast-index
overflow_cast-index c =
    let below = (next_index c.args.first c.args.receipt.now c.args.outs.now c.loop-out.sent.items c.loop-out.index c.loop-out.out-index c.in-Send.to c.out-item.result c.in-Send.message c.loop-out.invariant c.loop-out-test.true c.out-item.is c.in-Send.is).0 in
    omega (arith, below)

pub encode_one-requires : goal.encode_one-requires
encode_one-requires c =
    (next_index c.args.first c.args.receipt.now c.args.outs.now c.loop-out.sent.items c.loop-out.index c.loop-out.out-index c.in-Send.to c.out-item.result c.in-Send.message c.loop-out.invariant c.loop-out-test.true c.out-item.is c.in-Send.is).1

pub loop-out-preserved : goal.loop-out-preserved
loop-out-preserved c = elim c.match-out.branch [
  | in-Send w ↦ elim w.if-brings_from.branch [
    | then-brings_from+in_ok-encode_one-in-Send+in_ok-push-in-Send v ↦
        rw (w.sent-is, w.index-is, v.sent-is)
        (next_sent c.args.first c.args.receipt.now c.args.outs.now c.loop-out.sent.items v.push.new.self.items c.loop-out.index c.loop-out.out-index w.in-Send.to c.out-item.result w.in-Send.message v.in_ok-encode_one-in-Send.field-0
        c.loop-out.invariant c.loop-out-test.true c.out-item.is w.in-Send.is (sym w.brings_from.ensures ∙ v.if-brings_from.true) v.in_ok-encode_one-in-Send.ensures v.in_ok-push-in-Send.ensures.items)
    | else-brings_from v ↦
        rw (w.sent-is, w.index-is, v.sent-is)
        (next_left c.args.first c.args.receipt.now c.args.outs.now c.loop-out.sent.items c.loop-out.index c.loop-out.out-index w.in-Send.to c.out-item.result w.in-Send.message
        c.loop-out.invariant c.loop-out-test.true c.out-item.is w.in-Send.is (sym w.brings_from.ensures ∙ v.if-brings_from.false))
  ]
  | in-Answer w ↦
      rw (w.sent-is, w.index-is)
      (next_answered c.args.first c.args.receipt.now c.args.outs.now c.loop-out.sent.items c.loop-out.index c.loop-out.out-index w.in-Answer.ticket c.out-item.result w.in-Answer.answer c.loop-out.invariant c.loop-out-test.true c.out-item.is w.in-Answer.is)
]

pub returns : goal.returns
returns c = all_brought c.args.first c.args.receipt.now c.args.outs.now c.loop-out.sent.items c.loop-out.index c.loop-out.out-index c.loop-out.invariant c.loop-out-test.false
