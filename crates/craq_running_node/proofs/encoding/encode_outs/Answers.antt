use Rattle.craq_running_node.proofs.SentOrder.{adds_next, all_sent, begins, can_add}
use Rattle.craq_running_node.proofs.encoding.encode_outs.Goals as goal

pub loop-out-init : goal.loop-out-init
loop-out-init c = begins c.args.receipt.now c.args.outs.now c.new-sent.result.items c.new-sent.ensures.items c.requires.few c.requires.spelled

pub add_out-requires : goal.add_out-requires
add_out-requires c =
    can_add c.args.receipt.now c.args.outs.now c.loop-out.sent.items c.loop-out.out-index c.out-item.result c.loop-out.invariant c.loop-out-test.true c.out-item.is

pub loop-out-preserved : goal.loop-out-preserved
loop-out-preserved c =
    adds_next c.args.receipt.now c.args.outs.now c.loop-out.sent.items c.add_out.new.sent.items c.loop-out.out-index c.out-item.result c.loop-out.invariant c.loop-out-test.true c.out-item.is c.in_ok-add_out.ensures

pub returns : goal.returns
returns c = all_sent c.args.receipt.now c.args.outs.now c.loop-out.sent.items c.loop-out.out-index c.loop-out.invariant c.loop-out-test.false
