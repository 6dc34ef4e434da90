use Rattle.std.proofs.Common.{◌<◌, ◌∙◌, length, ap, sym, arith}
use Rattle.craq_running_node.specs.Routes.{retired}
use Rattle.craq_running_chain.proofs.Routes.{changed_more}
use Rattle.craq_running_chain.proofs.chain.RoutingTable.retire.Goals as goal

pub loop-route-preserved : goal.loop-route-preserved
loop-route-preserved g c =
    let within : c.loop-route.route-index < length c.loop-route.route-items = omega (arith, c.loop-route-test.true) in
    changed_more (retired c.args.id c.args.removed) c.loop-route.route-index c.deref_mut-route-items.result.now c.loop-route.route-items c.route-item.result c.retire.new.self within c.route-item.is (c.retire.ensures ∙ ap (retired c.args.id c.args.removed) (sym c.route-item.is)) c.loop-route.invariant
