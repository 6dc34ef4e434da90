use Rattle.std.proofs.Common.{◌<◌, length, get_or, ap, sym, arith}
use Rattle.craq_running_node.specs.Routes.{shut}
use Rattle.craq_running_chain.proofs.Routes.{changed_more}
use Rattle.craq_running_chain.proofs.chain.RoutingTable.close.Goals as goal

pub loop-route-preserved : goal.loop-route-preserved
loop-route-preserved g c =
    let within : c.loop-route.route-index < length c.loop-route.route-items = omega (arith, c.loop-route-test.true) in
    changed_more shut c.loop-route.route-index c.deref_mut-route-items.result.now c.loop-route.route-items c.route-item.result (shut (get_or c.loop-route.route-items c.loop-route.route-index c.route-item.result)) within c.route-item.is (ap shut (sym c.route-item.is)) c.loop-route.invariant
