use Rattle.craq_running_node.specs.Routes.{retired}
use Rattle.craq_running_chain.proofs.Routes.{Changed}
use Rattle.craq_running_chain.proofs.chain.RoutingTable.retire.Given as goal

-- the ways up to here are changed
abbrev pub invariant-loop-route : goal.invariant-loop-route
invariant-loop-route g l = Changed (retired l.id l.removed) l.route-index l.initial.route-items l.route-items
