use Rattle.std.proofs.Common.{◌≡◌, ◌++◌, drop, map}
use Rattle.std.specs.List.{filter_map}
use Rattle.std.specs.Option.{option_map}
use Rattle.craq_running_chain.proofs.chain.RoutingTable.all.Given as goal

-- the nodes so far and those of the ways to come are all
abbrev pub invariant-loop-route : goal.invariant-loop-route
invariant-loop-route g l =
    map (λ n. n.value) l.nodes.items ++ filter_map (λ route. option_map (λ n. n.value) route.node) (drop l.route-index l.route-items) ≡ filter_map (λ route. option_map (λ n. n.value) route.node) l.route-items
