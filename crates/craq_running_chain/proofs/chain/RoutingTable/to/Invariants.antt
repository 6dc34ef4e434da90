use Rattle.std.proofs.Common.{◌≡◌, ◌==◌, drop}
use Rattle.std.specs.List.{find}
use Rattle.craq_running_chain.proofs.chain.RoutingTable.to.Given as goal

-- the way that is looked for is among the ways from here on
abbrev pub invariant-loop-route : goal.invariant-loop-route
invariant-loop-route g l = find (λ w. w.name.node == l.id) (drop l.route-index l.route-items) ≡ find (λ w. w.name.node == l.id) l.route-items
