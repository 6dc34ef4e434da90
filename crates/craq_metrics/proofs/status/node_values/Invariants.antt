use Rattle.std.proofs.Common.{◌≡◌, ◌++◌, map, drop}
use Rattle.serde_json.specs.View.{view}
use Rattle.craq_metrics.specs.Status.{node_data}
use Rattle.craq_metrics.proofs.status.node_values.Given as goal

-- the items are the nodes so far
abbrev pub invariant-loop-node : goal.invariant-loop-node
invariant-loop-node l = map view l.items.items ++ map node_data (drop l.node-index l.nodes) ≡ map node_data l.nodes
