use Rattle.std.proofs.Common.{◌≡◌, ◌++◌, map, drop}
use Rattle.serde_json.specs.View.{view}
use Rattle.craq_metrics.specs.Status.{chain_data}
use Rattle.craq_metrics.proofs.status.chain_values.Given as goal

-- the items are the chains so far
abbrev pub invariant-loop-chain : goal.invariant-loop-chain
invariant-loop-chain l = map view l.items.items ++ map chain_data (drop l.chain-index l.chains) ≡ map chain_data l.chains
