use Rattle.std.proofs.Common.{◌≡◌, drop}
use Rattle.std.specs.List.{find}
use Rattle.craq_metrics.specs.Health.{is_unserved}
use Rattle.craq_metrics.proofs.health.first_unserved.Given as goal

-- the first of the chains that are left is the first of all
abbrev pub invariant-loop-chain : goal.invariant-loop-chain
invariant-loop-chain l = find is_unserved (drop l.chain-index l.chains) ≡ find is_unserved l.chains
