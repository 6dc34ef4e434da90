use Rattle.std.proofs.Common.{◌≡◌, ◌++◌, map, drop, take, string_bytes}
use Rattle.craq_epochs.specs.Mastered.{opened_master}
use Rattle.craq_locked_chain.specs.Membered.{AreMembershipsOf}
use Rattle.craq_workers.specs.declared.store.ChainStatus.{ChainStatus}
use Rattle.craq_workers.proofs.store.statuses_of.Given as goal

-- the statuses are those of the chains so far
abbrev pub invariant-loop-chain : goal.invariant-loop-chain
invariant-loop-chain g l =
    (map (λ (s : ChainStatus). string_bytes s.name) l.statuses.items ++ map (λ c. string_bytes c.name) (drop l.chain-index l.chains) ≡ map (λ c. string_bytes c.name) l.chains)
    × AreMembershipsOf (map (λ c. opened_master c.id c.first.members) (take l.chain-index l.chains)) (map (λ (s : ChainStatus). s.config) l.statuses.items)
