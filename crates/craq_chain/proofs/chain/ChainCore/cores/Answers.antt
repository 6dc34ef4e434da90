use Rattle.std.proofs.Common.{subst}
use Rattle.std.specs.List.{AllZip}
use Rattle.craq_chain.specs.Chained.{chain_of_run}
use Rattle.craq_chain.proofs.chain.ChainCore.cores.Goals as goal

pub returns : goal.returns
returns g c =
    rw c.as_slice.ensures.value (subst (λ w. AllZip g.C.Core.represents c.self.inside.cores.items (chain_of_run w).nodes) c.self.view_is c.self.invariant.parts.nodes)
