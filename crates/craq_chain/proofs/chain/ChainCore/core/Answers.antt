use Rattle.std.proofs.Common.{sym, subst}
use Rattle.std.specs.List.{AllZip}
use Rattle.craq_chain.specs.Chained.{chain_of_run}
use Rattle.craq_chain.proofs.Places.{no_node}
use Rattle.craq_chain.proofs.Steps.{seen_core}
use Rattle.craq_chain.proofs.chain.ChainCore.core.Goals as goal

pub returns-in-None : goal.returns-in-None
returns-in-None g c =
    let stands : AllZip g.C.Core.represents c.as_slice.result.now (chain_of_run c.args.self.now).nodes = rw c.as_slice.ensures.value (subst (λ w. AllZip g.C.Core.represents c.self.inside.cores.items (chain_of_run w).nodes) c.self.view_is c.self.invariant.parts.nodes) in
    no_node 0 (chain_of_run c.args.self.now).nodes c.args.id (sym (c.in-None.ensures.place (chain_of_run c.args.self.now).nodes stands))

pub returns-in-Some : goal.returns-in-Some
returns-in-Some g c =
    let stands : AllZip g.C.Core.represents c.as_slice.result.now (chain_of_run c.args.self.now).nodes = rw c.as_slice.ensures.value (subst (λ w. AllZip g.C.Core.represents c.self.inside.cores.items (chain_of_run w).nodes) c.self.view_is c.self.invariant.parts.nodes) in
    seen_core g.C.Core.represents c.as_slice.result.now (chain_of_run c.args.self.now).nodes c.args.id c.in-Some.place c.index.result.now stands (sym (c.in-Some.ensures.place (chain_of_run c.args.self.now).nodes stands)) c.in-Some.ensures.within (rw c.as_slice.ensures.value c.index.ensures)
