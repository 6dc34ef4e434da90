use Rattle.std.proofs.Common.{sym}
use Rattle.craq_chain.specs.Parts.{AreParts}
use Rattle.craq_chain.proofs.Places.{place_known}
use Rattle.craq_chain.proofs.Refusing.{lacks}
use Rattle.craq_chain.proofs.nodes.deliver.Goals as goal

pub returns-in_err-copied-in-Some-clause-step : goal.returns-in_err-copied-in-Some-clause-step
returns-in_err-copied-in-Some-clause-step g c = λ m d h.
    let at = c.in-Some.ensures.place d.nodes (rw c.as_slice.ensures.value h.nodes) in
    lacks (AreParts g.C.Core.represents c.args.cores.now.items m) d _ c.from_residual.result _ c.from_residual.ensures (place_known 0 c.in-Some.place d.nodes c.args.message.now.receiver (sym at)) h
