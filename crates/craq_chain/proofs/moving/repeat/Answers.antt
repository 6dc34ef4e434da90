use Rattle.std.proofs.Common.{◌≡◌, ◌==◌, false, arith, inr}
use Rattle.craq_chain.specs.Parts.{AreParts}
use Rattle.craq_chain.proofs.Refusing.{weaker}
use Rattle.craq_chain.proofs.moving.repeat.Goals as goal

pub returns-else-get-eq0-clause-step : goal.returns-else-get-eq0-clause-step
returns-else-get-eq0-clause-step g c = λ d h.
    let other : (c.args.id == 0) ≡ false = grind arith in
    rw other (weaker (AreParts g.C.Core.represents c.tick.new.cores.items c.args.master.now) d _ _ c.tick.result _ (λ k. inr k) (c.tick.ensures.step c.args.master.now d h))
