use Rattle.std.proofs.Common.{◌≡◌, Some, ap, sym, ◌∙◌}
use Rattle.std.specs.Prelude.{slice_get}
use Rattle.craq_world.specs.Worlds.{AreRunning}
use Rattle.craq_world.proofs.Chains.{chain_at, found_in}
use Rattle.craq_world.proofs.world.World.find.Goals as goal

pub returns : goal.returns
returns g c =
    let running : AreRunning 0 c.deref.result.now = rw c.deref.ensures.value c.self.invariant in
    let p = chain_at 0 c.deref.result.now c.from-place.result c.in-Some.core.now running c.in-Some.ensures.lookup.3.0 c.in-Some.ensures.lookup.1 in
    let place : c.from-place.result ≡ c.args.chain = cc in
    let same : c.args.self.now ≡ c.deref.result.now = sym (c.deref.ensures.value ∙ c.self.view_is) in
    let at : slice_get c.args.self.now c.args.chain ≡ Some c.in-Some.core.now = ap (λ ws. slice_get ws c.args.chain) same ∙ ap (λ i. slice_get c.deref.result.now i) (sym place) ∙ p.at in
    found_in c.args.self.now c.args.chain c.args.chosen.now c.in-Some.core.now c.find.result at c.find.ensures
