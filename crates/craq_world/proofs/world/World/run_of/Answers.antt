use Rattle.std.proofs.Common.{◌≡◌, arith, subst, ◌∙◌}
use Rattle.craq_chain_invariants.proofs.Invariants.{runs_keep_invariants}
use Rattle.craq_promise.proofs.Promised.{explained}
use Rattle.craq_runs.specs.Typed.{IsTypedRunOf}
use Rattle.craq_world.specs.Worlds.{AreRunning}
use Rattle.craq_world.proofs.Chains.{chain_at}
use Rattle.craq_world.proofs.world.World.run_of.Goals as goal

pub returns-in-Some-clause-run : goal.returns-in-Some-clause-run
returns-in-Some-clause-run g c =
    let running : AreRunning 0 c.deref.result.now = rw c.deref.ensures.value c.self.invariant in
    let p = chain_at 0 c.deref.result.now c.from-place.result c.in-Some.core.now running c.in-Some.ensures.lookup.3.0 c.in-Some.ensures.lookup.1 in
    let id : c.from-place.result ≡ c.args.chain = cc in
    let own : c.in-Some.core.now.chain ≡ c.args.chain = p.id ∙ omega (arith, id) in
    subst (λ n. IsTypedRunOf n c.run.result.now) own c.run.ensures.run

pub returns-in-Some-clause-explained : goal.returns-in-Some-clause-explained
returns-in-Some-clause-explained g c = explained c.args.chain c.run.result.now (returns-in-Some-clause-run g c)

pub returns-in-Some-clause-invariants : goal.returns-in-Some-clause-invariants
returns-in-Some-clause-invariants g c = runs_keep_invariants c.args.chain c.run.result.now (returns-in-Some-clause-run g c)
