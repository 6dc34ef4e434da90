use Rattle.std.proofs.Common.{sym, refl, subst}
use Rattle.std.specs.List.{AllByRecursion}
use Rattle.craq_model.specs.Members.{IsMembership}
use Rattle.craq_world.specs.Promise.{AreExplained}
use Rattle.craq_world.specs.Worlds.{AreRunning, opened_from}
use Rattle.craq_world.proofs.Chains.{all_explained, opened_running}
use Rattle.craq_world.proofs.world.World.open.Goals as goal

pub invariant_of-result : goal.invariant_of-result
invariant_of-result g c =
    let memberships : AllByRecursion IsMembership c.args.lists.now = c.if-not-are_memberships.ensures.0 refl in
    subst (AreRunning 0) (sym c.in_ok-chains.ensures.ok) (opened_running 0 c.args.lists.now memberships)

pub returns-clause-explained : goal.returns-clause-explained
returns-clause-explained g c =
    let memberships : AllByRecursion IsMembership c.args.lists.now = c.if-not-are_memberships.ensures.0 refl in
    subst (AreExplained 0) (sym c.in_ok-chains.ensures.ok) (all_explained 0 (opened_from 0 c.args.lists.now) (opened_running 0 c.args.lists.now memberships))
