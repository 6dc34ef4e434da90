use Rattle.std.proofs.Common.{◌≡◌, ◌∙◌, subst, sym}
use Rattle.craq_names.specs.declared.name.NodeName.{NodeName}
use Rattle.craq_store_parts.specs.Witnessed.{IsWitnessedRemoval}
use Rattle.craq_workers.proofs.Changing.{same_name}
use Rattle.craq_workers.proofs.store.Store.remove_after.Goals as goal

-- the node that has stopped is the one that was named
pub returns-clause-removed : goal.returns-clause-removed
returns-clause-removed g c =
    let same : c.in-Some.stopped.stopped ≡ c.args.node.now = sym c.name.ensures ∙ same_name c.name.result c.args.node.now c.if-ne.ensures in
    subst (λ (n : NodeName). IsWitnessedRemoval c.args.seen n c.in_ok-removed.removed.0 c.in_ok-removed.removed.1) same c.in_ok-removed.ensures.removed
