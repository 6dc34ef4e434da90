use Rattle.std.proofs.Common.{◌≡◌, ◌∙◌, IfOk, ap, subst, sym}
use Rattle.craq_names.specs.declared.name.NodeName.{NodeName}
use Rattle.craq_store_parts.specs.Witnessed.{IsWitnessedStop}
use Rattle.craq_workers.proofs.Changing.{same_name}
use Rattle.craq_workers.proofs.store.Store.stop_after.Goals as goal

-- the node that was found is the one that was named
pub returns-clause-stopped : goal.returns-clause-stopped
returns-clause-stopped g c =
    let named : c.deref-2.result.now.name ≡ c.args.node.now = same_name c.deref-2.result.now.name c.args.node.now c.if-ne.ensures in
    let same : c.deref-4.result.now.name ≡ c.args.node.now = ap (λ n. n.name) (c.deref-4.ensures ∙ sym c.deref-2.ensures) ∙ named in
    subst (λ (n : NodeName). IfOk c.stop_node.result (λ r. IsWitnessedStop c.args.seen n r.0 r.1)) same c.stop_node.ensures.stopped
