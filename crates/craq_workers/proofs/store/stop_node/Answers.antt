use Rattle.std.proofs.Common.{◌≡◌, rules, subst}
use Rattle.craq_names.specs.declared.name.NodeName.{NodeName}
use Rattle.craq_store_parts.specs.Witnessed.{IsWitnessedStop}
use Rattle.craq_workers.proofs.store.stop_node.Goals as goal

-- the desk under the lock is the node's
pub returns-clause-stopped : goal.returns-clause-stopped
returns-clause-stopped g c =
    let same : c.deref_mut.result.now.desk.cell.opening.name ≡ c.args.node.now.name = search rules in
    subst (λ (n : NodeName). IsWitnessedStop c.args.seen n c.in_ok-stopped.stopped.0 c.in_ok-stopped.stopped.1) same c.in_ok-stopped.ensures.stopped
