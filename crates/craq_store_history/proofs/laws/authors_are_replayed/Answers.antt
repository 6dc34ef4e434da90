use Rattle.craq_store_history.proofs.Adding.{master_seen, node_seen}
use Rattle.craq_store_history.proofs.laws.authors_are_replayed.Goals as goal

pub returns-clause-node : goal.returns-clause-node
returns-clause-node c = node_seen

pub returns-clause-master : goal.returns-clause-master
returns-clause-master c = master_seen
