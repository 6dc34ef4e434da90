use Rattle.craq_store_history.proofs.Adding.{called_may, empty, master_may, node_may, opened_may, withdrawn_may}
use Rattle.craq_store_history.proofs.laws.authors_keep_the_rule.Goals as goal

pub returns-clause-empty : goal.returns-clause-empty
returns-clause-empty c = empty

pub returns-clause-opened : goal.returns-clause-opened
returns-clause-opened c = opened_may

pub returns-clause-called : goal.returns-clause-called
returns-clause-called c = called_may

pub returns-clause-node : goal.returns-clause-node
returns-clause-node c = node_may

pub returns-clause-master : goal.returns-clause-master
returns-clause-master c = master_may

pub returns-clause-withdrawn : goal.returns-clause-withdrawn
returns-clause-withdrawn c = withdrawn_may
