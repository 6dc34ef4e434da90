use Rattle.craq_merge.proofs.Seated.{seated_book, seated_node}
use Rattle.craq_merge.proofs.merge_keeps_journals.Goals as goal

pub returns-clause-nodes : goal.returns-clause-nodes
returns-clause-nodes c = λ s. seated_node _

pub returns-clause-master : goal.returns-clause-master
returns-clause-master c = λ s. seated_book _
