use Rattle.craq_causality.proofs.Growing.{follows_later, master_follows, no_lines, node_follows, typed_more}
use Rattle.craq_causality.proofs.causal_lines_grow.Goals as goal

pub returns-clause-none : goal.returns-clause-none
returns-clause-none c = no_lines

pub returns-clause-node : goal.returns-clause-node
returns-clause-node c = node_follows

pub returns-clause-master : goal.returns-clause-master
returns-clause-master c = master_follows

pub returns-clause-later : goal.returns-clause-later
returns-clause-later c = follows_later

pub returns-clause-typed : goal.returns-clause-typed
returns-clause-typed c = typed_more
