use Rattle.craq_seat.specs.Stamps.{book_stamp, event_stamp}
use Rattle.craq_causality.proofs.Orders.{from_contains}
use Rattle.craq_merge.proofs.Good.{records_above, records_above_pass}
use Rattle.craq_merge.proofs.stamps_exceed_causes.Goals as goal

pub returns-clause-nodes : goal.returns-clause-nodes
returns-clause-nodes c = λ first last rs r h i. (records_above_pass event_stamp first last rs r h (from_contains rs r i), records_above event_stamp first last rs r h (from_contains rs r i))

pub returns-clause-masters : goal.returns-clause-masters
returns-clause-masters c = λ first last rs r h i. (records_above_pass book_stamp first last rs r h (from_contains rs r i), records_above book_stamp first last rs r h (from_contains rs r i))
