use Rattle.std.proofs.Common.{take}
use Rattle.std.specs.List.{AllByRecursion}
use Rattle.craq_seat.specs.Audits.{HasSender}
use Rattle.craq_audit.specs.Journals.{journals_of}
use Rattle.craq_audit.specs.Lookups.{cells_of}
use Rattle.craq_audit.proofs.senders.first_among.Given as goal

abbrev pub invariant-loop-index : goal.invariant-loop-index
invariant-loop-index g l = AllByRecursion (HasSender (journals_of l.book (cells_of l.cells))) (take l.index l.records)
