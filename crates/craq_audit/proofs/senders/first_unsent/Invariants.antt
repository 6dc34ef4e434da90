use Rattle.std.proofs.Common.{map, take}
use Rattle.craq_model.specs.declared.ask.Event.{Event}
use Rattle.craq_seat.specs.Cells.{Celled}
use Rattle.craq_audit.specs.Journals.{journals_of, kept_of}
use Rattle.craq_audit.specs.Lookups.{IsBest, cells_of}
use Rattle.craq_audit.proofs.senders.first_unsent.Given as goal

abbrev pub invariant-loop-cell : goal.invariant-loop-cell
invariant-loop-cell g l = IsBest (journals_of l.book (cells_of l.cells)) (map (λ (c : Celled _ Event). kept_of c) (cells_of (take l.cell-index l.cells))) l.found
