use Rattle.std.proofs.Common.{ℕ, List, sym, subst, arith}
use Rattle.craq_model.specs.declared.ask.Event.{Event}
use Rattle.craq_seat.specs.declared.journal.Record.{Record}
use Rattle.craq_audit.specs.Journals.{journals_of}
use Rattle.craq_audit.specs.Lookups.{IsBest, cells_of}
use Rattle.craq_audit.proofs.Best.{one_more}
use Rattle.craq_audit.proofs.senders.first_unsent.Goals as goal

pub loop-cell-preserved : goal.loop-cell-preserved
loop-cell-preserved g c =
    let j = journals_of c.args.book.now (cells_of c.args.cells.now) in
    subst (λ (ns : List (ℕ × List (Record Event))). IsBest j ns c.lower_of-found.result) (sym (one_more c.args.cells.now c.loop-cell.cell-index c.cell-item.result (omega arith) c.cell-item.is)) (c.lower_of-found.ensures _ c.loop-cell.invariant)
