use Rattle.std.proofs.Common.{Err, ap, inr, subst, sym, ◌∙◌}
use Rattle.std.proofs.lemmas.Result.{err_from_is_err_and}
use Rattle.craq_seat.specs.declared.journal.Receipt.{Receipt}
use Rattle.craq_seat.specs.Cells.{with_inside}
use Rattle.craq_seat.specs.Taken.{TakesEvent}
use Rattle.craq_cell_chain.specs.Sending.{receipt_in}
use Rattle.craq_cell_chain.proofs.Openings.{cell_lends_last, names_cell}
use Rattle.craq_cell_chain.proofs.stepping.step_node.Goals as goal

pub returns-in_err-receipt-clause-step : goal.returns-in_err-receipt-clause-step
returns-in_err-receipt-clause-step g c = λ p is.
    let e = err_from_is_err_and c.from_residual.result c.from_residual.ensures.1 in
    inr (subst (λ r. TakesEvent g.C.Core.represents c.take.new.self.cell (with_inside c.args.desk.now.cell p) c.args.event c.args.pass (receipt_in r)) (sym (e.1 ∙ ap Err e.2)) (c.in_err-receipt.ensures.step p is))

pub unwrap-step-requires : goal.unwrap-step-requires
unwrap-step-requires g c = cell_lends_last _ _ _ _ _ _ _ _ c.last.result c.keeps_type.ensures c.in_ok-receipt.ensures.step c.cell.ensures c.last.ensures.value

pub returns-in_ok-taken-in-Ok-clause-named : goal.returns-in_ok-taken-in-Ok-clause-named
returns-in_ok-taken-in-Ok-clause-named g c = ap (λ (x : Receipt). x.node) c.in_ok-taken-in-Ok.ensures.receipt ∙ names_cell _ _ _ _ _ _ c.keeps_type.ensures c.in_ok-receipt.ensures.step
