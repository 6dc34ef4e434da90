use Rattle.std.proofs.Common.{◌∙◌}
use Rattle.std.proofs.lemmas.Result.{err_from_is_err_and}
use Rattle.craq_audit.proofs.Whole.{all_held, no_memory, no_receipt}
use Rattle.craq_audit.proofs.auditing.audit.Goals as goal

pub returns-in-Some-first_unheld : goal.returns-in-Some-first_unheld
returns-in-Some-first_unheld g c = (
  (c.all_keep.ensures.0 c.if-not-all_keep.false, c.are_of_chain.ensures.0 c.if-not-are_of_chain.false),
  no_receipt c.args.book.now c.args.cells.now c.args.receipts.now c.in-Some-first_unheld.index c.in_default.ensures c.in-Some-first_unheld.ensures,
)

pub returns-in_err-run : goal.returns-in_err-run
returns-in_err-run g c =
    let p = err_from_is_err_and c.from_residual.result c.from_residual.ensures.1 in
    no_memory c.args.book.now c.args.cells.now c.args.receipts.now c.from_residual.result p.0 (c.all_keep.ensures.0 c.if-not-all_keep.false, c.are_of_chain.ensures.0 c.if-not-are_of_chain.false) c.in_default.ensures c.in_default-first_unheld.ensures (p.2 ∙ c.in_err-run.ensures.err) p.1

pub returns : goal.returns
returns g c = (
  (c.all_keep.ensures.0 c.if-not-all_keep.false, c.are_of_chain.ensures.0 c.if-not-are_of_chain.false),
  c.in_ok-run.ensures.run c.args.receipts.now (all_held c.args.book.now c.args.cells.now c.args.receipts.now c.in_default-first_unheld.ensures),
)
