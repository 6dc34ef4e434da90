use Rattle.std.proofs.Common.{ap, ◌∙◌}
use Rattle.craq_seat.specs.declared.journal.Receipt.{Receipt}
use Rattle.craq_cell_chain.proofs.Joins.{names_node}
use Rattle.craq_cell_chain.proofs.Openings.{book_has_last, names_book, some_lent}
use Rattle.craq_cell_chain.proofs.stepping.step_book.Goals as goal

pub unwrap-step-requires : goal.unwrap-step-requires
unwrap-step-requires c = some_lent _ c.last.result _ c.last.ensures.value (book_has_last _ _ c.args.event c.args.pass _ c.in_ok-receipt.ensures.step)

pub returns-clause-joins : goal.returns-clause-joins
returns-clause-joins c = names_node _ _ c.args.event c.args.pass c.in_ok-receipt.ensures.step.0

pub returns-clause-named : goal.returns-clause-named
returns-clause-named c = ap (λ (x : Receipt). x.node) c.in_ok-taken.ensures.receipt ∙ names_book _ _ c.args.event c.args.pass _ c.in_ok-receipt.ensures.step
