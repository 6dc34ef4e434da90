use Rattle.std.proofs.Common.{sym, ◌∙◌}
use Rattle.craq_audit.proofs.Keeping.{all_kept, nodes_do, some_value}
use Rattle.craq_audit.proofs.journals.all_keep.Goals as goal

pub returns-then-is_some : goal.returns-then-is_some
returns-then-is_some g c =
    let on = some_value c.journal.result c.args.book.now.journal (sym c.is_some.ensures ∙ c.if-is_some.true) c.journal.ensures.value in
    (λ t. all_kept c.args.book.now c.args.cells.now on (c.are_kept.ensures.0 t), λ h. c.are_kept.ensures.1 (nodes_do c.args.book.now c.args.cells.now h))
