use Rattle.std.proofs.Common.{◌++◌, ap, map, ◌∙◌}
use Rattle.craq_seat.specs.Merge.{book_line}
use Rattle.craq_audit.specs.Journals.{records_in}
use Rattle.craq_audit.specs.Lookups.{cell_lines}
use Rattle.craq_audit.proofs.Sendings.{node_lines}
use Rattle.craq_audit.proofs.lines.all_lent.Goals as goal

pub loop-cell-init : goal.loop-cell-init
loop-cell-init g c =
    let e = c.in_ok-add_book.ensures ∙ ap (λ xs. xs ++ map book_line c.book_records.result.now) c.new-lines.ensures.items ∙ ap (map book_line) c.book_records.ensures.records in
    ap (λ ls. ls ++ cell_lines c.args.cells.now) e ∙ ap (λ ls. map book_line (records_in c.args.book.now.journal) ++ ls) (node_lines c.args.cells.now)
