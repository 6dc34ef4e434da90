use Rattle.std.proofs.Common.{◌≡◌, ◌++◌, drop}
use Rattle.craq_seat.specs.Merge.{all_lines}
use Rattle.craq_audit.specs.Journals.{journals_of}
use Rattle.craq_audit.specs.Lookups.{cell_lines, cells_of}
use Rattle.craq_audit.proofs.lines.all_lent.Given as goal

abbrev pub invariant-loop-cell : goal.invariant-loop-cell
invariant-loop-cell g l = l.lines.items ++ cell_lines (drop l.cell-index l.cells) ≡ all_lines (journals_of l.book (cells_of l.cells))
