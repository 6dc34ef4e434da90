use Rattle.std.proofs.Common.{drop}
use Rattle.std.specs.List.{AllByRecursion}
use Rattle.craq_audit.specs.Lookups.{KeepsType}
use Rattle.craq_audit.proofs.journals.keep_cells.Given as goal

abbrev pub invariant-loop-cell : goal.invariant-loop-cell
invariant-loop-cell g l = AllByRecursion (KeepsType g.C.Core.represents) (drop l.cell-index l.cells) → AllByRecursion (KeepsType g.C.Core.represents) l.cells
