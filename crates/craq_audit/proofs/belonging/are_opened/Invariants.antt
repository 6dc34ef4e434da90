use Rattle.std.proofs.Common.{◌↔◌, drop}
use Rattle.std.specs.List.{AllByRecursion}
use Rattle.craq_audit.specs.Chained.{IsOfChain}
use Rattle.craq_audit.proofs.belonging.are_opened.Given as goal

abbrev pub invariant-loop-cell : goal.invariant-loop-cell
invariant-loop-cell g l = AllByRecursion (IsOfChain l.book) (drop l.cell-index l.cells) ↔ AllByRecursion (IsOfChain l.book) l.cells
