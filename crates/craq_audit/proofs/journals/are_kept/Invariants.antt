use Rattle.std.proofs.Common.{◌↔◌, drop}
use Rattle.std.specs.List.{AllByRecursion}
use Rattle.craq_audit.specs.Lookups.{KeepsJournal}
use Rattle.craq_audit.proofs.journals.are_kept.Given as goal

abbrev pub invariant-loop-cell : goal.invariant-loop-cell
invariant-loop-cell g l = AllByRecursion KeepsJournal (drop l.cell-index l.cells) ↔ AllByRecursion KeepsJournal l.cells
