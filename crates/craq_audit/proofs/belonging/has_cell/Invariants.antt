use Rattle.std.proofs.Common.{◌↔◌, drop}
use Rattle.craq_audit.specs.Lookups.{Found, IsCellOf}
use Rattle.craq_audit.proofs.belonging.has_cell.Given as goal

abbrev pub invariant-loop-cell : goal.invariant-loop-cell
invariant-loop-cell g l = Found (IsCellOf l.id) (drop l.cell-index l.cells) ↔ Found (IsCellOf l.id) l.cells
