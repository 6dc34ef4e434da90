use Rattle.std.proofs.Common.{◌↔◌, drop}
use Rattle.craq_audit.specs.Lookups.{Found, HasStop}
use Rattle.craq_audit.proofs.belonging.is_stop.Given as goal

abbrev pub invariant-loop-cell : goal.invariant-loop-cell
invariant-loop-cell g l = Found (HasStop l.stop) (drop l.cell-index l.cells) ↔ Found (HasStop l.stop) l.cells
