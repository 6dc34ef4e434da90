use Rattle.std.proofs.Common.{◌↔◌, drop}
use Rattle.craq_audit.specs.Lookups.{Found, HasCall}
use Rattle.craq_audit.proofs.receipts.has_call.Given as goal

abbrev pub invariant-loop-cell : goal.invariant-loop-cell
invariant-loop-cell g l = Found (HasCall l.receipt) (drop l.cell-index l.cells) ↔ Found (HasCall l.receipt) l.cells
