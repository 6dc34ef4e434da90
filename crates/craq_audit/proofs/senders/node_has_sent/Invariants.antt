use Rattle.std.proofs.Common.{◌↔◌, drop}
use Rattle.craq_audit.specs.Lookups.{Found, HasSent}
use Rattle.craq_audit.proofs.senders.node_has_sent.Given as goal

abbrev pub invariant-loop-cell : goal.invariant-loop-cell
invariant-loop-cell g l = Found (HasSent l.message) (drop l.cell-index l.cells) ↔ Found (HasSent l.message) l.cells
