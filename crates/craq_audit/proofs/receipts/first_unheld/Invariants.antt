use Rattle.std.proofs.Common.{take}
use Rattle.std.specs.List.{AllByRecursion}
use Rattle.craq_audit.specs.Lookups.{HoldsCall}
use Rattle.craq_audit.proofs.receipts.first_unheld.Given as goal

abbrev pub invariant-loop-index : goal.invariant-loop-index
invariant-loop-index g l = AllByRecursion (HoldsCall l.cells) (take l.index l.receipts)
