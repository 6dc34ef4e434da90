use Rattle.std.proofs.Common.{◌↔◌, drop}
use Rattle.std.specs.List.{AllByRecursion}
use Rattle.craq_audit.specs.Chained.{HasCell}
use Rattle.craq_audit.proofs.belonging.have_ids.Given as goal

abbrev pub invariant-loop-id : goal.invariant-loop-id
invariant-loop-id g l = AllByRecursion (HasCell l.cells) (drop l.id-index l.used) ↔ AllByRecursion (HasCell l.cells) l.used
