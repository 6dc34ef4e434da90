use Rattle.std.proofs.Common.{take}
use Rattle.std.specs.List.{AllByRecursion}
use Rattle.craq_model.specs.Members.{IsMembership}
use Rattle.craq_world.proofs.world.are_memberships.Given as goal

abbrev pub invariant-loop-list : goal.invariant-loop-list
invariant-loop-list l = AllByRecursion IsMembership (take l.list-index l.lists)
