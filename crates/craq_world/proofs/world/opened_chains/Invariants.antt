use Rattle.std.proofs.Common.{◌≡◌, take}
use Rattle.craq_world.specs.Worlds.{opened_from}
use Rattle.craq_world.proofs.world.opened_chains.Given as goal

abbrev pub invariant-loop-id : goal.invariant-loop-id
invariant-loop-id g l = l.chains.items ≡ opened_from 0 (take l.id l.lists)
