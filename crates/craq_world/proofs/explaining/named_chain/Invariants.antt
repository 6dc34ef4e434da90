use Rattle.std.proofs.Common.{◌≡◌, drop}
use Rattle.craq_world.specs.Named.{named_in}
use Rattle.craq_world.proofs.explaining.named_chain.Given as goal

-- no move so far was a request
abbrev pub invariant-loop-taken : goal.invariant-loop-taken
invariant-loop-taken l = named_in (drop l.taken-index l.moves) ≡ named_in l.moves
