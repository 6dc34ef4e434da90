use Rattle.std.proofs.Common.{drop}
use Rattle.craq_runs.specs.Typed.{AreOfType}
use Rattle.craq_world.proofs.explaining.keep_all_limits.Given as goal

-- the claim follows from the moves that are left
abbrev pub invariant-loop-taken : goal.invariant-loop-taken
invariant-loop-taken l = AreOfType (drop l.taken-index l.moves) → AreOfType l.moves
