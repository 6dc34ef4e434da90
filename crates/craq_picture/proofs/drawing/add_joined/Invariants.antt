use Rattle.std.proofs.Common.{◌≡◌, ◌++◌, drop}
use Rattle.craq_picture.specs.Drawn.{joined_in}
use Rattle.craq_picture.proofs.drawing.add_joined.Given as goal

abbrev pub invariant-loop-taken : goal.invariant-loop-taken
invariant-loop-taken l = l.columns ++ joined_in (drop l.taken-index l.moves) ≡ l.initial.columns ++ joined_in l.moves
