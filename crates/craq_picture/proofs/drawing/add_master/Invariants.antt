use Rattle.std.proofs.Common.{◌≡◌, ◌++◌, drop}
use Rattle.craq_picture.specs.Drawn.{master_in}
use Rattle.craq_picture.proofs.drawing.add_master.Given as goal

abbrev pub invariant-loop-taken : goal.invariant-loop-taken
invariant-loop-taken l = l.columns ++ master_in (drop l.taken-index l.moves) ≡ l.initial.columns ++ master_in l.moves
