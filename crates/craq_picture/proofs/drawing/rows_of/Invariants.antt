use Rattle.std.proofs.Common.{◌≡◌, ◌++◌, drop}
use Rattle.craq_picture.specs.Drawn.{rows_from}
use Rattle.craq_picture.proofs.drawing.rows_of.Given as goal

abbrev pub invariant-loop-index : goal.invariant-loop-index
invariant-loop-index l =
    l.rows ++ rows_from l.receivers l.lens l.index (drop l.index l.moves) ≡ rows_from l.receivers l.lens 0 l.moves
