use Rattle.std.proofs.Common.{◌≡◌, ◌+◌, ◌++◌, drop}
use Rattle.craq_picture.specs.Drawn.{arrivals_from}
use Rattle.craq_picture.proofs.drawing.arrivals_of.Given as goal

abbrev pub invariant-loop-index : goal.invariant-loop-index
invariant-loop-index l = l.arrivals ++ arrivals_from l.number (l.index + 1) (drop l.index l.moves) ≡ arrivals_from l.number 1 l.moves
