use Rattle.std.proofs.Common.{◌≡◌, ◌+◌, ◌++◌, drop, length}
use Rattle.craq_picture.specs.Drawn.{sends_from}
use Rattle.craq_picture.proofs.drawing.sends_of.Given as goal

abbrev pub invariant-loop-index : goal.invariant-loop-index
invariant-loop-index l = l.sends.items ++ sends_from (length l.sends.items) (l.index + 1) (drop l.index l.moves) ≡ sends_from 0 1 l.moves
