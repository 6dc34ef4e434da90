use Rattle.std.proofs.Common.{◌≡◌, map, take}
use Rattle.craq_picture.specs.Drawn.{arrow_of}
use Rattle.craq_picture.proofs.drawing.arrows_of.Given as goal

abbrev pub invariant-loop-sent : goal.invariant-loop-sent
invariant-loop-sent l = l.arrows ≡ map (arrow_of l.moves) (take l.sent-index l.sends)
