use Rattle.std.proofs.Common.{◌≡◌, ◌++◌, drop, length}
use Rattle.craq_picture.specs.Drawn.{sends_in}
use Rattle.craq_picture.proofs.drawing.add_sends.Given as goal

abbrev pub invariant-loop-place : goal.invariant-loop-place
invariant-loop-place l =
    l.sends.items ++ sends_in (length l.sends.items) l.row l.place (drop l.place l.outs) ≡ l.initial.sends.items ++ sends_in (length l.initial.sends.items) l.row 0 l.outs
