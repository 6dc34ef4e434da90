use Rattle.std.proofs.Common.{◌≡◌, ◌++◌, take}
use Rattle.craq_picture.proofs.drawing.add_members.Given as goal

abbrev pub invariant-loop-member : goal.invariant-loop-member
invariant-loop-member l = l.columns ≡ l.initial.columns ++ take l.member-index l.members
