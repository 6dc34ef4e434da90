use Rattle.std.proofs.Common.{◌≡◌, take}
use Rattle.craq_write.proofs.gathering.parts_copied.Given as goal

abbrev pub invariant-loop-number : goal.invariant-loop-number
invariant-loop-number l = l.copies.items ≡ take l.number-index l.parts
