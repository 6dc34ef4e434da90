use Rattle.std.proofs.Common.{◌≡◌, take}
use Rattle.craq_cell_chain.proofs.copying.outs_copy.Given as goal

-- the copies are the outs so far
abbrev pub invariant-loop-out : goal.invariant-loop-out
invariant-loop-out l = l.copies.items ≡ take l.out-index l.outs
