use Rattle.std.proofs.Common.{take}
use Rattle.std.specs.List.{AllZip}
use Rattle.craq_chain.specs.Chained.{openings}
use Rattle.craq_chain.proofs.chain.opening_cores.Given as goal

abbrev pub invariant-loop-id : goal.invariant-loop-id
invariant-loop-id g l = AllZip g.C.Core.represents l.cores.items (openings l.chain l.members (take l.id-index l.members))
