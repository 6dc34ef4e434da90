use Rattle.std.proofs.Common.{◌≡◌, map, take}
use Rattle.craq_chain.specs.Parts.{membership_message}
use Rattle.craq_chain.proofs.masters.telling.Given as goal

abbrev pub invariant-loop-to : goal.invariant-loop-to
invariant-loop-to l = l.outs.items ≡ map (membership_message l.chain l.epoch l.members) (take l.to-index l.members)
