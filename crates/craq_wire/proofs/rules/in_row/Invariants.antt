use Rattle.std.proofs.Common.{◌≡◌, length}
use Rattle.craq_wire.specs.Tests.{are_consecutive}
use Rattle.craq_wire.proofs.rules.in_row.Given as goal

-- each entry so far is right before the next one
abbrev pub invariant-loop-rest : goal.invariant-loop-rest
invariant-loop-rest l = are_consecutive l.rest ≡ are_consecutive l.entries

abbrev pub decreases-loop-rest : goal.decreases-loop-rest
decreases-loop-rest l = length l.rest
