use Rattle.std.proofs.Common.{◌≡◌, length}
use Rattle.craq_wire.specs.Tests.{is_rising}
use Rattle.craq_wire.proofs.alike.rises.Given as goal

-- each key so far is below the next one
abbrev pub invariant-loop-rest : goal.invariant-loop-rest
invariant-loop-rest g l = is_rising g.K.Ord.cmp l.rest ≡ is_rising g.K.Ord.cmp l.entries

abbrev pub decreases-loop-rest : goal.decreases-loop-rest
decreases-loop-rest g l = length l.rest
