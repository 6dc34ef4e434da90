use Rattle.std.proofs.Common.{◌≡◌, drop}
use Rattle.craq_epochs.specs.Doubles.{stands_twice}
use Rattle.craq_epochs.proofs.membership.has_double.Given as goal

-- no visited id occurs twice
abbrev pub invariant-loop-i : goal.invariant-loop-i
invariant-loop-i l = stands_twice (drop l.i l.ids) ≡ stands_twice l.ids
