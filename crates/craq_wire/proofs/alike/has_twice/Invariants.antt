use Rattle.std.proofs.Common.{◌≡◌, drop}
use Rattle.craq_wire.specs.Tests.{stands_twice}
use Rattle.craq_wire.proofs.alike.has_twice.Given as goal

-- no item so far occurs twice
abbrev pub invariant-loop-i : goal.invariant-loop-i
invariant-loop-i g l = stands_twice g.T.Alike.same (drop l.i l.items) ≡ stands_twice g.T.Alike.same l.items
