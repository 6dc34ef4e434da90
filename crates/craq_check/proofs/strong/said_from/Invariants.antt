use Rattle.std.proofs.Common.{◌≡◌, drop}
use Rattle.craq_check.specs.Tests.{found_in, said_first}
use Rattle.craq_check.proofs.strong.said_from.Given as goal

-- the claims so far are passed
abbrev pub invariant-loop-i : goal.invariant-loop-i
invariant-loop-i l = said_first (found_in l.asks) l.single l.count (drop l.i l.claims) ≡ said_first (found_in l.asks) l.single l.count (drop l.from l.claims)
