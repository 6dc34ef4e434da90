use Rattle.std.proofs.Common.{◌≡◌, map, drop}
use Rattle.craq_commands.specs.Transaction.{stands_twice}
use Rattle.craq_commands.proofs.transaction.has_double.Given as goal

-- no visited object occurs twice
abbrev pub invariant-loop-i : goal.invariant-loop-i
invariant-loop-i g l =
    stands_twice (map g.T.Named.object_named (drop l.i l.items)) ≡ stands_twice (map g.T.Named.object_named l.items)
