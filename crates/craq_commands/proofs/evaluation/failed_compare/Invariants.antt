use Rattle.std.proofs.Common.{◌≡◌, drop}
use Rattle.craq_commands.specs.Evaluation.{first_difference}
use Rattle.craq_commands.proofs.evaluation.failed_compare.Given as goal

-- no visited compare failed
abbrev pub invariant-loop-object : goal.invariant-loop-object
invariant-loop-object g l =
    record {
      place : l.place ≡ l.object-index;
      passed : first_difference (g.L.Look.objects l.look) l.place (drop l.object-index l.compares) ≡ first_difference (g.L.Look.objects l.look) 0 l.compares;
    }
