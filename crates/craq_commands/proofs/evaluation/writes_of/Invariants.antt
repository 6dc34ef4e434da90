use Rattle.std.proofs.Common.{◌≡◌, ℕ, List, map, take}
use Rattle.craq_names.specs.declared.name.ObjectId.{ObjectId}
use Rattle.craq_commands.proofs.evaluation.writes_of.Given as goal

abbrev pub invariant-loop-object : goal.invariant-loop-object
invariant-loop-object l = l.made.items ≡ map (λ (w : ObjectId × List ℕ). (w.0.key, w.1)) (take l.object-index l.writes)
