use Rattle.std.proofs.Common.{◌≡◌, drop}
use Rattle.craq_model.specs.Members.{successor_in}
use Rattle.craq_history.proofs.members.successor_of.Given as goal

abbrev pub invariant-loop-i : goal.invariant-loop-i
invariant-loop-i l = successor_in (drop l.i l.members) l.id ≡ successor_in l.members l.id
