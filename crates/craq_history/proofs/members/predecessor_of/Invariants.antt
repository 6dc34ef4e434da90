use Rattle.std.proofs.Common.{◌≡◌, ◌∷◌, drop}
use Rattle.craq_model.specs.Members.{predecessor_in}
use Rattle.craq_history.proofs.members.predecessor_of.Given as goal

abbrev pub invariant-loop-member : goal.invariant-loop-member
invariant-loop-member l = predecessor_in (l.before ∷ drop l.member-index l.rest) l.id ≡ predecessor_in l.members l.id
