use Rattle.std.proofs.Common.{◌≡◌, ◌∷◌, drop}
use Rattle.craq_model.specs.Members.{last_of}
use Rattle.craq_history.proofs.members.last_member.Given as goal

abbrev pub invariant-loop-member : goal.invariant-loop-member
invariant-loop-member l = last_of (l.last ∷ drop l.member-index l.rest) ≡ last_of l.members
