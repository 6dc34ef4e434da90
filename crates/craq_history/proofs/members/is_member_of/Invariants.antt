use Rattle.std.proofs.Common.{◌≡◌, drop}
use Rattle.craq_model.specs.Members.{is_member}
use Rattle.craq_history.proofs.members.is_member_of.Given as goal

abbrev pub invariant-loop-member : goal.invariant-loop-member
invariant-loop-member l = is_member (drop l.member-index l.members) l.id ≡ is_member l.members l.id
