use Rattle.std.proofs.Common.{◌≡◌, drop}
use Rattle.craq_model.specs.Members.{is_member}
use Rattle.craq_epochs.proofs.membership.is_among.Given as goal

-- no visited id is the given one
abbrev pub invariant-loop-member : goal.invariant-loop-member
invariant-loop-member l = is_member (drop l.member-index l.ids) l.id ≡ is_member l.ids l.id
