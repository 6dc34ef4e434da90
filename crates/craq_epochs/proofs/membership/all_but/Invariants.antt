use Rattle.std.proofs.Common.{◌≡◌, ◌++◌, drop}
use Rattle.craq_model.specs.Members.{without}
use Rattle.craq_epochs.proofs.membership.all_but.Given as goal

-- the ids kept so far, and those that the rest keeps, are the result
abbrev pub invariant-loop-member : goal.invariant-loop-member
invariant-loop-member l = l.others.items ++ without (drop l.member-index l.ids) l.id ≡ without l.ids l.id
