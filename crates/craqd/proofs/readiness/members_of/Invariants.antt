use Rattle.std.proofs.Common.{◌≡◌, map, take}
use Rattle.craqd.proofs.readiness.members_of.Given as goal

-- each id so far has its member
abbrev pub invariant-loop-id : goal.invariant-loop-id
invariant-loop-id g l = map (λ m. m.node) l.members.items ≡ take l.id-index l.ids
