-- The last ready member of a chain.
use Rattle.std.specs.Prelude.{ℕ, ◌==◌, ◌&&◌, not, Bool, true, false, List}
use Rattle.std.specs.List.{list_any}
use Rattle.craqd.specs.declared.readiness.Condition.{Condition}
use Rattle.craqd.specs.declared.readiness.Condition.TheVariants as conditions
use Rattle.craqd.specs.declared.readiness.MemberCondition.{MemberCondition}

-- the node answers reads
abbrev pub is_ready : Condition → Bool
is_ready conditions.Ready = true
is_ready conditions.NotReady = false
is_ready conditions.Stopped = false
is_ready conditions.Unknown = false

-- the member is this node, and ready
abbrev pub is_ready_as : ℕ → MemberCondition → Bool
is_ready_as node member = member.node == node && is_ready member.condition

-- the member is another node, and ready
abbrev pub is_ready_beside : ℕ → MemberCondition → Bool
is_ready_beside node member = not (member.node == node) && is_ready member.condition

-- this node is ready, and no other member is
abbrev pub is_last_ready : List MemberCondition → ℕ → Bool
is_last_ready members node = list_any (is_ready_as node) members && not (list_any (is_ready_beside node) members)
