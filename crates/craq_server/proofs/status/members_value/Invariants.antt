use Rattle.std.proofs.Common.{◌≡◌, ◌++◌, map, drop}
use Rattle.serde_json.specs.View.{view}
use Rattle.craq_server.specs.Status.{member_data}
use Rattle.craq_server.proofs.status.members_value.Given as goal

-- the items are the members so far
abbrev pub invariant-loop-member : goal.invariant-loop-member
invariant-loop-member l = map view l.items.items ++ map member_data (drop l.member-index l.members) ≡ map member_data l.members
