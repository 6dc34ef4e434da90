use Rattle.std.proofs.Common.{refl}
use Rattle.craq_protocol.specs.Members.{is_member, is_first, is_last, is_next, without, membership_of, with_value}
use Rattle.craq_protocol.specs.Machine.{entry_at}
use Rattle.craq_protocol.proofs.wrong_machines.ready_nodes_take_no_copy.Goals as goal

pub returns : goal.returns
unfolding is_member is_first is_last is_next without membership_of with_value entry_at
returns c = record { committed = refl; lost = refl; kept = refl }
