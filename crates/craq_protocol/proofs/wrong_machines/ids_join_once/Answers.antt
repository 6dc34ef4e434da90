use Rattle.std.proofs.Common.{refl}
use Rattle.craq_protocol.specs.Members.{is_member, is_first, is_last, is_next, without, membership_of, with_value}
use Rattle.craq_protocol.specs.Machine.{entry_at}
use Rattle.craq_protocol.proofs.wrong_machines.ids_join_once.Goals as goal

pub returns : goal.returns
unfolding is_member is_first is_last is_next without membership_of with_value entry_at
returns c = record { committed = refl; lost = refl; first_tail = refl; second_tail = refl; kept = refl }
