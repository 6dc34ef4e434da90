use Rattle.std.proofs.Common.{refl}
use Rattle.craq_protocol.specs.Members.{is_member, is_first, is_last, is_next, without, membership_of, with_value}
use Rattle.craq_protocol.specs.Machine.{entry_at}
use Rattle.craq_protocol.proofs.wrong_machines.entries_are_of_the_own_epoch.Goals as goal

pub returns : goal.returns
unfolding is_member is_first is_last is_next without membership_of with_value entry_at
returns c = record { membership = refl; more = refl; less = refl; kept = refl }
