use Rattle.std.proofs.Common.{refl}
use Rattle.craq_epochs.proofs.Memberships.{mastered_at_first}
use Rattle.craq_epochs.proofs.master.Master.open.Goals as goal

pub invariant_of-result : goal.invariant_of-result
invariant_of-result c =
    rw (c.new.ensures, c.of-members.ensures, c.in_ok-from_slice.ensures.items, c.in_ok-used.ensures.items)
    (mastered_at_first c.args.chain c.args.members.now (c.if-not-is_membership.ensures.0 refl))
