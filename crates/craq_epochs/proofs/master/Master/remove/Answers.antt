use Rattle.std.proofs.Common.{arith}
use Rattle.craq_epochs.proofs.Memberships.{mastered_after_removal}
use Rattle.craq_epochs.proofs.master.Master.remove.Goals as goal

pub invariant_of-self : goal.invariant_of-self
invariant_of-self c =
    let some = c.self.invariant.membership.some in
    let several = rw c.as_slice-members.ensures at c.if-members-eq1.false in
    rw (c.new-self-inside.ensures, c.get-epoch.ensures, c.of.ensures, c.in_ok-all_but.ensures, c.as_slice-members.ensures)
    (mastered_after_removal c.self.inside.chain c.self.inside.config.epoch c.name-stopped.result.node c.self.inside.config.members c.self.inside.used.items c.self.invariant (omega arith))
