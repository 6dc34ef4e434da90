use Rattle.std.proofs.Common.{arith, sym}
use Rattle.craq_epochs.proofs.Memberships.{mastered_after_join}
use Rattle.craq_epochs.proofs.master.Master.join.Goals as goal

pub invariant_of-self-2 : goal.invariant_of-self-2
invariant_of-self-2 c =
    let fresh = rw c.as_slice.ensures.value at (sym c.if-is_among.ensures) in
    rw (c.new-self-inside.ensures, c.get-epoch.ensures, c.in_ok-push.ensures.ok, c.push_reserved.ensures.items, c.reserve.ensures.items)
    (mastered_after_join c.self.inside.chain c.self.inside.config.epoch c.args.id c.self.inside.config.members c.self.inside.used.items c.self.invariant fresh (omega arith) (omega arith) (omega arith))
