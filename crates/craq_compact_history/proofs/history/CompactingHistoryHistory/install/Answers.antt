use Rattle.std.proofs.Common.{arith}
use Rattle.craq_compact_history.proofs.Counted.{installed}
use Rattle.craq_compact_history.proofs.history.CompactingHistoryHistory.install.Goals as goal

pub invariant_of-self-clause-counted : goal.invariant_of-self-clause-counted
invariant_of-self-clause-counted c =
    (installed c.len-objects.result c.args.state c.in_ok-self.field-0.state c.in_ok-self.field-0.entries c.requires c.len-objects.ensures (omega arith) c.in_ok-self.ensures.state c.in_ok-self.ensures.entries).number

pub invariant_of-self-clause-written : goal.invariant_of-self-clause-written
invariant_of-self-clause-written c =
    (installed c.len-objects.result c.args.state c.in_ok-self.field-0.state c.in_ok-self.field-0.entries c.requires c.len-objects.ensures (omega arith) c.in_ok-self.ensures.state c.in_ok-self.ensures.entries).written

pub invariant_of-self-clause-rising : goal.invariant_of-self-clause-rising
invariant_of-self-clause-rising c =
    (installed c.len-objects.result c.args.state c.in_ok-self.field-0.state c.in_ok-self.field-0.entries c.requires c.len-objects.ensures (omega arith) c.in_ok-self.ensures.state c.in_ok-self.ensures.entries).rising
