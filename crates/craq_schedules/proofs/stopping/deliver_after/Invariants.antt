use Rattle.std.proofs.Common.{◌≡◌, ◌-◌}
use Rattle.craq_schedules.specs.Stopped.{delivered}
use Rattle.craq_schedules.proofs.stopping.deliver_after.Given as goal

-- the chain so far, after the remaining deliveries, is the chain after all deliveries
abbrev pub invariant-loop : goal.invariant-loop
invariant-loop g l = delivered (l.most - l.counter) l.arrived l.chain ≡ delivered l.most l.initial.arrived l.initial.chain
