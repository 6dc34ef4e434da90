use Rattle.std.proofs.Common.{◌≡◌, drop}
use Rattle.craq_schedules.specs.Stopped.{up_to}
use Rattle.craq_schedules.proofs.stopping.take_up_to.Given as goal

-- the chain so far, after the remaining lines, is the chain after all lines
abbrev pub invariant-loop-line : goal.invariant-loop-line
invariant-loop-line g l = up_to l.cut l.chain (drop l.line-index l.lines) ≡ up_to l.cut l.initial.chain l.lines
