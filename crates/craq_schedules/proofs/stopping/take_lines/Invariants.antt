use Rattle.std.proofs.Common.{◌≡◌, drop}
use Rattle.craq_schedules.specs.Stopped.{after_lines}
use Rattle.craq_schedules.proofs.stopping.take_lines.Given as goal

-- the chain so far, after the remaining lines, is the chain after all lines
abbrev pub invariant-loop-line : goal.invariant-loop-line
invariant-loop-line g l = after_lines l.chain (drop l.line-index l.lines) ≡ after_lines l.initial.chain l.lines
