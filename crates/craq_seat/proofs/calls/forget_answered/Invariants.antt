use Rattle.std.proofs.Common.{◌≡◌, drop}
use Rattle.craq_seat.specs.Calls.{waiting_after}
use Rattle.craq_seat.proofs.calls.forget_answered.Given as goal

abbrev pub invariant-loop-out : goal.invariant-loop-out
invariant-loop-out l = waiting_after l.waiting.items (drop l.out-index l.outs) ≡ waiting_after l.fn.waiting.items l.outs
