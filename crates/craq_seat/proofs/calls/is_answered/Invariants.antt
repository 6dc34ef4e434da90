use Rattle.std.proofs.Common.{◌≡◌, drop}
use Rattle.std.specs.List.{list_any}
use Rattle.craq_seat.specs.Calls.{answers_to}
use Rattle.craq_seat.proofs.calls.is_answered.Given as goal

abbrev pub invariant-loop-out : goal.invariant-loop-out
invariant-loop-out l = list_any (answers_to l.ticket) (drop l.out-index l.outs) ≡ list_any (answers_to l.ticket) l.outs
