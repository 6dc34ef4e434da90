use Rattle.std.proofs.Common.{◌≡◌, ◌≤◌, ◌+◌, ◌^◌, ◌++◌, drop, length}
use Rattle.craq_runs.specs.Chain.{sent_in}
use Rattle.craq_seat.specs.Numbered.{numbered_from}
use Rattle.craq_seat.proofs.numbering.named_in.Given as goal

abbrev pub invariant-loop-out : goal.invariant-loop-out
invariant-loop-out l = record {
  named : l.messages.items ++ numbered_from (length l.messages.items) l.receipt (sent_in (drop l.out-index l.outs)) ≡ numbered_from 0 l.receipt (sent_in l.outs);
  few : length l.messages.items + length (sent_in (drop l.out-index l.outs)) ≤ 2 ^ 32;
}
