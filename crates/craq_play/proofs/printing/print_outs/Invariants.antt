use Rattle.std.proofs.Common.{◌≡◌, ◌≤◌, ◌+◌, ◌++◌, string_bytes, drop}
use Rattle.craq_play.specs.Printed.{outs_text}
use Rattle.craq_play.proofs.printing.print_outs.Given as goal

abbrev pub invariant-loop-out : goal.invariant-loop-out
invariant-loop-out l =
    record {
      few : l.number ≤ l.sent + l.out-index;
      lines : string_bytes l.text ++ outs_text l.node l.number (drop l.out-index l.outs) ≡ string_bytes l.initial.text ++ outs_text l.node l.sent l.outs;
    }
