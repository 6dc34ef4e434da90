use Rattle.std.proofs.Common.{◌≡◌, ◌≤◌, ◌+◌, drop}
use Rattle.std.specs.Prelude.{count_by}
use Rattle.std.specs.List.{list_all}
use Rattle.craq_model.specs.Node.{is_send, out_fits}
use Rattle.craq_node.proofs.fitting.are_fitting.Given as goal

abbrev pub invariant-loop-out : goal.invariant-loop-out
invariant-loop-out l =
    record {
      counted : l.sends + count_by is_send (drop l.out-index l.outs) ≡ count_by is_send l.outs;
      few : l.sends ≤ l.out-index;
      fit : list_all out_fits (drop l.out-index l.outs) ≡ list_all out_fits l.outs;
    }
