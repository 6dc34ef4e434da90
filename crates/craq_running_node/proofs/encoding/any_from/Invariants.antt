use Rattle.std.proofs.Common.{◌≡◌, drop, nat_le}
use Rattle.std.specs.List.{list_any}
use Rattle.craq_running_node.proofs.encoding.any_from.Given as goal

abbrev pub invariant-loop-entry : goal.invariant-loop-entry
invariant-loop-entry l = list_any (λ e. nat_le l.first e.position) (drop l.entry-index l.entries) ≡ list_any (λ e. nat_le l.first e.position) l.entries
