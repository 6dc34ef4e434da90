use Rattle.std.proofs.Common.{◌≡◌, true, length}
use Rattle.craq_model.specs.Deliveries.{later_updates}
use Rattle.craq_history.specs.Waiting.{rise}
use Rattle.craq_history.proofs.waiting_updates.drop_first.Given as goal

abbrev pub invariant-loop-first : goal.invariant-loop-first
invariant-loop-first l = record {
  left : later_updates l.position l.items.items ≡ later_updates l.position l.fn.items.items;
  rise : rise l.items.items ≡ true;
}

abbrev pub decreases-loop-first : goal.decreases-loop-first
decreases-loop-first l = length l.items.items
