use Rattle.std.proofs.Common.{◌≡◌, ◌<◌, ◌≤◌, ◌-◌, take, drop, length}
use Rattle.std.specs.List.{AllByRecursion}
use Rattle.craq_seat.proofs.ticket_queue.search.Given as goal

abbrev pub invariant-loop-low : goal.invariant-loop-low
invariant-loop-low g l = record {
  ends : l.low ≤ l.high;
  within : l.high ≤ length l.items.items;
  below : AllByRecursion (λ x. g.T.Ticketed.ticket_of x < l.ticket) (take l.low l.items.items);
  above : AllByRecursion (λ x. l.ticket < g.T.Ticketed.ticket_of x) (drop l.high l.items.items);
}

abbrev pub decreases-loop-low : goal.decreases-loop-low
decreases-loop-low g l = l.high - l.low
