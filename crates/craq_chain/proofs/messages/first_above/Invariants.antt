use Rattle.std.proofs.Common.{◌<◌, ◌≤◌, ◌-◌, length, get_or}
use Rattle.craq_chain.proofs.messages.first_above.Given as goal

abbrev pub invariant-loop-low : goal.invariant-loop-low
invariant-loop-low l = record {
  ordered : l.low ≤ l.high;
  within : l.high ≤ length l.counts;
  before : 0 < l.low → get_or l.counts (l.low - 1) 0 ≤ l.index;
  after : l.high < length l.counts → l.index < get_or l.counts l.high 0;
}

abbrev pub decreases-loop-low : goal.decreases-loop-low
decreases-loop-low l = l.high - l.low
