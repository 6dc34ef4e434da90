use Rattle.std.proofs.Common.{◌≡◌, ◌≤◌, ◌*◌, length, drop}
use Rattle.craq_commands.specs.SingleCopy.{opening_state}
use Rattle.craq_check.specs.Tests.{found_in, HasVersionsUpTo, are_said}
use Rattle.craq_check.proofs.Placed.{Rise}
use Rattle.craq_check.proofs.strong.are_said_in_order.Given as goal

-- the rest goes on from the copy so far, whose versions each update raised by 16 at most, with the
-- places from there on
abbrev pub invariant-loop-update : goal.invariant-loop-update
invariant-loop-update l = record {
  count : l.count ≡ l.update-index;
  highest : l.highest ≡ 16 * l.update-index;
  bound : HasVersionsUpTo l.highest l.single.objects;
  within : l.from ≤ length l.claims;
  rise : Rise l.count (drop l.from l.claims);
  goes_on : are_said (found_in l.asks) (drop l.from l.claims) l.single l.count (drop l.update-index l.updates) ≡ are_said (found_in l.asks) l.claims opening_state 0 l.updates;
}
