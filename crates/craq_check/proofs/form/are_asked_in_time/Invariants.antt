use Rattle.std.proofs.Common.{◌≡◌, ◌+◌, true, take, drop}
use Rattle.std.specs.Prelude.{nat_le}
use Rattle.std.specs.List.{list_all}
use Rattle.craq_check.specs.Tests.{asked_in_time}
use Rattle.craq_check.proofs.form.are_asked_in_time.Given as goal

-- the test holds after each move so far, and the requests looked at are in time for the last of
-- them
abbrev pub invariant-loop-count : goal.invariant-loop-count
invariant-loop-count l = record {
  number : l.number ≡ l.count-index;
  by_now : list_all (λ a. nat_le a l.number) (take l.looked l.asks) ≡ true;
  goes_on : asked_in_time l.asks (l.number + 1) (drop l.count-index l.lens) ≡ asked_in_time l.asks 1 l.lens;
}
