use Rattle.std.proofs.Common.{◌≡◌, map, take}
use Rattle.std.specs.List.{AllByRecursion}
use mathlib.Core.List.{IsPrefix}
use Rattle.craq_locked_chain.specs.Held.{cell_in}
use Rattle.craq_store_parts.specs.Recorded.{HadLinesIn}
use Rattle.craq_locked_chain.proofs.locked_chain.learn_from.Given as goal

-- the token has seen the lines of the nodes so far
abbrev pub invariant-loop-seat : goal.invariant-loop-seat
invariant-loop-seat g l = record {
  later : IsPrefix l.initial.token l.token;
  seen : AllByRecursion (HadLinesIn l.token) (map cell_in (take l.seat-index l.seats));
  same : map cell_in l.seats ≡ map cell_in l.initial.seats;
}
