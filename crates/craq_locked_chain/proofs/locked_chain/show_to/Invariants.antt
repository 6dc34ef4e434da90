use Rattle.std.proofs.Common.{◌≡◌, map, take}
use Rattle.std.specs.List.{AllByRecursion}
use Rattle.craq_locked_chain.specs.Held.{cell_in}
use Rattle.craq_store_parts.specs.Recorded.{HasLinesIn}
use Rattle.craq_locked_chain.proofs.locked_chain.show_to.Given as goal

-- the nodes so far have seen what the token has
abbrev pub invariant-loop-seat : goal.invariant-loop-seat
invariant-loop-seat g l = record {
  lines : AllByRecursion (HasLinesIn l.initial.token) (map cell_in (take l.seat-index l.seats));
  same : map cell_in l.seats ≡ map cell_in l.initial.seats;
  token : l.token ≡ l.initial.token;
}
