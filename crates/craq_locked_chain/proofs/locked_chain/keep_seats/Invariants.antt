use Rattle.std.proofs.Common.{drop, map}
use Rattle.std.specs.List.{AllByRecursion}
use Rattle.craq_locked_chain.specs.Held.{cell_in}
use Rattle.craq_seat.specs.Kept.{IsKept}
use Rattle.craq_locked_chain.proofs.locked_chain.keep_seats.Given as goal

abbrev pub invariant-loop-seat : goal.invariant-loop-seat
invariant-loop-seat g l = AllByRecursion (IsKept g.C.Core.represents) (map cell_in (drop l.seat-index l.seats)) → AllByRecursion (IsKept g.C.Core.represents) (map cell_in l.seats)
