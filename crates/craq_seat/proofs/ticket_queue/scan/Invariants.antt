use Rattle.std.proofs.Common.{◌≡◌, ◌≤◌, ◌==◌, ◌-◌, take, length, None}
use Rattle.std.specs.Prelude.{find}
use Rattle.craq_seat.proofs.ticket_queue.scan.Given as goal

abbrev pub invariant-loop-place : goal.invariant-loop-place
invariant-loop-place g l = (l.place ≤ length l.items.items) × (find (λ x. g.T.Ticketed.ticket_of x == l.ticket) (take l.place l.items.items) ≡ None)

abbrev pub decreases-loop-place : goal.decreases-loop-place
decreases-loop-place g l = length l.items.items - l.place
