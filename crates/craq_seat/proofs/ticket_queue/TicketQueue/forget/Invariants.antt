use Rattle.std.proofs.Common.{◌≡◌, ◌==◌, length, not}
use Rattle.std.specs.Prelude.{filter}
use Rattle.craq_seat.proofs.ticket_queue.TicketQueue.forget.Given as goal

abbrev pub invariant-loop-item : goal.invariant-loop-item
invariant-loop-item g l = filter (λ x. not (g.T.Ticketed.ticket_of x == l.ticket)) l.self.items ≡ filter (λ x. not (g.T.Ticketed.ticket_of x == l.ticket)) l.fn.self.items

abbrev pub decreases-loop-item : goal.decreases-loop-item
decreases-loop-item g l = length l.self.items
