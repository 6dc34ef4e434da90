use Rattle.craq_seat.proofs.Queues.{rises_first}
use Rattle.craq_seat.proofs.ticket_queue.TicketQueue.truncate.Goals as goal

pub invariant_of-self : goal.invariant_of-self
invariant_of-self g c = λ is. rw c.truncate.ensures.items (rises_first g.T.Ticketed.ticket_of c.self.inside.items.items c.args.count (c.self.invariant is))
