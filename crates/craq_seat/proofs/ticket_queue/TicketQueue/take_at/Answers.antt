use Rattle.std.proofs.Common.{◌≡◌, rules}
use Rattle.std.specs.List.{remove}
use Rattle.craq_seat.proofs.Queues.{rises_without}
use Rattle.craq_seat.proofs.ticket_queue.TicketQueue.take_at.Goals as goal

pub invariant_of-self : goal.invariant_of-self
invariant_of-self g c = λ is.
    let others : c.remove.new.self.items ≡ remove c.self.inside.items.items c.args.place = search rules in
    rw others (rises_without g.T.Ticketed.ticket_of c.self.inside.items.items c.args.place (c.self.invariant is))
