use Rattle.std.proofs.Common.{sym}
use Rattle.craq_seat.proofs.Queues.{found_is}
use Rattle.craq_seat.proofs.ticket_queue.TicketQueue.get.Goals as goal

pub returns-in-Some : goal.returns-in-Some
returns-in-Some g c = rw (← c.self.view_is) (sym (found_is g.T.Ticketed.ticket_of c.args.ticket c.self.inside.items.items c.in-Some.place c.index.result.now (rw (← c.self.view_is) at c.in-Some.ensures) c.index.ensures))
