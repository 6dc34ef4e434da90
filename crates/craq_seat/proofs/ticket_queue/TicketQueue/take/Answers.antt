use Rattle.std.proofs.Common.{◌∙◌, sym}
use Rattle.craq_seat.proofs.Queues.{found_some, left_is, none_left}
use Rattle.craq_seat.proofs.ticket_queue.TicketQueue.take.Goals as goal

pub returns-in-Some : goal.returns-in-Some
returns-in-Some g c = record {
  item = found_some g.T.Ticketed.ticket_of c.args.ticket c.args.self.now.items c.in-Some.place c.take_at.result c.in-Some.ensures c.take_at.ensures.some c.take_at.ensures.item;
  others = c.take_at.ensures.others ∙ left_is g.T.Ticketed.ticket_of c.args.ticket c.args.self.now.items c.in-Some.place c.take_at.result c.in-Some.ensures c.take_at.ensures.some;
}

pub returns-in-None-clause-others : goal.returns-in-None-clause-others
returns-in-None-clause-others g c = sym (none_left _ c.args.self.now.items c.in-None.ensures)
