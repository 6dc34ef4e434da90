use Rattle.std.proofs.Common.{◌≡◌, ◌<◌, ◌+◌, ◌-◌, length, refl, arith}
use Rattle.craq_seat.proofs.Queues.{is_lower, rises_higher}
use Rattle.craq_seat.proofs.ticket_queue.TicketQueue.rises_with.Goals as goal

pub returns-then-self : goal.returns-then-self
returns-then-self g c = λ is.
    let all = c.self.inside.items.ok.0 in
    let some : 0 < c.self.inside.items.len = c.in-Some.ensures.variant.0 refl in
    let end : c.self.inside.items.len - 1 + 1 ≡ length c.self.inside.items.items = omega (arith, all, some) in
    let low : g.T.Ticketed.ticket_of c.in-Some.last.now < g.T.Ticketed.ticket_of c.args.item.now = is_lower c.ticket.result c.ticket-then-self.result _ _ c.lt.result c.ticket.ensures c.ticket-then-self.ensures c.lt.ensures is in
    rw (← c.self.view_is) (rises_higher g.T.Ticketed.ticket_of c.self.inside.items.items (c.self.inside.items.len - 1) c.in-Some.last.now c.args.item.now (c.self.invariant c.if-self.true) end c.in-Some.ensures.lookup low)
