use Rattle.std.proofs.Common.{◌≡◌, ◌==◌, ◌∙◌, ℕ, sym}
use Rattle.craq_seat.proofs.Queues.{all_gone, one_fewer, others_stay}
use Rattle.craq_seat.proofs.ticket_queue.TicketQueue.forget.Goals as goal

pub loop-item-preserved : goal.loop-item-preserved
loop-item-preserved g c = others_stay (λ x. g.T.Ticketed.ticket_of x == c.args.ticket) c.loop-item.self.items c.take.new.self.items c.take.ensures.others ∙ c.loop-item.invariant

pub loop-item-smaller : goal.loop-item-smaller
loop-item-smaller g c = one_fewer (λ x. g.T.Ticketed.ticket_of x == c.args.ticket) c.loop-item.self.items c.take.new.self.items c.in-Some.item c.in-Some.ensures.item c.take.ensures.others

pub returns : goal.returns
returns g c = all_gone (λ x. g.T.Ticketed.ticket_of x == c.args.ticket) c.loop-item.self.items c.take.new.self.items c.in_default.ensures.item c.take.ensures.others ∙ c.loop-item.invariant
