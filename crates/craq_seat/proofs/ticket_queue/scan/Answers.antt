use Rattle.std.proofs.Common.{◌<◌, length, arith, rules}
use Rattle.craq_seat.proofs.Queues.{is_other, none_more}
use Rattle.craq_seat.proofs.ticket_queue.scan.Goals as goal

pub loop-place-preserved : goal.loop-place-preserved
loop-place-preserved g c =
    let within : c.loop-place.place < length c.args.items.now.items = search rules in (
      omega (arith, within),
      none_more g.T.Ticketed.ticket_of c.args.ticket c.args.items.now.items c.loop-place.place c.index.result.now within c.index.ensures c.loop-place.invariant.1 (is_other c.ticket.result _ c.args.ticket c.eq.result c.ticket.ensures c.eq.ensures c.if-eq.false),
    )
