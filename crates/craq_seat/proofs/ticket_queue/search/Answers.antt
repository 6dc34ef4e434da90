use Rattle.std.proofs.Common.{◌≡◌, ◌<◌, ◌≤◌, ◌+◌, length, refl, arith}
use Rattle.craq_seat.proofs.Queues.{higher_from, is_equal, is_higher, is_lower, is_place, lower_to, none_there}
use Rattle.craq_seat.proofs.ticket_queue.search.Goals as goal

pub returns-then-eq : goal.returns-then-eq
returns-then-eq g c =
    let within : c.probe-middle.result < length c.args.items.now.items = omega (arith, c.loop-low.invariant.within, c.probe-middle.ensures.below) in
    is_place g.T.Ticketed.ticket_of c.args.ticket c.args.items.now.items _ c.index.result.now c.requires within c.index.ensures (is_equal c.ticket-found.result _ c.args.ticket c.eq.result c.ticket-found.ensures c.eq.ensures c.if-eq.true)

pub loop-low-preserved-then-lt : goal.loop-low-preserved-then-lt
loop-low-preserved-then-lt g c =
    let middle = c.probe-middle.result in
    let within : middle < length c.args.items.now.items = omega (arith, c.loop-low.invariant.within, c.probe-middle.ensures.below) in
    let low : g.T.Ticketed.ticket_of c.index.result.now < c.args.ticket = is_lower c.ticket-found.result c.args.ticket _ _ c.lt.result c.ticket-found.ensures refl c.lt.ensures c.if-lt.true in
    record {
      ends = omega (arith, c.probe-middle.ensures.below);
      within = c.loop-low.invariant.within;
      below = lower_to g.T.Ticketed.ticket_of c.args.ticket c.args.items.now.items middle c.index.result.now c.requires within c.index.ensures low;
      above = c.loop-low.invariant.above;
    }

pub loop-low-preserved : goal.loop-low-preserved
loop-low-preserved g c =
    let middle = c.probe-middle.result in
    let within : middle < length c.args.items.now.items = omega (arith, c.loop-low.invariant.within, c.probe-middle.ensures.below) in
    let high : c.args.ticket < g.T.Ticketed.ticket_of c.index.result.now = is_higher c.ticket-found.result _ c.args.ticket c.eq.result c.lt.result c.ticket-found.ensures c.eq.ensures c.if-eq.false c.lt.ensures c.if-lt.false in
    record {
      ends = c.probe-middle.ensures.within;
      within = omega (arith, within);
      below = c.loop-low.invariant.below;
      above = higher_from g.T.Ticketed.ticket_of c.args.ticket c.args.items.now.items middle c.index.result.now c.requires within c.index.ensures high;
    }

pub returns : goal.returns
returns g c = none_there g.T.Ticketed.ticket_of c.args.ticket c.args.items.now.items c.loop-low.low c.loop-low.high c.loop-low.invariant.ends c.loop-low-test.false c.loop-low.invariant.below c.loop-low.invariant.above
