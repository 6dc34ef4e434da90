use Rattle.std.proofs.Common.{Bor}
use Rattle.mio.specs.declared.event.event.Event.{Event}
use Rattle.craq_event_loop.proofs.Coming.{gone_on, reported_next}
use Rattle.craq_event_loop.proofs.event_loop.LoopConnections.notice.Goals as goal

pub loop-event-preserved : goal.loop-event-preserved
loop-event-preserved g c = (
  λ k. c.notice_event.ensures.kept (c.loop-event.invariant.0 k),
  reported_next (λ (e : Bor Event). e.now) c.loop-event.yielded c.in-Some.event c.args.self.now.connections c.loop-event.self.connections c.notice_event.new.self.connections
      c.loop-event.invariant.1 c.notice_event.ensures.reported,
  gone_on (λ (e : Bor Event). e.now) c.loop-event.yielded c.in-Some.event c.loop-event.event-iterator.rest.now c.next.new.self.rest.now c.args.events.now.inner.items
      c.loop-event.invariant.2 c.in-Some.ensures.steps,
)
