use Rattle.std.proofs.Common.{◌∙◌, refl}
use Rattle.craq_event_loop.specs.SubmittedCalls.{called_by}
use Rattle.craq_event_loop.proofs.Coming.{stays_either, waits_either}
use Rattle.craq_event_loop.proofs.Reaching.{either_reachable}
use Rattle.craq_event_loop.proofs.event_loop.LoopConnections+ClientStream+T+P.take_arrivals.Goals as goal

pub loop-init : goal.loop-init
loop-init g c = λ k. (k, λ key one here. here, λ r. r, refl)

pub loop-preserved : goal.loop-preserved
loop-preserved g c = λ k. (
  c.take_in.ensures.kept (c.loop.invariant k).0,
  λ key one here. stays_either c.in-Some.arrival.stream c.in-Some.arrival.session c.in-Some.arrival.slot c.in-Some.arrival.receipts c.loop.self c.take_in.new.self c.take_in.result
      c.take_in.ensures.taken c.take_in.ensures.refused (c.loop.invariant k).0 key one ((c.loop.invariant k).1 key one here),
  λ r. either_reachable g.H.LoopBackend.is_new (g.H.Backend.tells c.args.backend.now) (g.H.Backend.refuses c.args.backend.now) (called_by (g.H.AsyncBackend.submits c.args.backend.now) (g.H.AsyncBackend.finishes c.args.backend.now)) (g.H.AsyncBackend.finishes c.args.backend.now)
      c.loop.self c.take_in.new.self c.in-Some.arrival.stream c.in-Some.arrival.session c.in-Some.arrival.slot c.in-Some.arrival.receipts c.in-Some.ensures c.take_in.result
      c.take_in.ensures.taken c.take_in.ensures.refused (c.loop.invariant k).0 ((c.loop.invariant k).2 r),
  waits_either c.in-Some.arrival.stream c.in-Some.arrival.session c.in-Some.arrival.slot c.in-Some.arrival.receipts c.loop.self c.take_in.new.self c.take_in.result
      c.take_in.ensures.taken c.take_in.ensures.refused (c.loop.invariant k).0
      ∙ (c.loop.invariant k).3,
)

pub returns-after-loop-clause-kept : goal.returns-after-loop-clause-kept
returns-after-loop-clause-kept g c k = (c.loop.invariant k).0

pub returns-after-loop-clause-stay : goal.returns-after-loop-clause-stay
returns-after-loop-clause-stay g c k = (c.loop.invariant k).1

pub returns-after-loop-clause-reachable : goal.returns-after-loop-clause-reachable
returns-after-loop-clause-reachable g c k = (c.loop.invariant k).2

pub returns-in_default-clause-kept : goal.returns-in_default-clause-kept
returns-in_default-clause-kept g c k = (c.loop.invariant k).0

pub returns-in_default-clause-stay : goal.returns-in_default-clause-stay
returns-in_default-clause-stay g c k = (c.loop.invariant k).1

pub returns-in_default-clause-reachable : goal.returns-in_default-clause-reachable
returns-in_default-clause-reachable g c k = (c.loop.invariant k).2

pub returns-after-loop-clause-behind : goal.returns-after-loop-clause-behind
returns-after-loop-clause-behind g c k = (c.loop.invariant k).3

pub returns-in_default-clause-behind : goal.returns-in_default-clause-behind
returns-in_default-clause-behind g c k = (c.loop.invariant k).3
