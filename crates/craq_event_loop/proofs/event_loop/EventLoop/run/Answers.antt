use Rattle.mio.specs.Events.{items}
use Rattle.craq_event_loop.specs.SubmittedCalls.{called_by}
use Rattle.craq_event_loop.proofs.Reaching.{none_reachable, reported_reachable}
use Rattle.craq_event_loop.proofs.event_loop.EventLoop.run.Goals as goal

pub loop-init : goal.loop-init
loop-init g c = (c.new-members.ensures.kept, none_reachable g.H.LoopBackend.is_new (g.H.Backend.tells c.args.backend.now) (g.H.Backend.refuses c.args.backend.now) (called_by (g.H.AsyncBackend.submits c.args.backend.now) (g.H.AsyncBackend.finishes c.args.backend.now)) (g.H.AsyncBackend.finishes c.args.backend.now) c.new-members.result c.new-members.ensures.none)

pub pause-pause-requires : goal.pause-pause-requires
pause-pause-requires g c = c.run_once.ensures.kept

pub loop-preserved : goal.loop-preserved
loop-preserved g c = (
  c.notice.ensures.kept c.run_once.ensures.kept,
  reported_reachable g.H.LoopBackend.is_new (g.H.Backend.tells c.args.backend.now) (g.H.Backend.refuses c.args.backend.now) (called_by (g.H.AsyncBackend.submits c.args.backend.now) (g.H.AsyncBackend.finishes c.args.backend.now)) (g.H.AsyncBackend.finishes c.args.backend.now)
      (items c.poll.new.events) c.run_once.new.self.connections c.notice.new.self.connections c.notice.ensures.reported
      c.run_once.ensures.reachable,
)

pub run_once-requires-clause-kept : goal.run_once-requires-clause-kept
run_once-requires-clause-kept g c = c.loop.invariant.0

pub run_once-requires-clause-reachable : goal.run_once-requires-clause-reachable
run_once-requires-clause-reachable g c = c.loop.invariant.1
