use Rattle.std.proofs.Common.{refl}
use Rattle.craq_event_loop.specs.Belonging.{came_none}
use Rattle.craq_event_loop.proofs.Advancing.{changes_then, takes_completions, then_completed}
use Rattle.craq_event_loop.proofs.connection.Connection.complete.Goals as goal

pub loop-init : goal.loop-init
loop-init g c = (came_none, refl)

pub loop-preserved : goal.loop-preserved
loop-preserved g c = (
  then_completed (g.B.AsyncBackend.finishes c.args.backend.now) c.args.self.now.state c.loop.self.state c.take_reply.new.self.state c.loop.invariant.0
      (takes_completions (g.B.AsyncBackend.finishes c.args.backend.now) _ _ c.loop.self c.take_reply.new.self c.take_reply.ensures),
  changes_then c.args.self.now c.loop.self c.take_reply.new.self c.loop.invariant.1 c.take_reply.ensures.rest,
)
