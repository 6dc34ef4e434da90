use Rattle.std.proofs.Common.{refl}
use Rattle.craq_event_loop.specs.Belonging.{came_none}
use Rattle.craq_event_loop.proofs.Advancing.{changes_then, one_completed}
use Rattle.craq_event_loop.proofs.connection.Connection.finish_kept.Goals as goal

pub loop-kept-init : goal.loop-kept-init
loop-kept-init g c = (came_none, refl)

pub loop-kept-preserved : goal.loop-kept-preserved
loop-kept-preserved g c = (
  one_completed (g.H.AsyncBackend.finishes c.args.backend.now) c.args.self.now.state c.loop-kept.self.state c.finish.new.self.state c.in-Some.reply c.loop-kept.invariant.0 (rw c.take_kept.ensures at c.finish.ensures.completes),
  changes_then c.args.self.now c.loop-kept.self c.finish.new.self c.loop-kept.invariant.1 c.finish.ensures.rest,
)
