use Rattle.craq_event_loop.proofs.Advancing.{takes_first}
use Rattle.craq_event_loop.proofs.connection.Connection.take_reply.Goals as goal

pub returns-then-is_first : goal.returns-then-is_first
returns-then-is_first g c =
    takes_first (g.H.AsyncBackend.finishes c.args.backend.now) c.args.call c.args.reply c.args.self.now c.finish.new.self c.finish_kept.new.self (c.is_first.ensures.0 c.if-is_first.true) c.finish.ensures.completes
    c.finish_kept.ensures.completes c.finish.ensures.rest c.finish_kept.ensures.rest
