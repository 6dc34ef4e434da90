use Rattle.craq_event_loop.specs.SubmittedCalls.{called_by}
use Rattle.craq_event_loop.proofs.OwnThread.{on_turn}
use Rattle.craq_event_loop.proofs.connection.Connection.turn.Goals as goal

pub returns-clause-reaches : goal.returns-clause-reaches
returns-clause-reaches g c =
    on_turn (g.B.Backend.tells c.args.backend.now) (g.B.Backend.refuses c.args.backend.now) (called_by (g.B.AsyncBackend.submits c.args.backend.now) (g.B.AsyncBackend.finishes c.args.backend.now)) (g.B.AsyncBackend.finishes c.args.backend.now)
    g.S.Socket.remaining g.S.Socket.contents c.args.self.now c.read.new.self c.advance.new.self c.take_rest.new.self c.complete.new.self c.give.new.self _ _
    c.read.ensures.reads c.read.ensures.contents c.advance.ensures.round c.advance.ensures.rest c.take_rest.ensures.reaches c.complete.ensures.completes c.complete.ensures.rest c.give.ensures.writes c.give.ensures.remaining
