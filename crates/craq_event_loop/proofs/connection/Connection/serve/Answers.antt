use Rattle.std.proofs.Common.{ap}
use Rattle.craq_event_loop.specs.SubmittedCalls.{called_by}
use Rattle.craq_event_loop.proofs.OwnThread.{on_as_before, on_then}
use Rattle.craq_event_loop.proofs.connection.Connection.serve.Goals as goal

pub loop-init : goal.loop-init
loop-init g c =
    on_as_before (g.B.Backend.tells c.args.backend.now) (g.B.Backend.refuses c.args.backend.now) (called_by (g.B.AsyncBackend.submits c.args.backend.now) (g.B.AsyncBackend.finishes c.args.backend.now)) (g.B.AsyncBackend.finishes c.args.backend.now)
    g.S.Socket.remaining g.S.Socket.contents c.args.self.now c.read_until_dry.new.self (ap (λ x. x.stream) c.read_until_dry.ensures) (ap (λ x. x.state) c.read_until_dry.ensures)

pub loop-preserved : goal.loop-preserved
loop-preserved g c =
    on_then (g.B.Backend.tells c.args.backend.now) (g.B.Backend.refuses c.args.backend.now) (called_by (g.B.AsyncBackend.submits c.args.backend.now) (g.B.AsyncBackend.finishes c.args.backend.now)) (g.B.AsyncBackend.finishes c.args.backend.now)
    g.S.Socket.remaining g.S.Socket.contents c.args.self.now c.loop.self c.turn.new.self c.loop.invariant c.turn.ensures.reaches

pub returns-then-has_ended-clause-reaches : goal.returns-then-has_ended-clause-reaches
returns-then-has_ended-clause-reaches g c =
    on_then (g.B.Backend.tells c.args.backend.now) (g.B.Backend.refuses c.args.backend.now) (called_by (g.B.AsyncBackend.submits c.args.backend.now) (g.B.AsyncBackend.finishes c.args.backend.now)) (g.B.AsyncBackend.finishes c.args.backend.now)
    g.S.Socket.remaining g.S.Socket.contents c.args.self.now c.loop.self c.turn.new.self c.loop.invariant c.turn.ensures.reaches

pub returns-then-has_ended-clause-ended : goal.returns-then-has_ended-clause-ended
returns-then-has_ended-clause-ended g c = c.has_ended.ensures c.if-has_ended.true
