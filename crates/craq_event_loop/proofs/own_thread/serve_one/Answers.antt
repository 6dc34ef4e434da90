use Rattle.craq_event_loop.specs.SubmittedCalls.{called_by}
use Rattle.craq_event_loop.proofs.OwnThread.{from_new}
use Rattle.craq_event_loop.proofs.own_thread.serve_one.Goals as goal

pub returns : goal.returns
returns g c =
    from_new (g.B.Backend.tells c.args.backend.now) (g.B.Backend.refuses c.args.backend.now) (called_by (g.B.AsyncBackend.submits c.args.backend.now) (g.B.AsyncBackend.finishes c.args.backend.now)) (g.B.AsyncBackend.finishes c.args.backend.now) _ _
    c.args.arrival.stream c.args.arrival.session c.args.arrival.slot c.args.arrival.receipts c.new-connection.result c.serve.new.self c.into_state.result
    c.new-connection.ensures.is_new c.new-connection.ensures.arrival c.serve.ensures.reaches c.into_state.ensures
