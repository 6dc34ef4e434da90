use Rattle.std.proofs.Common.{sym}
use Rattle.craq_event_loop.specs.SubmittedCalls.{called_by}
use Rattle.craq_event_loop.proofs.Advancing.{turned_at}
use Rattle.craq_event_loop.proofs.event_loop.advance_at.Goals as goal

pub returns-clause-run_once : goal.returns-clause-run_once
returns-clause-run_once g c =
    turned_at c.args.share.steps (g.H.Backend.tells c.args.backend.now) (g.H.Backend.refuses c.args.backend.now) (called_by (g.H.AsyncBackend.submits c.args.backend.now) (g.H.AsyncBackend.finishes c.args.backend.now))
    c.args.connections.now c.args.key c.in-Some.connection.now c.advance.new.self
    (sym c.in-Some.ensures.value) c.advance.ensures.round c.advance.ensures.rest
