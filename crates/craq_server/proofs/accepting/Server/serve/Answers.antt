use Rattle.craq_server.proofs.Reached.{served_reachable}
use Rattle.craq_server.proofs.accepting.Server.serve.Goals as goal

pub end_connection-calls-requires : goal.end_connection-calls-requires
end_connection-calls-requires g c =
    served_reachable c.args.backend.store.now c.args.backend.passes.now.leap c.into_arrival-arrival.result.session c.serve_one-state.result c.into_arrival-arrival.ensures c.serve_one-state.ensures
