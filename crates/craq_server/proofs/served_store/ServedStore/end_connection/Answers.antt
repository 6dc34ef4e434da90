use Rattle.craq_server.proofs.Reached.{reachable_witnessed}
use Rattle.craq_server.proofs.served_store.ServedStore.end_connection.Goals as goal

pub returns-clause-witnessed : goal.returns-clause-witnessed
returns-clause-witnessed g c = reachable_witnessed c.args.self.now.store.now c.args.self.now.passes.now.leap c.args.state c.requires
