use Rattle.std.proofs.Common.{subst}
use Rattle.std.specs.Prelude.{IfOk}
use Rattle.craq_store_parts.specs.Sent.{IsMade}
use Rattle.craq_workers.specs.Clients.{Asker}
use Rattle.craq_workers.proofs.client.Client.make.Goals as goal

pub returns-clause-made : goal.returns-clause-made
returns-clause-made g c = subst (λ (a : Asker). IfOk c.make_call.result (λ r. IsMade a.seen r.0 c.args.node.now c.args.ask.now c.make_call.new.session.seen)) c.self.view_is c.make_call.ensures.made
