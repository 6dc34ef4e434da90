use Rattle.craq_client_index.proofs.Placing.{noted_first}
use Rattle.craq_client_index.proofs.places.put_first.Goals as goal

pub returns-clause-ok : goal.returns-clause-ok
returns-clause-ok c = noted_first c.args.places.now.entries c.insert.new.self.entries c.args.client c.args.position _ c.push.new.self c.requires.absent c.requires.empty c.in_ok-push.ensures.ok c.in_ok-insert.ensures.updates.0
