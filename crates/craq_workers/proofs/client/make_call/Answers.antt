use Rattle.craq_workers.proofs.Witnessing.{made_later}
use Rattle.craq_workers.proofs.client.make_call.Goals as goal

pub returns-in-Some-clause-later : goal.returns-in-Some-clause-later
returns-in-Some-clause-later g c = made_later c.args.session.now.seen c.call.new.self.seen c.in-Some.made.call c.args.node.now c.args.ask.now (rw c.in_ok-copy.ensures at c.in-Some.ensures.made)
