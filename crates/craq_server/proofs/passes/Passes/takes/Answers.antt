use Rattle.craq_server.proofs.Sessions.{leaps}
use Rattle.craq_server.proofs.passes.Passes.takes.Goals as goal

pub returns-clause-leaps : goal.returns-clause-leaps
returns-clause-leaps c = λ untaken. leaps c.of.result c.args.self.now.leap c.args.pass c.is_taken.result c.is_taken.ensures untaken
