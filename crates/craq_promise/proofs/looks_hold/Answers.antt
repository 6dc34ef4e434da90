use Rattle.craq_promise.proofs.Holding.{looks_hold}
use Rattle.craq_promise.proofs.looks_hold.Goals as goal

pub returns : goal.returns
returns c = looks_hold
