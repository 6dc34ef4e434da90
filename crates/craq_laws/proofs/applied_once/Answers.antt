use Rattle.craq_laws.proofs.Histories.{applied_is_old}
use Rattle.craq_laws.proofs.applied_once.Goals as goal

pub returns : goal.returns
returns c = applied_is_old
