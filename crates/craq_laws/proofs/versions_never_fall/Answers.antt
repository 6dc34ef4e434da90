use Rattle.craq_laws.proofs.Histories.{versions_rise}
use Rattle.craq_laws.proofs.versions_never_fall.Goals as goal

pub returns : goal.returns
returns c = versions_rise
