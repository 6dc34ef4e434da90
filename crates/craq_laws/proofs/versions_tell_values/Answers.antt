use Rattle.craq_laws.proofs.Histories.{versions_tell}
use Rattle.craq_laws.proofs.versions_tell_values.Goals as goal

pub returns : goal.returns
returns c = versions_tell
