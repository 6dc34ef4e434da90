use Rattle.craq_laws.proofs.Histories.{never_new_again}
use Rattle.craq_laws.proofs.never_new_again.Goals as goal

pub returns : goal.returns
returns c = never_new_again
