use Rattle.craq_recovery.proofs.Recovering.{ready_recover}
use Rattle.craq_recovery.proofs.ready_chains_recover.Goals as goal

pub returns : goal.returns
returns c = λ chain run count typed ready numbers. ready_recover chain run count typed ready numbers
