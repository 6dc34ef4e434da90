use Rattle.craq_recovery.proofs.Recovering.{running_recover}
use Rattle.craq_recovery.proofs.running_ready_chains_recover.Goals as goal

pub returns : goal.returns
returns c = λ chain run count typed all first rest. running_recover chain run count typed all first rest
