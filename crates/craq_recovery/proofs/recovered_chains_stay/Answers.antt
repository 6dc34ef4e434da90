use Rattle.craq_recovery.proofs.Staying.{recovered_stays}
use Rattle.craq_recovery.proofs.recovered_chains_stay.Goals as goal

pub returns : goal.returns
returns c = λ chain run count is recovered. recovered_stays chain run count is recovered
