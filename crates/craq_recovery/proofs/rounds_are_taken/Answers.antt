use Rattle.craq_recovery.proofs.Taking.{rounds_taken}
use Rattle.craq_recovery.proofs.rounds_are_taken.Goals as goal

pub returns : goal.returns
returns c = λ chain run count is. rounds_taken chain run count
