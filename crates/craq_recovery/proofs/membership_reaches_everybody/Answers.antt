use Rattle.craq_recovery.proofs.Hearing.{heard}
use Rattle.craq_recovery.proofs.membership_reaches_everybody.Goals as goal

pub returns : goal.returns
returns c = λ chain run count is runs numbers. heard chain run count is runs numbers
