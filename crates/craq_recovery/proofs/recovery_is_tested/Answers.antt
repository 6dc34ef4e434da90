use Rattle.craq_recovery.proofs.Tests.{recovered}
use Rattle.craq_recovery.proofs.recovery_is_tested.Goals as goal

pub returns : goal.returns
returns c = λ chain h. recovered chain h
