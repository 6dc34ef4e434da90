use Rattle.craq_recovery.proofs.Answered.{no_update_waits}
use Rattle.craq_recovery.proofs.updates_wait_no_longer.Goals as goal

pub returns : goal.returns
returns c = λ chain run count typed ready first second. no_update_waits chain run count typed ready first second
