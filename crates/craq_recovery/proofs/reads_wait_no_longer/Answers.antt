use Rattle.craq_recovery.proofs.ReadsAnswered.{reads_answered}
use Rattle.craq_recovery.proofs.reads_wait_no_longer.Goals as goal

pub returns : goal.returns
returns c = λ chain run count id typed ready last other numbers. reads_answered chain run count id typed ready last other numbers
