use Rattle.craq_recovery.proofs.AllAnswered.{asks_answered}
use Rattle.craq_recovery.proofs.waiting_asks_are_answered_while_numbers_last.Goals as goal

pub returns : goal.returns
returns c = λ chain run count id ticket typed all some numbers member waits. asks_answered chain run count id ticket typed all some numbers member waits
