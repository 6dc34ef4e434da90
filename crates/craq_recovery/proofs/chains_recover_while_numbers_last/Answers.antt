use Rattle.craq_recovery.proofs.Whole.{recover_in_rounds}
use Rattle.craq_recovery.proofs.chains_recover_while_numbers_last.Goals as goal

pub returns : goal.returns
returns c = λ chain run count typed all some numbers. recover_in_rounds chain run count typed all some numbers
