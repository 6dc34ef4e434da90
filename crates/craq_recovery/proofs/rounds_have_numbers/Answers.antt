use Rattle.craq_recovery.proofs.Accounts.{have_numbers}
use Rattle.craq_recovery.proofs.rounds_have_numbers.Goals as goal

pub returns : goal.returns
returns c = λ chain run count rounds is room. have_numbers chain run count rounds is room
