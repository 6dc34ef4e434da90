use Rattle.craq_recovery.proofs.Whole.{all_ready}
use Rattle.craq_recovery.proofs.all_members_become_ready.Goals as goal

pub returns : goal.returns
returns c = λ chain run count typed hear first numbers. all_ready chain run count typed hear first numbers
