use Rattle.craq_recovery.proofs.Whole.{joined_ready}
use Rattle.craq_recovery.proofs.joined_members_become_ready.Goals as goal

pub returns : goal.returns
returns c = λ chain run count p q typed n ready numbers. joined_ready chain run count p q typed n ready numbers
