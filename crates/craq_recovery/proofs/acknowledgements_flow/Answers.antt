use Rattle.craq_recovery.proofs.Acks.{acks_flow}
use Rattle.craq_recovery.proofs.acknowledgements_flow.Goals as goal

pub returns : goal.returns
returns c = λ chain run count p q is neighbours rp rq numbers. acks_flow chain run count p q is neighbours rp rq numbers
