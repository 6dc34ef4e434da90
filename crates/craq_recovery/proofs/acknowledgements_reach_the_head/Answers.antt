use Rattle.craq_recovery.proofs.Heads.{acks_reach_all}
use Rattle.craq_recovery.proofs.acknowledgements_reach_the_head.Goals as goal

pub returns : goal.returns
returns c = λ chain run count least is r k numbers. acks_reach_all chain run count least is r k numbers
