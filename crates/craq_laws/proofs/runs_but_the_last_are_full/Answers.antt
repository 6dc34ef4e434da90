use Rattle.craq_laws.proofs.Full.{runs_full}
use Rattle.craq_laws.proofs.runs_but_the_last_are_full.Goals as goal

pub returns : goal.returns
returns c = runs_full
