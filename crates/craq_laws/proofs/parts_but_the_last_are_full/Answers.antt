use Rattle.craq_laws.proofs.Full.{parts_full}
use Rattle.craq_laws.proofs.parts_but_the_last_are_full.Goals as goal

pub returns : goal.returns
returns c = parts_full
