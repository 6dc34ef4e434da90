use Rattle.craq_laws.proofs.Histories.{said_elsewhere, apply-old}
use Rattle.craq_laws.proofs.said_until_asked_again.Goals as goal

pub returns : goal.returns
returns c = record { others = said_elsewhere; old = apply-old }
