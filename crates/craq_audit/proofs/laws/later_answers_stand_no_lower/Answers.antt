use Rattle.craq_audit.proofs.Places.{no_lower}
use Rattle.craq_audit.proofs.laws.later_answers_stand_no_lower.Goals as goal

pub returns : goal.returns
returns c = no_lower
