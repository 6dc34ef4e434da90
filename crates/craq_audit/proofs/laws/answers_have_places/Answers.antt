use Rattle.craq_audit.proofs.Places.{has_place}
use Rattle.craq_audit.proofs.laws.answers_have_places.Goals as goal

pub returns : goal.returns
returns c = has_place
