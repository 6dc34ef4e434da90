use Rattle.craq_strong_answers.proofs.Strong.{places}
use Rattle.craq_strong_answers.proofs.strong_answers_have_places.Goals as goal

pub returns : goal.returns
returns c = places
