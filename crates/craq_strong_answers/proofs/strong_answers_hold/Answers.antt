use Rattle.craq_strong_answers.proofs.Strong.{strong}
use Rattle.craq_strong_answers.proofs.strong_answers_hold.Goals as goal

pub returns : goal.returns
returns c = strong
