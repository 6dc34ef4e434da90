use Rattle.craq_strong_answers.proofs.Strong.{checked}
use Rattle.craq_strong_answers.proofs.explanations_are_checked.Goals as goal

pub returns : goal.returns
returns c = checked
