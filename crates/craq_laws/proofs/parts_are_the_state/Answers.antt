use Rattle.craq_laws.proofs.Parts.{parts_joined}
use Rattle.craq_laws.proofs.parts_are_the_state.Goals as goal

pub returns : goal.returns
returns c = parts_joined
