use Rattle.craq_laws.proofs.Parts.{runs_joined}
use Rattle.craq_laws.proofs.runs_are_the_entries.Goals as goal

pub returns : goal.returns
returns c = runs_joined
