use Rattle.craq_compact_history.proofs.Forgets.{forgets}
use Rattle.craq_compact_history.proofs.settled_entries_are_forgotten.Goals as goal

pub returns : goal.returns
returns c = λ p q r s d. forgets p q _ r s d
