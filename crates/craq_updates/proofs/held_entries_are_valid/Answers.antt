use Rattle.craq_updates.proofs.Explained.{valid_nodes}
use Rattle.craq_updates.proofs.held_entries_are_valid.Goals as goal

pub returns : goal.returns
returns c = valid_nodes
