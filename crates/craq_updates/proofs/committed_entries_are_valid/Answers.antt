use Rattle.craq_updates.proofs.Explained.{valid_run}
use Rattle.craq_updates.proofs.committed_entries_are_valid.Goals as goal

pub returns : goal.returns
returns c = valid_run
