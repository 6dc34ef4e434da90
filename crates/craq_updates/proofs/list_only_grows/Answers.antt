use Rattle.craq_updates.proofs.Explained.{only_grows}
use Rattle.craq_updates.proofs.list_only_grows.Goals as goal

pub returns : goal.returns
returns c = only_grows
