use Rattle.craq_store_history.proofs.Adding.{empty}
use Rattle.craq_workers.proofs.history.open_history.Goals as goal

pub new-requires : goal.new-requires
new-requires c = empty
