use Rattle.craq_store_history.proofs.Adding.{chain_is_a_run}
use Rattle.craq_store_history.proofs.laws.each_chain_is_a_run.Goals as goal

pub returns : goal.returns
returns c = chain_is_a_run
