use Rattle.craq_chain_invariants.proofs.Invariants.{one_tail_holds_the_list}
use Rattle.craq_chain_invariants.proofs.one_tail_holds_the_list.Goals as goal

pub returns : goal.returns
returns c = one_tail_holds_the_list
