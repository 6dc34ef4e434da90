use Rattle.std.proofs.lemmas.Result.{err_from_is_err_and}
use Rattle.craq_cell_chain.proofs.Sent.{unsent}
use Rattle.craq_cell_chain.proofs.cell_chain.CellChain.at_node.Goals as goal

pub returns-in_err-taken-clause-sent : goal.returns-in_err-taken-clause-sent
returns-in_err-taken-clause-sent g c =
    let p = err_from_is_err_and c.from_residual.result c.from_residual.ensures.1 in
    rw (← c.self.view_is) (unsent c.self.inside.posted c.step_node.new.posted c.from_residual.result p.0 p.1 c.in_err-taken.ensures.same)
