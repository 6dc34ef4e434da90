use Rattle.craq_locked_chain.proofs.Openings.{becomes_first, opened_members}
use Rattle.craq_locked_chain.proofs.chain_book.ChainBook.open.Goals as goal

pub returns-clause-token : goal.returns-clause-token
returns-clause-token g c =
    opened_members c.args.cell.opening.name.chain c.token-token.result c.args.cell c.requires.opened (rw c.open-book.ensures at c.token-token.ensures.at)

pub invariant_of-result : goal.invariant_of-result
invariant_of-result g c = rw (c.token-token.ensures.same, c.open-book.ensures) (becomes_first c.args.cell c.requires.opened)
