use Rattle.craq_workers.proofs.Moves.{join_refused_so}
use Rattle.craq_workers.proofs.store.join_book.Goals as goal

pub returns-clause-refused : goal.returns-clause-refused
returns-clause-refused g c = join_refused_so c.args.book.now c.join.new.self c.args.id 0 c.join.result c.join.ensures.step
