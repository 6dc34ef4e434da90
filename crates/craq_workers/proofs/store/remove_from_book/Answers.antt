use Rattle.std.proofs.Common.{sym}
use Rattle.craq_workers.proofs.Changing.{removal_witnessed, stop_seen}
use Rattle.craq_workers.proofs.Moves.{removal_refused_so}
use Rattle.craq_workers.proofs.store.remove_from_book.Goals as goal

pub take-requires : goal.take-requires
take-requires g c =
    let parts = c.into_parts-stopped in
    let node = c.args.node in
    rw (parts.ensures.stopped, parts.ensures.stop, sym c.requires) (stop_seen node.stopped.chain parts.result.2 c.learn.new.self node.stopped node.stop c.learn.ensures.that parts.ensures.seen)

pub returns-clause-removed : goal.returns-clause-removed
returns-clause-removed g c =
    let parts = c.into_parts-stopped in
    removal_witnessed c.args.seen c.learn.new.self c.args.book.now.opening.name.chain parts.result.0 c.args.node.stopped parts.result.1 c.take.result c.learn.ensures.this parts.ensures.stopped c.requires c.take.ensures.ordered

pub returns-clause-refused : goal.returns-clause-refused
returns-clause-refused g c = removal_refused_so c.args.book.now c.take.new.self c.into_parts-stopped.result.0 c.into_parts-stopped.result.1 0 c.take.result c.take.ensures.step
