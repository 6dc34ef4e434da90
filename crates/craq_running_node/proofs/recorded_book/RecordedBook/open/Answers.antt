use Rattle.std.proofs.Common.{ap, ◌∙◌}
use Rattle.craq_running_node.proofs.Beginning.{book_may_open, book_opened}
use Rattle.craq_running_node.proofs.recorded_book.RecordedBook.open.Goals as goal

pub add-requires-clause-may : goal.add-requires-clause-may
add-requires-clause-may g c =
    book_may_open c.args.cell c.args.writer c.opening.result.now.name.chain c.of.result c.requires.opened c.journal.ensures.kept c.requires.none (c.of.ensures ∙ ap (λ x. x.members) c.config.ensures)

pub invariant_of-result : goal.invariant_of-result
invariant_of-result g c =
    book_opened c.args.cell c.args.writer c.add.new.self c.opening.result.now.name.chain c.of.result c.requires.opened c.requires.author c.requires.none (ap (λ x. x.name.chain) c.opening.ensures) (c.of.ensures ∙ ap (λ x. x.members) c.config.ensures)
    c.add.ensures.author c.add.ensures.added
