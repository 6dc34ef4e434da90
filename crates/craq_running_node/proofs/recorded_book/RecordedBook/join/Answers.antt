use Rattle.std.proofs.Common.{ap, List, subst, sym, ◌∙◌, ℕ}
use Rattle.craq_store_history.specs.declared.entry.HistoryEntry.{HistoryEntry}
use Rattle.craq_seat.specs.declared.journal.BookEvent.TheVariants as books
use Rattle.craq_store_parts.specs.Recorded.{HasOrdered}
use Rattle.craq_running_node.proofs.Joining.{has_ordered}
use Rattle.craq_running_node.proofs.recorded_book.RecordedBook.join.Goals as goal

pub new-joined-requires : goal.new-joined-requires
new-joined-requires g c =
    let chain = c.args.self.now.opening.name.chain in
    let ordered = has_ordered c.args.token c.in-Ok.seen chain (books.Join c.args.node) c.in-Ok.receipt c.in-Ok.ensures.ordered in
    let again = subst (λ (l : List HistoryEntry). HasOrdered l chain (books.Join c.args.node)) (sym c.again.ensures.copy) ordered in
    subst (λ (k : ℕ). HasOrdered c.again.result k (books.Join c.args.node)) (sym (ap (λ x. x.name.chain) c.opening.ensures ∙ ap (λ x. x.opening.name.chain) c.self.view_is)) again
