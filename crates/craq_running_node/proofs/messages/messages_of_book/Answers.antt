use Rattle.std.proofs.Common.{◌≡◌, ◌∙◌, ap, subst, None, [], IfSome, ◌⊎◌}
use Rattle.craq_epochs.specs.Mastered.{Mastered}
use Rattle.craq_model.specs.declared.step.Step.{Step}
use Rattle.craq_runs.specs.Chain.{sent_in}
use Rattle.craq_seat.specs.declared.journal.BookEvent.{BookEvent}
use Rattle.craq_seat.specs.Cells.{Celled, receipt_of}
use Rattle.craq_seat.specs.Numbered.{numbered_from}
use Rattle.craq_running_node.specs.Encoded.{AreSentAs}
use Rattle.craq_running_node.proofs.Sending.{step_wired}
use Rattle.craq_running_node.proofs.messages.messages_of_book.Goals as goal

pub new-requires : goal.new-requires
new-requires g c =
    let book = c.args.book.now in
    let items = c.sent_by_book-sent.result.items in
    let chain : c.opening.result.now.name.chain ≡ book.opening.name.chain = ap (λ o. o.name.chain) c.opening.ensures ∙ ap (λ x. x.opening.name.chain) c.cell.ensures in
    let sent = subst (λ (x : Celled Mastered BookEvent). IfSome x.last (λ (s : Step). (items ≡ []) ⊎ AreSentAs items (numbered_from 0 (receipt_of x) (sent_in s.outs)))) c.cell-2.ensures c.sent_by_book-sent.ensures.sent in
    let none = subst (λ (x : Celled Mastered BookEvent). x.last ≡ None → items ≡ []) c.cell-2.ensures c.sent_by_book-sent.ensures.none in
    rw chain (step_wired book.opening.name.chain c.token.result book.opening.name.node book.stamp items book.last c.token.ensures.last sent none)
