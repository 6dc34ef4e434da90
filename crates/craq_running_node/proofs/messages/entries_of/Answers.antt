use Rattle.std.proofs.Common.{◌≡◌, ◌∙◌, ap, subst, Option, None, [], IfSome, ◌⊎◌}
use Rattle.std.specs.Option.{option_copied}
use Rattle.craq_model.specs.declared.step.Step.{Step}
use Rattle.craq_runs.specs.Chain.{sent_in}
use Rattle.craq_seat.specs.declared.journal.Receipt.{Receipt}
use Rattle.craq_seat.specs.Cells.{receipt_of}
use Rattle.craq_seat.specs.Numbered.{numbered_from}
use Rattle.craq_running_node.specs.Encoded.{AreSentAs, entries_from}
use Rattle.craq_running_node.proofs.Sending.{entries_wired}
use Rattle.craq_running_node.proofs.messages.entries_of.Goals as goal

pub new-requires : goal.new-requires
new-requires g c =
    let cell = c.args.seated.now.desk.cell in
    let items = c.entries_by-sent.result.items in
    let first = c.args.first in
    let chain : c.opening.result.now.name.chain ≡ cell.opening.name.chain = ap (λ o. o.name.chain) c.opening.ensures ∙ ap (λ x. x.opening.name.chain) c.cell-cell.ensures in
    let last : option_copied c.last.result ≡ cell.last = c.last.ensures.value ∙ ap (λ x. x.last) c.cell-cell.ensures in
    let receipt : c.last_receipt.result ≡ receipt_of cell = c.last_receipt.ensures ∙ ap receipt_of c.cell-cell.ensures in
    let by_last = subst (λ (o : Option Step). IfSome o (λ (s : Step). (items ≡ []) ⊎ AreSentAs items (entries_from first (numbered_from 0 c.last_receipt.result (sent_in s.outs))))) last c.entries_by-sent.ensures.sent in
    let sent = subst (λ (r : Receipt). IfSome cell.last (λ (s : Step). (items ≡ []) ⊎ AreSentAs items (entries_from first (numbered_from 0 r (sent_in s.outs))))) receipt by_last in
    let none = subst (λ (o : Option Step). o ≡ None → items ≡ []) last c.entries_by-sent.ensures.none in
    rw chain (entries_wired cell.opening.name.chain c.token.result cell.opening.name.node cell.stamp first items cell.last c.token.ensures.last sent none)
