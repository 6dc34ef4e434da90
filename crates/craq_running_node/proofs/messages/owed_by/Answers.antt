use Rattle.std.proofs.Common.{◌≡◌, ◌∷◌, ◌∙◌, [], Option, Some, None, IfSome, ap, refl, subst}
use Rattle.std.specs.Prelude.{IsNone}
use Rattle.craq_model.specs.declared.ask.Event.{Event}
use Rattle.craq_model.specs.declared.message.LinkMessage.{LinkMessage}
use Rattle.craq_model.specs.declared.step.Step.{Step}
use Rattle.craq_runs.specs.Chain.{sent_in}
use Rattle.craq_seat.specs.Cells.{Celled, receipt_of}
use Rattle.craq_seat.specs.Numbered.{numbered_from}
use Rattle.craq_running_node.specs.declared.encoding.Kind.TheVariants as kinds
use Rattle.craq_running_node.specs.Encoded.{OnlySends}
use Rattle.craq_store_history.specs.Entries.{lines_in}
use Rattle.craq_store_parts.specs.Recorded.{HasStep}
use Rattle.craq_running_node.proofs.Sending.{lone_sent}
use Rattle.craq_running_node.proofs.messages.owed_by.Goals as goal

-- a conclusion from two facts of the last step, where there is an acknowledgement and so a step
by_last : (P : Type 0) (first second : Step → Type 0) (ack : LinkMessage) (last : Option Step) → IfSome last first → IfSome last second → (last ≡ None → IsNone (Some ack)) → ((s : Step) → first s → second s → P) → P
by_last P first second ack None one two none gives = let never : IsNone (Some ack) = none refl in absurd cc
by_last P first second ack (Some s) one two none gives = gives s one two

pub new-requires : goal.new-requires
new-requires g c =
    let cell = c.args.seated.now.desk.cell in
    let ack = c.in-Some.ack in
    let lines = lines_in cell.opening.name.chain c.token.result in
    let chain : c.opening.result.now.name.chain ≡ cell.opening.name.chain = ap (λ o. o.name.chain) c.opening.ensures ∙ ap (λ x. x.opening.name.chain) c.cell.ensures in
    let only = subst (λ (x : Celled g.row.C.Denot Event). IfSome x.last (λ (s : Step). OnlySends kinds.Ack s.outs × (numbered_from 0 (receipt_of x) (sent_in s.outs) ≡ ack ∷ []))) c.cell-2.ensures c.in-Some.ensures.only in
    let none = subst (λ (x : Celled g.row.C.Denot Event). x.last ≡ None → IsNone (Some ack)) c.cell-2.ensures c.in-Some.ensures.none in
    rw chain
    (by_last _ (HasStep lines cell.opening.name.node cell.stamp) (λ (s : Step). OnlySends kinds.Ack s.outs × (numbered_from 0 (receipt_of cell) (sent_in s.outs) ≡ ack ∷ [])) ack cell.last c.token.ensures.last only none
    (λ s taken sends. lone_sent lines cell.opening.name.node cell.stamp ack s taken sends.1))
