use Rattle.std.proofs.Common.{◌≡◌, ◌∙◌, rules, ap, inr, subst, sym, List, Option, ℕ, refl}
use Rattle.craq_seat.specs.declared.token.CallToken.{CallToken}
use Rattle.craq_model.specs.declared.ask.Ask.{Ask}
use Rattle.craq_model.specs.declared.ask.Event.TheVariants as events
use Rattle.craq_seat.specs.declared.seat.Caller.{Caller}
use Rattle.craq_store_history.specs.Chains.{WasCalled}
use Rattle.craq_running_node.specs.Replies.{Keeps, RefusesStep, TellsCallers, in_hand, replies_to, said_by, said_to, ticket_in, ticket_of, waiting_after}
use Rattle.craq_running_node.proofs.Telling.{says_it, reported_callers, ticket_accepted}
use Rattle.craq_running_node.proofs.steps.take_ask.Goals as goal

pub take-requires-clause-may : goal.take-requires-clause-may
take-requires-clause-may g c =
    let made = c.args.asked.0 in
    let here : c.args.seated.now.desk.cell.opening.name ≡ made.name = search rules in
    let called : WasCalled c.into_parts-ask.result.1.seen c.into_parts-ask.result.1.call c.args.seated.now.desk.cell.opening.name c.into_parts-ask.result.0 = rw (c.into_parts-ask.ensures.call, here, c.into_parts-ask.ensures.ask) c.into_parts-ask.ensures.made in
    rw c.called.ensures (record { sent = tt; called = (c.into_parts-ask.result.0, refl, called) })

pub returns-in-Ok-clause-own : goal.returns-in-Ok-clause-own
returns-in-Ok-clause-own g c =
    let last = c.take.new.self.cell.last in
    let accepted = c.in-Ok.done.accepted in
    let own : c.last_ticket.result ≡ ticket_of last = c.last_ticket.ensures ∙ ap ticket_of (c.last.ensures.value ∙ ap (λ x. x.last) c.cell-in-Ok.ensures) in
    let its : ticket_in accepted ≡ ticket_of last = ticket_accepted c.take.new.self.cell.opening.name c.take.new.self.cell.stamp c.args.asked.1 c.into_parts-ask.result.1.call last accepted c.in-Ok.ensures.moved (rw c.called.ensures at c.in-Ok.ensures.accepted) in
    says_it c.last_ticket.result (ticket_in accepted) c.in-Ok.done.calls (in_hand c.finish-reply.result) (own ∙ sym its) c.finish-reply.ensures.own

pub returns-in-Ok-clause-taken : goal.returns-in-Ok-clause-taken
returns-in-Ok-clause-taken g c =
    let represents = g.C.Core.represents in
    let old = c.args.seated.now in
    let took = c.take.new.self in
    let new = c.finish-reply.new.seated in
    let ask = c.into_parts-ask.result.0 in
    let pass = c.args.asked.1 in
    let calls = c.in-Ok.done.calls in
    let before = c.args.replies.now in
    let after = c.finish-reply.new.replies in
    let accepted = c.in-Ok.done.accepted in
    let own : c.last_ticket.result ≡ ticket_of took.cell.last = c.last_ticket.ensures ∙ ap ticket_of (c.last.ensures.value ∙ ap (λ x. x.last) c.cell-in-Ok.ensures) in
    let its : ticket_in accepted ≡ ticket_of took.cell.last = ticket_accepted took.cell.opening.name took.cell.stamp pass c.into_parts-ask.result.1.call took.cell.last accepted c.in-Ok.ensures.moved (rw c.called.ensures at c.in-Ok.ensures.accepted) in
    let same : c.last_ticket.result ≡ ticket_in accepted = own ∙ sym its in
    let said = said_by calls took.cell.last c.last_ticket.result in
    let others = c.finish-reply.ensures.others ∙ ap (λ (cs : List (Caller CallToken)). waiting_after cs said) c.reserve.ensures.items in
    let kept = subst (λ (cs : List (Caller CallToken)). Keeps before (replies_to cs said) after) c.reserve.ensures.items c.finish-reply.ensures.reported in
    let reported = reported_callers represents old took new.desk new.callers.items (events.Ask ask) c.in-Ok.field-0-0 pass pass c.last_ticket.result calls before after
    c.finish-reply.ensures.desk c.in-Ok.ensures.receipt refl (c.in-Ok.ensures.step, c.take.ensures.kept) c.in-Ok.ensures.calls others kept in
    let by_ask = subst (λ (a : Ask). TellsCallers represents old new.desk new.callers.items (events.Ask a) pass c.last_ticket.result calls before after) c.into_parts-ask.ensures.ask reported in (
      calls,
      subst (λ (t : Option ℕ). TellsCallers represents old new.desk new.callers.items (events.Ask c.args.asked.0.ask) pass t calls before after) same by_ask,
      c.finish-reply.ensures.own ∙ ap (λ (t : Option ℕ). said_to t calls) same,
    )

pub returns-in-Err-clause-refused : goal.returns-in-Err-clause-refused
returns-in-Err-clause-refused g c =
    let refused = c.in-Err.refused.refusal in
    let refuses = subst (λ (a : Ask). RefusesStep g.C.Core.represents c.args.seated.now.desk c.take.new.self (events.Ask a) c.args.asked.1 refused) c.into_parts-ask.ensures.ask
    ((c.in-Err.ensures.step, c.take.ensures.kept), c.in-Err.ensures.same) in
    rw c.new.ensures (inr (inr refuses))
