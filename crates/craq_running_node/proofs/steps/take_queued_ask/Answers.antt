use Rattle.std.proofs.Common.{◌≡◌, subst, Option, ℕ, Result}
use Rattle.craq_names.specs.declared.refusal.Refusal.{Refusal}
use Rattle.craq_model.specs.declared.ask.Event.TheVariants as events
use Rattle.craq_seat.specs.Calls.{Called}
use Rattle.craq_running_node.specs.Replies.{Settles, TellsCallers, said_to, ticket_in, ticket_of}
use Rattle.craq_running_node.proofs.steps.take_queued_ask.Goals as goal

pub returns-in-Ok-clause-taken : goal.returns-in-Ok-clause-taken
returns-in-Ok-clause-taken g c =
    let seated = c.take_ask.new.seated in
    let mid = c.take_ask.new.replies in
    let t = ticket_in c.in-Ok.taken.accepted in
    let calls = c.in-Ok.ensures.taken.0 in
    let callers = seated.callers.items in
    let after = c.settle.new.callers.items in
    let replies = c.settle.new.replies in
    let is : t ≡ ticket_of seated.desk.cell.last = c.in-Ok.ensures.ticket in
    let reported = subst (λ (o : Option ℕ). TellsCallers g.C.Core.represents c.args.seated.now seated.desk callers (events.Ask c.args.asked.made.ask) c.args.asked.pass o calls c.args.replies.now mid) is c.in-Ok.ensures.taken.1 in
    let by_reply = subst (λ (r : Option (Result Called Refusal)). Settles c.args.asked.at t r callers after mid replies) c.in-Ok.ensures.taken.2 c.settle.ensures in
    let by_ticket = subst (λ (o : Option ℕ). Settles c.args.asked.at o (said_to o calls) callers after mid replies) is by_reply in
    λ taken. (calls, callers, mid, reported, by_ticket)
