use Rattle.std.proofs.Common.{◌≡◌, ◌∙◌, Ok, Err, Some, None, option_map, subst, sym, ap, refl, Option, ℕ}
use Rattle.craq_model.specs.declared.ask.Event.TheVariants as events
use Rattle.craq_seat.specs.Calls.{Called}
use Rattle.craq_running_node.specs.Replies.{TellsCallers, in_hand, ticket_in, ticket_of}
use Rattle.craq_running_node.proofs.Telling.{hand_after}
use Rattle.craq_running_node.proofs.steps.take_own_ask.Goals as goal

-- the step gave no receipts
pub returns-in-Err-clause-taken : goal.returns-in-Err-clause-taken
returns-in-Err-clause-taken g c =
    let seated = c.take_ask.new.seated in
    let mid = c.take_ask.new.replies in
    let t = ticket_in c.in_ok-accepted.field-0.accepted in
    let taken = c.in_ok-accepted.ensures.taken in
    let is : t ≡ ticket_of seated.desk.cell.last = c.in_ok-accepted.ensures.ticket in
    let says = sym (ap in_hand c.in-Err.is) ∙ taken.2 in (
      taken.0,
      seated.callers.items,
      mid,
      subst (λ (o : Option ℕ). TellsCallers g.C.Core.represents c.args.seated.now seated.desk seated.callers.items (events.Ask c.args.own.made.ask) c.args.own.pass o taken.0 c.args.replies.now mid) is taken.1,
      hand_after c.args.own.at.token t (ticket_of seated.desk.cell.last) taken.0 (Some (Err c.in-Err.refusal)) (Some (Err c.in-Err.refusal)) seated.callers.items seated.callers.items mid mid is says (refl, refl, refl),
    )

-- the receipt is in hand
pub returns-in-Ok-Some-clause-taken : goal.returns-in-Ok-Some-clause-taken
returns-in-Ok-Some-clause-taken g c =
    let seated = c.take_ask.new.seated in
    let mid = c.take_ask.new.replies in
    let t = ticket_in c.in_ok-accepted.field-0.accepted in
    let taken = c.in_ok-accepted.ensures.taken in
    let is : t ≡ ticket_of seated.desk.cell.last = c.in_ok-accepted.ensures.ticket in
    let says = ap (λ (r : Called). Some (Ok r)) c.joined.ensures ∙ sym (ap in_hand c.in-Ok-Some.is ∙ ap (option_map Ok) c.in-Ok-Some.field-0-is) ∙ taken.2 in (
      taken.0,
      seated.callers.items,
      mid,
      subst (λ (o : Option ℕ). TellsCallers g.C.Core.represents c.args.seated.now seated.desk seated.callers.items (events.Ask c.args.own.made.ask) c.args.own.pass o taken.0 c.args.replies.now mid) is taken.1,
      hand_after c.args.own.at.token t (ticket_of seated.desk.cell.last) taken.0 (Some (Ok c.joined.result)) (Some (Ok c.joined.result)) seated.callers.items seated.callers.items mid mid is says (refl, refl, refl),
    )

-- a completion will come
pub returns-in-Ok-clause-taken : goal.returns-in-Ok-clause-taken
returns-in-Ok-clause-taken g c =
    let seated = c.take_ask.new.seated in
    let mid = c.take_ask.new.replies in
    let now = c.expect_completion.new.callers.items in
    let after = c.expect_completion.new.replies in
    let t = ticket_in c.in_ok-accepted.field-0.accepted in
    let taken = c.in_ok-accepted.ensures.taken in
    let is : t ≡ ticket_of seated.desk.cell.last = c.in_ok-accepted.ensures.ticket in
    let says = sym (ap in_hand c.in-Ok-None.is ∙ ap (option_map Ok) c.in-Ok-None.field-0-is) ∙ taken.2 in (
      taken.0,
      seated.callers.items,
      mid,
      subst (λ (o : Option ℕ). TellsCallers g.C.Core.represents c.args.seated.now seated.desk seated.callers.items (events.Ask c.args.own.made.ask) c.args.own.pass o taken.0 c.args.replies.now mid) is taken.1,
      hand_after c.args.own.at.token t (ticket_of seated.desk.cell.last) taken.0 None None seated.callers.items now mid after is says c.in-Ok.ensures.waits,
    )

-- there is no room for a completion
pub returns-in-Err-expect_completion-clause-taken : goal.returns-in-Err-expect_completion-clause-taken
returns-in-Err-expect_completion-clause-taken g c =
    let seated = c.take_ask.new.seated in
    let mid = c.take_ask.new.replies in
    let now = c.expect_completion.new.callers.items in
    let after = c.expect_completion.new.replies in
    let t = ticket_in c.in_ok-accepted.field-0.accepted in
    let taken = c.in_ok-accepted.ensures.taken in
    let is : t ≡ ticket_of seated.desk.cell.last = c.in_ok-accepted.ensures.ticket in
    let says = sym (ap in_hand c.in-Ok-None.is ∙ ap (option_map Ok) c.in-Ok-None.field-0-is) ∙ taken.2 in
    let refused = c.in-Err-expect_completion.ensures.refused in (
      taken.0,
      seated.callers.items,
      mid,
      subst (λ (o : Option ℕ). TellsCallers g.C.Core.represents c.args.seated.now seated.desk seated.callers.items (events.Ask c.args.own.made.ask) c.args.own.pass o taken.0 c.args.replies.now mid) is taken.1,
      hand_after c.args.own.at.token t (ticket_of seated.desk.cell.last) taken.0 None (Some (Err c.in-Err-expect_completion.refusal)) seated.callers.items now mid after is says (ap Err refused.0, refused.1, refused.2),
    )
