-- The step that a node takes, which of its callers get which reply, and which callers wait on.
use Rattle.std.specs.Prelude.{◌≡◌, ◌≢◌, ◌⊎◌, ◌==◌, ◌++◌, ℕ, Bool, false, not, List, [], ◌∷◌, filter, find, flat_map, map, Option, Some, None, option_map, Result, Ok, Err, IfSome, Vec}
use Rattle.std.specs.List.{last_or}
use Rattle.std.specs.Set.{remove_key}
use Rattle.std.specs.declared.alloc.AllocError.{AllocError}
use Rattle.std.specs.declared.alloc.Global.{Global}
use Rattle.craq_names.specs.declared.name.NodeName.{NodeName}
use Rattle.craq_names.specs.declared.refusal.Refusal.{Refusal}
use Rattle.craq_names.specs.declared.refusal.Refusal.TheVariants as refusals
use Rattle.craq_seat.specs.declared.token.CallToken.{CallToken}
use Rattle.craq_model.specs.declared.ask.Ask.{Ask}
use Rattle.craq_model.specs.declared.ask.Event.{Event}
use Rattle.craq_model.specs.declared.ask.Event.TheVariants as events
use Rattle.craq_model.specs.declared.step.Out.{Out}
use Rattle.craq_model.specs.declared.step.Out.TheVariants as outs
use Rattle.craq_model.specs.declared.step.Step.{Step}
use Rattle.craq_model.specs.Plain.{Plain}
use Rattle.craq_seat.specs.declared.journal.Receipt.{Receipt}
use Rattle.craq_seat.specs.Calls.{Called, CallsOf, Desked}
use Rattle.craq_seat.specs.Cells.{receipt_of, with_inside}
use Rattle.craq_seat.specs.Kept.{IsKept}
use Rattle.craq_seat.specs.Taken.{TakesEvent}
use Rattle.craq_seat.specs.declared.seat.Caller.{Caller}
use Rattle.craq_store_parts.specs.Recorded.{Accepted}
use Rattle.craq_running_node.specs.declared.steps.SeatedNode.{SeatedNode}

-- the caller to whom a reply goes: the token of its completion, and the ticket of its request once a node has accepted it
pub record Recipient : Type 0 where
  pub ticket : Option ℕ
  pub token : CallToken

-- the ticket of a call that was accepted
abbrev pub ticket_in : Option Accepted → Option ℕ
ticket_in accepted = option_map (λ (a : Accepted). a.ticket) accepted

-- a reply on its way
pub record Reply : Type 0 where
  pub to : Recipient
  pub outcome : Result Called Refusal

-- a receipt is of the call under the caller's ticket; any caller may be refused
abbrev pub IsReplyTo : Option ℕ → Result Called Refusal → Type 0
IsReplyTo ticket (Ok receipt) = ticket ≡ Some receipt.call.ticket
IsReplyTo ticket (Err refusal) = Unit {0}

-- a caller that waits, by its ticket and its token
abbrev pub waits_as : ℕ → CallToken → Caller CallToken
waits_as ticket token = record { ticket = ticket; at = token }

-- that caller, once a reply is due to it
abbrev pub recipient_of : Caller CallToken → Recipient
recipient_of caller = record { ticket = Some caller.ticket; token = caller.at }

-- the first caller that waits under a ticket
abbrev pub caller_under : List (Caller CallToken) → ℕ → Option (Caller CallToken)
caller_under callers ticket = find (λ (caller : Caller CallToken). caller.ticket == ticket) callers

-- the callers without that one
abbrev pub without_caller : List (Caller CallToken) → ℕ → List (Caller CallToken)
without_caller callers ticket = remove_key (λ (caller : Caller CallToken). caller.ticket == ticket) callers

-- the reply to a caller, if there is one
abbrev pub reply_to : Option (Caller CallToken) → Result Called Refusal → List Reply
reply_to None outcome = []
reply_to (Some caller) outcome = record { to = recipient_of caller; outcome = outcome } ∷ []

-- outcomes by their tickets: each goes to the first caller that waits under its ticket, which then waits no more. The replies
abbrev pub replies_to : List (Caller CallToken) → List (ℕ × Result Called Refusal) → List Reply
replies_to callers [] = []
replies_to callers (o ∷ os) = reply_to (caller_under callers o.0) o.1 ++ replies_to (without_caller callers o.0) os

-- the callers that still wait after these outcomes
abbrev pub waiting_after : List (Caller CallToken) → List (ℕ × Result Called Refusal) → List (Caller CallToken)
waiting_after callers [] = callers
waiting_after callers (o ∷ os) = waiting_after (without_caller callers o.0) os

-- some of these, in their order
abbrev pub AreSomeOf : List Reply → List Reply → Type 0
AreSomeOf [] all = Unit {0}
AreSomeOf (r ∷ rs) [] = ⊥
AreSomeOf (r ∷ rs) (a ∷ all) = ((r ≡ a) × AreSomeOf rs all) ⊎ AreSomeOf (r ∷ rs) all

-- the replies that are kept until the lock is free, in order, and whether room was ever short, so that one was sent at once
pub record PendingReplies : Type 0 where
  pub replies : List Reply
  pub short : Bool

-- replies go behind those that are kept. Either all of them do, and then room is as short as it was; or some are sent at once, and
-- then room was short
abbrev pub Keeps : PendingReplies → List Reply → PendingReplies → Type 0
Keeps old more new =
    (kept : List Reply) × (new.replies ≡ old.replies ++ kept) × AreSomeOf kept more × (new.short ≡ false → (old.short ≡ false) × (kept ≡ more))
    × (kept ≡ more → new.short ≡ old.short)

-- the receipt is of the call under this ticket
abbrev pub is_own : Option ℕ → Called → Bool
is_own None receipt = false
is_own (Some ticket) receipt = receipt.call.ticket == ticket

abbrev pub own_receipt : Option ℕ → List Called → Option Called
own_receipt ticket receipts = last_or None (filter (is_own ticket) receipts)

-- the outcomes for other callers: each receipt under the ticket of its call
abbrev pub others_of : Option ℕ → List Called → List (ℕ × Result Called Refusal)
others_of ticket receipts = map (λ (r : Called). (r.call.ticket, Ok r)) (filter (λ (r : Called). not (is_own ticket r)) receipts)

-- the ticket that an out answers
abbrev pub answered_ticket : Out → List ℕ
answered_ticket (outs.Send to m) = []
answered_ticket (outs.Answer ticket answer) = ticket ∷ []

-- each call that a step answers is refused with Memory
abbrev pub without_memory : List Out → List (ℕ × Result Called Refusal)
without_memory os = map (λ (t : ℕ). (t, Err refusals.Memory)) (flat_map answered_ticket os)

-- the outcomes of a step for the callers that wait: its receipts; or, if these found no memory, a refusal of each call that this last
-- step of the cell answers
abbrev pub said_by : Result (Vec Called Global) AllocError → Option Step → Option ℕ → List (ℕ × Result Called Refusal)
said_by (Ok receipts) last ticket = others_of ticket receipts.items
said_by (Err e) (Some step) ticket = without_memory step.outs
said_by (Err e) None ticket = []

-- the outcome for the caller whose request the step took, under this ticket
abbrev pub said_to : Option ℕ → Result (Vec Called Global) AllocError → Option (Result Called Refusal)
said_to ticket (Ok receipts) = option_map Ok (own_receipt ticket receipts.items)
said_to ticket (Err e) = Some (Err refusals.Memory)

-- a caller gets this outcome, and the others wait as before
abbrev pub IsReported : Recipient → Result Called Refusal → List (Caller CallToken) → List (Caller CallToken) → PendingReplies → PendingReplies → Type 0
IsReported caller outcome old new before after = (new ≡ old) × Keeps before (record { to = caller; outcome = outcome } ∷ []) after

-- a caller waits behind the others under this ticket, and nobody gets a reply; without room or ticket, it is refused
abbrev pub Waits : CallToken → Option ℕ → List (Caller CallToken) → List (Caller CallToken) → PendingReplies → PendingReplies → Type 0
Waits token None old new before after = IsReported (record { ticket = None; token = token }) (Err refusals.Closed) old new before after
Waits token (Some ticket) old new before after =
    ((new ≡ old ++ waits_as ticket token ∷ []) × (after ≡ before))
    ⊎ IsReported (record { ticket = Some ticket; token = token }) (Err refusals.Memory) old new before after

-- a caller whose request was accepted gets the outcome if there is one, and else waits
abbrev pub Settles : CallToken → Option ℕ → Option (Result Called Refusal) → List (Caller CallToken) → List (Caller CallToken) → PendingReplies → PendingReplies → Type 0
Settles token ticket (Some outcome) old new before after = IsReported (record { ticket = ticket; token = token }) outcome old new before after
Settles token ticket None old new before after = Waits token ticket old new before after

-- the outcome that a caller has in hand: a receipt, a refusal, or none if a completion will come
abbrev pub in_hand : Result (Option Called) Refusal → Option (Result Called Refusal)
in_hand (Ok receipt) = option_map Ok receipt
in_hand (Err e) = Some (Err e)

-- a caller that took the step of its own request has the outcome in hand if there is one; else it waits, or has a refusal in hand
abbrev pub HasInHand : CallToken → Option ℕ → Option (Result Called Refusal) → Option (Result Called Refusal) → List (Caller CallToken) → List (Caller CallToken) → PendingReplies → PendingReplies → Type 0
HasInHand token ticket (Some outcome) hand old new before after = (hand ≡ Some outcome) × (new ≡ old) × (after ≡ before)
HasInHand token ticket None (Some outcome) old new before after = (outcome ≡ Err refusals.Memory) × (new ≡ old) × (after ≡ before)
HasInHand token ticket None None old new before after = Waits token ticket old new before after

-- the ticket of the request that a step accepted
abbrev pub ticket_of : Option Step → Option ℕ
ticket_of None = None
ticket_of (Some step) = step.ticket

-- a desk's cell took the step of this event with this pass, or refused it and is as it was; and it keeps the invariant of cells
abbrev pub Steps : {C : Type 0} → (C → Plain → Type 0) → Desked C → Desked C → Event → ℕ → Result Receipt Refusal → Type 0
Steps represents old new event pass result =
    ((p : Plain) → represents old.cell.inside p → TakesEvent represents new.cell (with_inside old.cell p) event pass result) × IsKept represents new.cell

-- the cell refused the step, and the same calls wait
abbrev pub RefusesStep : {C : Type 0} → (C → Plain → Type 0) → Desked C → Desked C → Event → ℕ → Refusal → Type 0
RefusesStep represents old new event pass e = Steps represents old new event pass (Err e) × (new.waiting ≡ old.waiting)

-- a desk refused a request and is as it was: there was no room for the caller, or the request is to another node; or the cell refused
-- the step
abbrev pub RefusesAsked : {C : Type 0} → (C → Plain → Type 0) → Desked C → Desked C → NodeName → Ask → ℕ → Refusal → Type 0
RefusesAsked represents old new name ask pass e =
    ((e ≡ refusals.Memory) × (new ≡ old)) ⊎ ((e ≡ refusals.WrongNode) × (name ≢ old.cell.opening.name) × (new ≡ old)) ⊎ RefusesStep represents old new (events.Ask ask) pass e

-- the step of this event was taken, and accepted a request under this ticket or none. It gave the receipts of the desk's calls, or found
-- no memory for them. The callers that wait get these outcomes, except the caller of this ticket, which does not wait yet
abbrev pub TellsCallers : {C : Type 0} → (C → Plain → Type 0) → SeatedNode C → Desked C → List (Caller CallToken) → Event → ℕ → Option ℕ → Result (Vec Called Global) AllocError → PendingReplies → PendingReplies → Type 0
TellsCallers represents old desk callers event pass ticket calls before after =
    Steps represents old.desk desk event pass (Ok (receipt_of desk.cell))
    × IfSome desk.cell.last (λ (step : Step). CallsOf old.desk.waiting desk.waiting event (receipt_of desk.cell) pass step calls)
    × (callers ≡ waiting_after old.callers.items (said_by calls desk.cell.last ticket))
    × Keeps before (replies_to old.callers.items (said_by calls desk.cell.last ticket)) after

-- the step of an event that is no request was taken, and the callers that waited get its replies; or it was refused, nobody gets a
-- reply, and all wait on
abbrev pub ReactsTo : {C : Type 0} → (C → Plain → Type 0) → SeatedNode C → SeatedNode C → Event → PendingReplies → PendingReplies → Type 0
ReactsTo represents old new event before after =
    ((calls : Result (Vec Called Global) AllocError) × TellsCallers represents old new.desk new.callers.items event 0 None calls before after)
    ⊎ ((e : Refusal) × RefusesStep represents old.desk new.desk event 0 e × (new.callers.items ≡ old.callers.items) × (after ≡ before))

-- the step of a queued request was taken: the callers that waited get its replies, and this one gets a reply or waits
abbrev pub TakesQueued : {C : Type 0} → (C → Plain → Type 0) → SeatedNode C → SeatedNode C → Ask → ℕ → CallToken → PendingReplies → PendingReplies → Type 0
TakesQueued represents old new ask pass token before after =
    (calls : Result (Vec Called Global) AllocError) × (callers : List (Caller CallToken)) × (mid : PendingReplies)
    × TellsCallers represents old new.desk callers (events.Ask ask) pass (ticket_of new.desk.cell.last) calls before mid
    × Settles token (ticket_of new.desk.cell.last) (said_to (ticket_of new.desk.cell.last) calls) callers new.callers.items mid after

-- a queued request was refused: the desk is as it was, this caller alone gets a reply, and the others wait on
abbrev pub RefusesQueued : {C : Type 0} → (C → Plain → Type 0) → SeatedNode C → SeatedNode C → NodeName → Ask → ℕ → CallToken → PendingReplies → PendingReplies → Type 0
RefusesQueued represents old new name ask pass token before after =
    (e : Refusal) × RefusesAsked represents old.desk new.desk name ask pass e
    × IsReported (record { ticket = None; token = token }) (Err e) old.callers.items new.callers.items before after

-- the store is closed: no step was taken, this caller alone is refused, and the others wait on
abbrev pub ClosesQueued : {C : Type 0} → SeatedNode C → SeatedNode C → CallToken → PendingReplies → PendingReplies → Type 0
ClosesQueued old new token before after = (new ≡ old) × Keeps before (record { to = record { ticket = None; token = token }; outcome = Err refusals.Closed } ∷ []) after

-- a caller took the step of its own request: the callers that waited get its replies, and this one has its reply in hand or waits
abbrev pub TakesOwn : {C : Type 0} → (C → Plain → Type 0) → SeatedNode C → SeatedNode C → Ask → ℕ → CallToken → Option (Result Called Refusal) → PendingReplies → PendingReplies → Type 0
TakesOwn represents old new ask pass token hand before after =
    (calls : Result (Vec Called Global) AllocError) × (callers : List (Caller CallToken)) × (mid : PendingReplies)
    × TellsCallers represents old new.desk callers (events.Ask ask) pass (ticket_of new.desk.cell.last) calls before mid
    × HasInHand token (ticket_of new.desk.cell.last) (said_to (ticket_of new.desk.cell.last) calls) hand callers new.callers.items mid after

-- its request was refused: the desk is as it was, this caller has the refusal in hand, nobody gets a reply, and the others wait on
abbrev pub RefusesOwn : {C : Type 0} → (C → Plain → Type 0) → SeatedNode C → SeatedNode C → NodeName → Ask → ℕ → Option (Result Called Refusal) → PendingReplies → PendingReplies → Type 0
RefusesOwn represents old new name ask pass hand before after =
    (e : Refusal) × RefusesAsked represents old.desk new.desk name ask pass e × (hand ≡ Some (Err e)) × (new.callers.items ≡ old.callers.items) × (after ≡ before)

-- the store is closed: no step was taken, this caller has that refusal in hand, nobody gets a reply, and the others wait on
abbrev pub ClosesOwn : {C : Type 0} → SeatedNode C → SeatedNode C → Option (Result Called Refusal) → PendingReplies → PendingReplies → Type 0
ClosesOwn old new hand before after = (new ≡ old) × (hand ≡ Some (Err refusals.Closed)) × (after ≡ before)
