-- Calls that wait at a desk, and the replies of a step to them.
use Rattle.std.specs.Prelude.{◌≡◌, ℕ, ◌==◌, not, if◌then◌else◌, Bool, true, false, List, [], ◌∷◌, ◌++◌, filter, find, flat_map, map, Option, Some, None, Result, Ok, Err, IsErr, Vec}
use Rattle.std.specs.List.{list_any}
use Rattle.std.specs.Set.{remove_key}
use Rattle.std.specs.declared.alloc.AllocError.{AllocError}
use Rattle.std.specs.declared.alloc.Global.{Global}
use Rattle.craq_names.specs.declared.refusal.Refusal.{Refusal}
use Rattle.craq_model.specs.declared.ask.Answer.{Answer}
use Rattle.craq_model.specs.declared.ask.Ask.{Ask}
use Rattle.craq_model.specs.declared.ask.Event.{Event}
use Rattle.craq_model.specs.declared.ask.Event.TheVariants as events
use Rattle.craq_model.specs.declared.step.Out.{Out}
use Rattle.craq_model.specs.declared.step.Out.TheVariants as outs
use Rattle.craq_model.specs.declared.step.Step.{Step}
use Rattle.craq_seat.specs.declared.calls.Call.{Call}
use Rattle.craq_seat.specs.declared.journal.Receipt.{Receipt}
use Rattle.craq_seat.specs.Cells.{Celled}

-- a call with its reply
pub record Called : Type 0 where
  pub call : Call
  pub answered : Receipt  -- the step that answered it
  pub answer : Answer

-- a cell and the calls that wait at it, in the order of their requests
pub record Desked (C : Type 0) : Type 0 where
  pub cell : Celled C Event
  pub waiting : List Call

-- the request of an event, if it is one
abbrev pub ask_of : Event → Option Ask
ask_of (events.Ask ask) = Some ask
ask_of (events.Deliver m) = None
ask_of events.Tick = None
ask_of events.Stop = None

-- the call that a step accepts, if there is a request and it has its ticket
abbrev pub accepted : Option Ask → Option ℕ → Receipt → ℕ → List Call
accepted None ticket receipt pass = []
accepted (Some ask) None receipt pass = []
accepted (Some ask) (Some ticket) receipt pass = record { asked = receipt; ticket = ticket; pass = pass; ask = ask } ∷ []

-- the call that waits under a ticket
abbrev pub call_under : List Call → ℕ → Option Call
call_under calls ticket = find (λ (call : Call). call.ticket == ticket) calls

-- the calls without the one that waits under a ticket
abbrev pub without_call : List Call → ℕ → List Call
without_call calls ticket = remove_key (λ (call : Call). call.ticket == ticket) calls

-- a call is answered, if there is one
abbrev pub answered_call : Option Call → Receipt → Answer → List Called
answered_call None receipt answer = []
answered_call (Some call) receipt answer = record { call = call; answered = receipt; answer = answer } ∷ []

-- a reply to a waiting call is its call receipt
abbrev pub called_by : List Call → Receipt → Out → List Called
called_by calls receipt (outs.Send to m) = []
called_by calls receipt (outs.Answer ticket answer) = answered_call (call_under calls ticket) receipt answer

-- the call receipts of a step, in its order
abbrev pub called_in : List Call → Receipt → List Out → List Called
called_in calls receipt os = flat_map (called_by calls receipt) os

-- the output is a reply to the ticket
abbrev pub answers_to : ℕ → Out → Bool
answers_to ticket (outs.Send to m) = false
answers_to ticket (outs.Answer t answer) = t == ticket

-- the output is a reply
abbrev pub is_answer : Out → Bool
is_answer (outs.Send to m) = false
is_answer (outs.Answer ticket answer) = true

-- the calls that wait after an output: without the one that it answers, unless a later output
-- answers it too
abbrev pub left_by : List Call → Out → List Out → List Call
left_by calls (outs.Send to m) later = calls
left_by calls (outs.Answer ticket answer) later = if list_any (answers_to ticket) later then calls else without_call calls ticket

-- the calls that no output answers
abbrev pub waiting_after : List Call → List Out → List Call
waiting_after calls os = filter (λ (call : Call). not (list_any (answers_to call.ticket) os)) calls

-- a step's only output answers the request that it accepts, under a ticket that no waiting call has
pub record AnswersItself (waiting : List Call) (accepted : Option ℕ) (os : List Out) (answer : Answer) : Type 0 where
  pub own : ℕ  -- the ticket
  pub its : accepted ≡ Some own
  pub alone : os ≡ outs.Answer own answer ∷ []
  pub free : call_under waiting own ≡ None

-- calls that all have this reply
abbrev pub all_answered : List Call → Receipt → Answer → List Called
all_answered calls receipt answer = map (λ (call : Call). record { call = call; answered = receipt; answer = answer }) calls

-- the calls of a step are answered, and the others wait on; when out of memory, the calls that it
-- would accept or answer are dropped
abbrev pub Serves : List Call → List Call → List Call → Receipt → List Out → Result (Vec Called Global) AllocError → Type 0
Serves old new accepted receipt os (Ok receipts) =
    (receipts.items ≡ called_in (old ++ accepted) receipt os) × (new ≡ waiting_after (old ++ accepted) os)
Serves old new accepted receipt os (Err e) = new ≡ waiting_after old os

-- the calls of a step are answered, or dropped when out of memory; the copy of its request may have
-- failed too
abbrev pub ServesAsked : List Call → List Call → Result (Option Ask) AllocError → Option ℕ → Receipt → ℕ → List Out → Result (Vec Called Global) AllocError → Type 0
ServesAsked old new (Ok ask) ticket receipt pass os result = Serves old new (accepted ask ticket receipt pass) receipt os result
ServesAsked old new (Err e) ticket receipt pass os result = IsErr result × (new ≡ waiting_after old os)

-- the calls of a step that was taken are answered, or dropped when out of memory
abbrev pub CallsOf : List Call → List Call → Event → Receipt → ℕ → Step → Result (Vec Called Global) AllocError → Type 0
CallsOf old new event receipt pass step (Ok receipts) = Serves old new (accepted (ask_of event) step.ticket receipt pass) receipt step.outs (Ok receipts)
CallsOf old new event receipt pass step (Err e) = new ≡ waiting_after old step.outs

-- the receipt of a step that was taken, or its refusal
abbrev pub receipt_in : {X : Type 0} → Result (Receipt × X) Refusal → Result Receipt Refusal
receipt_in (Ok r) = Ok r.0
receipt_in (Err e) = Err e
