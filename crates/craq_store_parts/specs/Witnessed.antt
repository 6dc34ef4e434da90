-- Calls of a running store as the store's history has them: accepted and answered, or refused, or accepted by no step; and its stops,
-- removals and joins.
use Rattle.std.specs.Prelude.{◌≡◌, ◌⊎◌, ℕ, List, None, Some, IfSome, Err}
use Rattle.std.specs.declared.snapshot.Snapshot.{Snapshot}
use mathlib.Core.List.{IsPrefix}
use Rattle.craq_names.specs.declared.name.NodeName.{NodeName}
use Rattle.craq_names.specs.declared.refusal.Refusal.{Refusal}
use Rattle.craq_names.specs.declared.refusal.Refusal.TheVariants as refusals
use Rattle.craq_model.specs.declared.ask.Answer.{Answer}
use Rattle.craq_model.specs.declared.ask.Ask.{Ask}
use Rattle.craq_model.specs.declared.ask.Event.{Event}
use Rattle.craq_model.specs.declared.ask.Event.TheVariants as events
use Rattle.craq_model.specs.declared.step.Step.{Step}
use Rattle.craq_model.specs.Node.{node_step}
use Rattle.craq_model.specs.Plain.{Plain}
use Rattle.craq_seat.specs.declared.journal.BookEvent.{BookEvent}
use Rattle.craq_seat.specs.declared.journal.BookEvent.TheVariants as books
use Rattle.craq_seat.specs.declared.journal.Receipt.{Receipt}
use Rattle.craq_seat.specs.Calls.{Called}
use Rattle.craq_seat.specs.Stamps.{event_stamp, next_stamp}
use Rattle.craq_store_history.specs.declared.entry.CallId.{CallId}
use Rattle.craq_store_history.specs.declared.entry.HistoryEntry.{HistoryEntry}
use Rattle.craq_store_history.specs.declared.entry.HistoryEntry.TheVariants.{MasterStep}
use Rattle.craq_store_history.specs.Chains.{IsHistory, WasCalled}
use Rattle.craq_store_history.specs.Steps.{IsNodeAt}
use Rattle.craq_store_parts.specs.Recorded.{HasAccepted, HasReplied, HasTaken, HasTakenAfter, StandsAfter}
use Rattle.craq_store_parts.specs.Sent.{IsMade, MadeCall, Moment, RefusedCall}

-- the client made a call of this request at this node, after all of `old`. In the history `new`, which begins with all that, the node
-- accepted the call under the receipt's ticket, with its pass; and it gave this answer under the ticket. The receipt has the stamps of
-- both steps
pub record IsWitnessed (client : ℕ) (old : List HistoryEntry) (node : NodeName) (ask : Ask) (answer : Answer) (receipt : Called) (new : List HistoryEntry) : Type 0 where
  pub call : CallId
  pub caller : call.client ≡ client
  pub mid : List HistoryEntry
  pub made : IsMade old call node ask mid
  pub later : IsPrefix mid new
  pub accepted : HasAccepted new node call receipt.call
  pub replied : HasReplied new node receipt
  pub answered : receipt.answer ≡ answer
  pub history : IsHistory new

-- no step of this history accepts the call
abbrev pub IsUnaccepted : List HistoryEntry → CallId → Type 0
IsUnaccepted log call = (name : NodeName) (stamp : ℕ) (event : Event) (pass : ℕ) (step : Step) → ¬ (HasTaken log name stamp event pass step (Some call))

-- no step accepts the call: none of this history, and none of any that goes on from it
abbrev pub IsNeverAccepted : List HistoryEntry → CallId → Type 0
IsNeverAccepted seen call = (log : List HistoryEntry) → IsHistory log → IsPrefix seen log → IsUnaccepted log call

-- the node stopped in the step of this receipt. The history `new` has the step, after all of `old`
pub record IsWitnessedStop (old : List HistoryEntry) (name : NodeName) (receipt : Receipt) (new : List HistoryEntry) : Type 0 where
  pub pass : ℕ
  pub step : Step
  pub taken : HasTakenAfter old new name receipt.stamp events.Stop pass step None
  pub node : receipt.node ≡ name.node
  pub history : IsHistory new

-- the master of the chain took the step of this receipt on this event. The history `new` has the step, after all of `old`
pub record IsWitnessedOrder (old : List HistoryEntry) (chain : ℕ) (event : BookEvent) (receipt : Receipt) (new : List HistoryEntry) : Type 0 where
  pub pass : ℕ
  pub step : Snapshot Step
  pub taken : StandsAfter old new (MasterStep chain receipt.stamp event pass step)
  pub master : receipt.node ≡ 0
  pub history : IsHistory new

-- the master removed the node, which had stopped
abbrev pub IsWitnessedRemoval : List HistoryEntry → NodeName → Receipt → List HistoryEntry → Type 0
IsWitnessedRemoval old name receipt new = (stop : Receipt) × IsWitnessedOrder old name.chain (books.Remove name stop) receipt new

-- the master let the node join
abbrev pub IsWitnessedJoin : List HistoryEntry → NodeName → Receipt → List HistoryEntry → Type 0
IsWitnessedJoin old name receipt new = IsWitnessedOrder old name.chain (books.Join name.node) receipt new

-- ---- refusals by a node's rules

-- this node at this stamp refuses the event by its rules; or no stamp is left for the event with this pass; or memory is out
abbrev pub RefusesEvent : Plain → ℕ → Event → ℕ → Refusal → Type 0
RefusesEvent node stamp event pass e = (e ≡ refusals.Memory) ⊎ (next_stamp stamp pass (event_stamp event) ≡ Err e) ⊎ (node_step node event ≡ Err e)

-- in this history the node, as its own entries lead to it and to this stamp, refuses the event with this pass
abbrev pub RefusesAt : List HistoryEntry → NodeName → ℕ → Event → ℕ → Refusal → Type 0
RefusesAt log name stamp event pass e = (node : Plain) × IsNodeAt name log node stamp × RefusesEvent node stamp event pass e

-- in this history the node, as its own entries lead to it, refuses the request with this pass
abbrev pub HasRefused : List HistoryEntry → NodeName → Ask → ℕ → Refusal → Type 0
HasRefused log name ask pass e = (stamp : ℕ) × RefusesAt log name stamp (events.Ask ask) pass e

-- so it refuses the request of this call, which was made in this history
abbrev pub HasRefusedCall : List HistoryEntry → CallId → ℕ → Refusal → Type 0
HasRefusedCall log call pass e = (name : NodeName) × (ask : Ask) × WasCalled log call name ask × HasRefused log name ask pass e

-- the moment of a refusal, if it has one, is a history in which the node's rules refuse its call, with the moment's pass
abbrev pub IsShown : RefusedCall → Type 0
IsShown r = IfSome r.moment (λ (at : Moment). IfSome r.back (λ (made : MadeCall). HasRefusedCall at.seen made.call at.pass r.refusal))

-- the node refused the request of the call with this pass by its rules, at a moment of the history `new` after all of `made`, in which
-- the call was made
pub record IsRefusedAfter (made : List HistoryEntry) (name : NodeName) (ask : Ask) (pass : ℕ) (e : Refusal) (new : List HistoryEntry) : Type 0 where
  pub moment : List HistoryEntry
  pub after : IsPrefix made moment
  pub before : IsPrefix moment new
  pub refused : HasRefused moment name ask pass e
