-- The two halves of a turn whose call comes back later.
use Rattle.std.specs.Prelude.{◌≡◌, ◌⊎◌, ◌↔◌, ◌<◌, ◌≤◌, ◌+◌, ⊤, ◌++◌, ◌∷◌, [], ℕ, List, Result, Ok, Err, length, vec_len, vec_capacity}
use Rattle.craq_names.specs.declared.refusal.Refusal.{Refusal}
use Rattle.craq_model.specs.declared.ask.Ask.{Ask}
use Rattle.craq_model.specs.declared.ask.Ask.TheVariants as asks
use Rattle.craq_names.specs.declared.refusal.Refusal.TheVariants.{Closed, Memory}
use Rattle.craq_seat.specs.CallCompletions.{IsCallOf}
use Rattle.craq_frames.specs.declared.ask.ClientMessage.{ClientMessage}
use Rattle.craq_frames.specs.declared.ask.ClientMessage.TheVariants as messages
use Rattle.craq_frames.specs.declared.answer.ClientReply.{ClientReply}
use Rattle.craq_frames.specs.declared.answer.ClientReply.TheVariants as replies
use Rattle.craq_frames.specs.Allowed.{IsAllowed}
use Rattle.craq_seat.specs.Calls.{Called}
use Rattle.craq_event_loop.specs.declared.door_calls.DoorCalls.{DoorCalls}
use Rattle.craq_event_loop.specs.declared.door_calls.ReceiptPolicy.{ReceiptPolicy}
use Rattle.craq_event_loop.specs.declared.connection_state.CallRequest.{CallRequest}
use Rattle.craq_event_loop.specs.declared.connection_state.Demand.{Demand}
use Rattle.craq_event_loop.specs.declared.connection_state.Demand.TheVariants as demands
use Rattle.craq_event_loop.specs.declared.connection_state.Begun.{Begun}
use Rattle.craq_event_loop.specs.declared.connection_state.Begun.TheVariants as begun
use Rattle.craq_event_loop.specs.Turns.{message_of, kept, name_of, for_memory, Refusing, IsAnswered, IsStatusRefused, IsTurn}

-- the message that asks for this call
abbrev pub asked_by : CallRequest → ClientMessage
asked_by q = message_of q.node.node q.pass q.ask

-- the ask is an update
abbrev pub IsUpdate : Ask → Type 0
IsUpdate (asks.Update update) = ⊤
IsUpdate (asks.Read mode object) = ⊥

-- both requests are updates, at one node
abbrev pub GoesAlong : CallRequest → CallRequest → Type 0
GoesAlong first q = IsUpdate first.ask × IsUpdate q.ask × (q.node ≡ first.node)

-- the request is to a node of the chain of its first object
abbrev pub IsNamed : CallRequest → Type 0
IsNamed q = q.node ≡ name_of q.node.node q.ask

-- the demand of a message: a call of a node of the chain of the request's first object, or a status
abbrev pub Asks : ClientMessage → Demand → Type 0
Asks m (demands.Call q) = (m ≡ asked_by q) × (q.node ≡ name_of q.node.node q.ask)
Asks m demands.Status = m ≡ messages.Status

-- the reply to a request for a status: a text of the store, or the refusal of a status
abbrev pub IsStatusReply : (List ℕ → Type 0) → ClientReply → Type 0
IsStatusReply tells (replies.Status text) = tells text
IsStatusReply tells (replies.Refused refusal) = IsStatusRefused tells refusal
IsStatusReply tells reply = ⊥

-- the first half of a turn: it is over with this reply, or a call of a node of the chain of the ask's first object is to be
-- made, and only the receipts that are not kept went
abbrev pub BeginsTurn : (List ℕ → Type 0) → ReceiptPolicy → List Called → ClientMessage → Begun → List Called → Type 0
BeginsTurn tells policy old message (begun.Reported reply) new = IsTurn tells for_memory policy old message reply new × IsAllowed reply
BeginsTurn tells policy old message (begun.Calls q) new = (message ≡ asked_by q) × (q.node ≡ name_of q.node.node q.ask) × (new ≡ kept policy old)

-- there is room for one receipt more
abbrev pub HasRoom : DoorCalls → Type 0
HasRoom calls = vec_len calls.receipts < vec_capacity calls.receipts

-- there is room for one receipt, and for this number of receipts more
abbrev pub HasRoomFor : ℕ → DoorCalls → Type 0
HasRoomFor more calls = vec_len calls.receipts + more < vec_capacity calls.receipts

-- at most one receipt came, and the room is as large as before
abbrev pub TakesRoom : DoorCalls → DoorCalls → Type 0
TakesRoom old new = (vec_capacity new.receipts ≡ vec_capacity old.receipts) × (vec_len new.receipts ≤ vec_len old.receipts + 1)

-- the room grew, and nothing else changed
abbrev pub GrowsRoom : DoorCalls → DoorCalls → Type 0
GrowsRoom old new =
    (new.policy ≡ old.policy) × (new.receipts.items ≡ old.receipts.items) × (vec_len new.receipts ≡ vec_len old.receipts) × (vec_capacity old.receipts ≤ vec_capacity new.receipts)

-- the receipts take all the room that there is
abbrev pub HasNoRoom : DoorCalls → Type 0
HasNoRoom calls = vec_capacity calls.receipts ≤ length calls.receipts.items

-- the receipts that a door still has as a turn begins take all the room that there is
abbrev pub IsFull : DoorCalls → Type 0
IsFull calls = vec_capacity calls.receipts ≤ length (kept calls.policy calls.receipts.items)

-- where a call is to be made there is room for its receipt; the turn of a call is over before it is made only where that room
-- lacked
abbrev pub MakesRoom : DoorCalls → ClientMessage → Begun → DoorCalls → Type 0
MakesRoom old message (begun.Reported reply) new = (message ≡ messages.Status) ⊎ IsFull old
MakesRoom old message (begun.Calls q) new = HasRoom new

-- the receipt is that of another call than the question's
abbrev pub IsAnothers : CallRequest → Called → Type 0
IsAnothers q c = ¬ IsCallOf q.node q.ask q.pass c.answer c

-- the refusals after an answer that came back: it is another call's, or there was no memory for a copy of it
abbrev pub CanComeBack : Refusal → Type 0
CanComeBack e = (e ≡ Closed) ⊎ (e ≡ Memory)

-- the refusal of a call that came back so: its own; or, where it was answered, one of two: Closed exactly where
-- the receipt is another call's
abbrev pub RefusesCall : CallRequest → Result Called Refusal → Refusal → Type 0
RefusesCall q (Err refusal) e = e ≡ refusal
RefusesCall q (Ok c) e = CanComeBack e × ((e ≡ Closed) ↔ IsAnothers q c)

-- a call that came back so gets the reply Closed: the receipt is another call's, or it was refused so
abbrev pub IsClosed : CallRequest → Result Called Refusal → Type 0
IsClosed q (Err refusal) = refusal ≡ Closed
IsClosed q (Ok c) = IsAnothers q c

-- no text is a status
abbrev pub tells_none : List ℕ → Type 0
tells_none text = ⊥

-- the receipt that came in the turn of a call is that of the call's outcome
abbrev pub HasOwnReceipt : Result Called Refusal → List Called → List Called → Type 0
HasOwnReceipt outcome old new = (c : Called) → new ≡ old ++ c ∷ [] → outcome ≡ Ok c

-- the second half of a turn: the reply is that of the call that came back, or its refusal
pub record EndsTurn (q : CallRequest) (outcome : Result Called Refusal) (old : List Called) (reported : ClientReply) (new : List Called) : Type 0 where
  pub answered : IsAnswered tells_none (λ node pass ask e. RefusesCall q outcome e) old (asked_by q) reported new
  pub closed : (reported ≡ replies.Refused Closed) ↔ IsClosed q outcome
  pub own : HasOwnReceipt outcome old new

-- each refusal of a call that came back so is one that it may have
abbrev pub IsRefusable : Refusing → CallRequest → Result Called Refusal → Type 0
IsRefusable refuses q outcome = (e : Refusal) → RefusesCall q outcome e → refuses q.node q.pass q.ask e

-- a reply without a call: the message asks for the status, or memory is out
abbrev pub NeedsNoCall : ClientMessage → ClientReply → Type 0
NeedsNoCall message reply = (message ≡ messages.Status) ⊎ (reply ≡ replies.Refused Memory)
