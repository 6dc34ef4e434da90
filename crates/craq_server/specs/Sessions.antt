-- The session of a connection of a served store, and the calls that it makes and finishes.
use Rattle.std.specs.Prelude.{◌≡◌, ◌≢◌, ◌⊎◌, ◌+◌, ◌-◌, ◌<◌, ⊤, ℕ, zero, suc, List, [], ◌∷◌, ◌++◌, drop, Option, None, Some, Result, Ok, Err, length}
use Rattle.std.specs.List.{AllByRecursion}
use Rattle.std.specs.declared.alloc.Global.{Global}
use Rattle.std.specs.declared.collections.VecDeque.{VecDeque}
use mathlib.Core.List.{IsPrefix}
use Rattle.craq_names.specs.Limits.{greatest}
use Rattle.craq_names.specs.declared.name.NodeName.{NodeName}
use Rattle.craq_names.specs.declared.refusal.Refusal.{Refusal}
use Rattle.craq_names.specs.declared.refusal.Refusal.TheVariants.{Closed, Exhausted, Memory, UnknownChain}
use Rattle.craq_model.specs.declared.ask.Ask.{Ask}
use Rattle.craq_model.specs.declared.ask.Ask.TheVariants as asks
use Rattle.craq_frames.specs.declared.ask.ClientMessage.{ClientMessage}
use Rattle.craq_frames.specs.declared.ask.ClientMessage.TheVariants as messages
use Rattle.craq_frames.specs.declared.answer.ClientReply.{ClientReply}
use Rattle.craq_frames.specs.declared.answer.ClientReply.TheVariants as replies
use Rattle.craq_frames.specs.Talk.{Exchanges}
use Rattle.craq_seat.specs.declared.token.CallToken.{CallToken}
use Rattle.craq_seat.specs.Calls.{Called}
use Rattle.craq_event_loop.specs.SubmittedCalls.{called_by}
use Rattle.craq_event_loop.specs.declared.connection_state.CallRequest.{CallRequest}
use Rattle.craq_event_loop.specs.declared.connection_state.ConnectionState.{ConnectionState}
use Rattle.craq_event_loop.specs.declared.connection_state.Phase.TheVariants.{Waits}
use Rattle.craq_event_loop.specs.ConnectionStates.{Holds}
use Rattle.craq_event_loop.specs.Turns.{IsReplyOf, message_of, name_of}
use Rattle.craq_store_history.specs.declared.entry.CallId.{CallId}
use Rattle.craq_store_history.specs.declared.entry.HistoryEntry.{HistoryEntry}
use Rattle.craq_store_history.specs.Chains.{IsHistory}
use Rattle.craq_store_parts.specs.Recorded.{HasAccepted, HasReplied}
use Rattle.craq_store_parts.specs.Sent.{IsMade}
use Rattle.craq_store_parts.specs.Witnessed.{IsWitnessed}
use Rattle.craq_event_loop.specs.Reaching.{IsReachable}
use Rattle.craq_workers.specs.Stores.{Stored}
use Rattle.craq_workers.specs.Untaken.{IsGivenUp, IsRefusedCall, LeavesOpen}
use Rattle.craq_server.specs.Refusing.{Leaps, RefusesServed}
use Rattle.craq_server.specs.Status.{TellsStatus}

-- the view that contracts have of a connection's session: its client's number, the number of calls that it made, the history that it
-- has seen, and the calls that are under way, in the order in which they were made
pub record Connected : Type 0 where
  pub client : ℕ
  pub made : ℕ
  pub seen : List HistoryEntry
  pub calls : List CallId

-- this number of calls of a client, from the one under this number on
abbrev pub numbered : ℕ → ℕ → ℕ → List CallId
numbered client number zero = []
numbered client number (suc count) = record { client = client; number = number } ∷ numbered client (number + 1) count

-- the calls of a client from this number on, if there is one, up to the next that it makes
abbrev pub calls_from : ℕ → Option ℕ → ℕ → List CallId
calls_from client None next = []
calls_from client (Some first) next = numbered client first (next - first)

-- the number of the first call that is under way once the call under this number is
abbrev pub first_with : Option ℕ → ℕ → ℕ
first_with None number = number
first_with (Some first) number = first

-- the first call that is under way is not later than the last that was made
abbrev pub IsUpTo : ℕ → Option ℕ → CallId → ℕ → Type 0
IsUpTo client None last next = ⊤
IsUpTo client (Some first) last next = (first < next) × (last ≡ record { client = client; number = next - 1 })

-- the session is new: it made no call and has seen nothing, and no call is under way
abbrev pub IsNewSession : Connected → Type 0
IsNewSession s = (s.made ≡ 0) × (s.seen ≡ []) × (s.calls ≡ [])

-- the call that the session makes next
abbrev pub next_call : Connected → CallId
next_call s = record { client = s.client; number = s.made }

-- it is the session of the same client, which made no further call and has seen at least as much
abbrev pub SeesMore : Connected → Connected → Type 0
SeesMore old new = (new.client ≡ old.client) × (new.made ≡ old.made) × IsPrefix old.seen new.seen

-- so it is, and the first call that was under way is not any more
abbrev pub EndsFirst : Connected → Connected → Type 0
EndsFirst old new = SeesMore old new × (new.calls ≡ drop 1 old.calls)

-- this is the first call that is under way in the session
abbrev pub IsFirstCall : Connected → CallId → Type 0
IsFirstCall s call = (later : List CallId) × (s.calls ≡ call ∷ later)

-- it is the session of the same client, which made one call more and has seen at least as much
abbrev pub CallsOnce : Connected → Connected → Type 0
CallsOnce old new = (new.client ≡ old.client) × (new.made ≡ old.made + 1) × IsPrefix old.seen new.seen

-- the session made its next call, of this request at this node, after all that it had seen, and the call is under way behind those
-- before
abbrev pub MakesCall : Connected → NodeName → Ask → Connected → Type 0
MakesCall old node ask new = (new.calls ≡ old.calls ++ next_call old ∷ []) × IsMade old.seen (next_call old) node ask new.seen × CallsOnce old new

-- the refusals of a request with this pass for which no call is made: the store has no such chain, or memory is out; or the session made
-- 2 ^ 64 - 1 calls, or the pass lies further above one in earlier replies than a server with this bound allows
abbrev pub RefusesFirst : ℕ → Connected → ℕ → Refusal → Type 0
RefusesFirst most_leap old pass e = (e ≡ UnknownChain) ⊎ (e ≡ Memory) ⊎ ((e ≡ Exhausted) × ((old.made ≡ greatest) ⊎ Leaps most_leap pass))

-- a call was submitted; or it was refused before it was made, and the session is as it was
abbrev pub Submits : ℕ → Connected → CallRequest → Option (Result (Result Called Refusal) Refusal) → Connected → Type 0
Submits most_leap old q (Some (Err e)) new = RefusesFirst most_leap old q.pass e × (new ≡ old)
Submits most_leap old q came new = MakesCall old q.node q.ask new

-- the session gave up its first call that was under way with this pass, which was refused so, and this refusal is reported: it, or Closed. It
-- leaves open whether a step accepted the call; or none does, in the history that the session has seen since or in any that goes on from
-- it, and the refusal is explained there
pub record GivesUp (old : Connected) (pass : ℕ) (came reported : Refusal) (new : Connected) : Type 0 where
  pub either : (reported ≡ came) ⊎ (reported ≡ Closed)
  pub kept : old.calls ≢ [] → LeavesOpen came → reported ≡ came
  pub untaken : LeavesOpen reported ⊎ ((call : CallId) × IsFirstCall old call × IsGivenUp new.seen call pass reported)
  pub ends : EndsFirst old new

-- the session finished its first call that was under way, at this node, by an answer: in the history that the session has seen since, the node
-- accepted the call and gave the answer, as the receipt says; or it is another call's
abbrev pub FinishesAnswered : Connected → NodeName → Called → Result Called Refusal → Connected → Type 0
FinishesAnswered old node reply (Ok c) new =
    (c ≡ reply)
    × ((call : CallId) × IsFirstCall old call × HasAccepted new.seen node call c.call × HasReplied new.seen node c)
    × IsHistory new.seen × EndsFirst old new
FinishesAnswered old node reply (Err e) new = (e ≡ Closed) × EndsFirst old new

-- the session finished its first call that was under way, at this node with this pass, by its reply: an answer, or a refusal, by which it gave
-- the call up
abbrev pub Finishes : Connected → NodeName → ℕ → Result Called Refusal → Result Called Refusal → Connected → Type 0
Finishes old node pass (Ok reply) outcome new = FinishesAnswered old node reply outcome new
Finishes old node pass (Err came) (Ok c) new = ⊥
Finishes old node pass (Err came) (Err e) new = GivesUp old pass came e new

-- the call of a request was finished
abbrev pub FinishesCall : Connected → CallRequest → Result Called Refusal → Result Called Refusal → Connected → Type 0
FinishesCall old q reply outcome new = Finishes old q.node q.pass reply outcome new

-- the session's next call, of this request at this node, is in the store's history, after all that the session had seen before, with the
-- answer of this receipt in what it has seen since
abbrev pub IsWitnessedNext : Connected → NodeName → Ask → Called → Connected → Type 0
IsWitnessedNext old node ask receipt new = (shown : IsWitnessed old.client old.seen node ask receipt.answer receipt new.seen) × (shown.call ≡ next_call old)

-- the message asks this request of this node of the chain of its first object; the reply has the answer of a receipt; and the session's
-- next call is witnessed with this receipt
pub record IsWitnessedReply (old : Connected) (message : ClientMessage) (reply : ClientReply) (new : Connected) : Type 0 where
  pub node : NodeName
  pub pass : ℕ
  pub ask : Ask
  pub receipt : Called
  pub named : node ≡ name_of node.node ask
  pub asks : message ≡ message_of node.node pass ask
  pub replies : IsReplyOf message reply receipt
  pub witnessed : IsWitnessedNext old node ask receipt new

-- the connection made its next call, of this request at this node, after all that it had seen, and has seen that
pub record HasMade (old : Connected) (node : NodeName) (ask : Ask) (new : Connected) : Type 0 where
  pub mid : List HistoryEntry
  pub made : IsMade old.seen (next_call old) node ask mid
  pub later : IsPrefix mid new.seen

-- the call that was made of a request with this pass is refused so: it may have been taken; or no step accepts it, in the history that the
-- session has seen since or in any that goes on from it, and its node refused it by its rules or was not asked
abbrev pub IsRefusedNext : Connected → NodeName → Ask → ℕ → Refusal → Connected → Type 0
IsRefusedNext old node ask pass e new =
    (LeavesOpen e × HasMade old node ask new) ⊎ ((refused : IsRefusedCall old.client old.seen node ask pass e new.seen) × (refused.call ≡ next_call old))

-- a request of a connection with this pass is refused so: no call was made of it, and its session is as it was; or one was
abbrev pub IsRefusedRequest : ℕ → Connected → NodeName → Ask → ℕ → Refusal → Connected → Type 0
IsRefusedRequest most_leap old node ask pass e new = (RefusesFirst most_leap old pass e × (new ≡ old)) ⊎ (CallsOnce old new × IsRefusedNext old node ask pass e new)

-- so is a message that is an update or a read; where a status is refused, its session is as it was
abbrev pub IsRefusedMessage : ℕ → Connected → ClientMessage → Refusal → Connected → Type 0
IsRefusedMessage most_leap old (messages.Update node pass update) e new = IsRefusedRequest most_leap old (name_of node (asks.Update update)) (asks.Update update) pass e new
IsRefusedMessage most_leap old (messages.Read node pass mode object) e new = IsRefusedRequest most_leap old (name_of node (asks.Read mode object)) (asks.Read mode object) pass e new
IsRefusedMessage most_leap old messages.Status e new = new ≡ old

-- a turn of a connection: its session made one call for an update or a read that is answered, and the reply is witnessed; a refusal of
-- one says whether a call was made, and whether it may have been taken; and after the reply to a status its session is as it was
abbrev pub IsWitnessedTurn : ℕ → Connected → ClientMessage → ClientReply → Connected → Type 0
IsWitnessedTurn most_leap old message (replies.Update pass reply) new = CallsOnce old new × IsWitnessedReply old message (replies.Update pass reply) new
IsWitnessedTurn most_leap old message (replies.Read pass version value) new = CallsOnce old new × IsWitnessedReply old message (replies.Read pass version value) new
IsWitnessedTurn most_leap old message (replies.Refused e) new = IsRefusedMessage most_leap old message e new
IsWitnessedTurn most_leap old message (replies.Status text) new = new ≡ old

-- a new connection of an event loop reaches the state, at a server of this store with this bound on passes
abbrev pub IsReachableAt : Stored → ℕ → ConnectionState Connected → Type 0
IsReachableAt store most_leap state =
    IsReachable IsNewSession (TellsStatus store) (λ node pass ask e. RefusesServed (length store.names) node ask e) (called_by (λ (token : CallToken). Submits most_leap) FinishesCall) FinishesCall state

-- these calls are under way: the session made one after another, each after all that it had seen then, and it saw at least as much in
-- between
abbrev pub AreUnderWay : Connected → List CallRequest → List CallId → Connected → Type 0
AreUnderWay old [] [] new = SeesMore old new
AreUnderWay old (q ∷ qs) (call ∷ calls) new =
    (asked : Connected) × SeesMore old asked × (call ≡ next_call asked) × HasMade asked q.node q.ask new × AreUnderWay (record asked { made = asked.made + 1 }) qs calls new
AreUnderWay old qs calls new = ⊥

-- turns whose calls were under way together, and the calls behind them that still are: each call was made after all that the session had
-- seen then, under the number after that of the call before, and its turn is witnessed in what the session has seen since
abbrev pub AreTogether : ℕ → Connected → Exchanges → List CallRequest → Connected → Type 0
AreTogether most_leap old [] qs new = AreUnderWay old qs new.calls new
AreTogether most_leap old (turn ∷ turns) qs new =
    (asked : Connected) × (done : Connected) × SeesMore old asked × CallsOnce asked done × IsWitnessedTurn most_leap asked turn.0 turn.1 done × IsPrefix done.seen new.seen
    × AreTogether most_leap (record asked { made = asked.made + 1 }) turns qs new

-- the message is an update at this node
abbrev pub IsUpdateAt : NodeName → ClientMessage → Type 0
IsUpdateAt name (messages.Update node pass update) = name_of node (asks.Update update) ≡ name
IsUpdateAt name message = ⊥

-- each of these turns is of an update at this node
abbrev pub AreUpdatesAt : NodeName → Exchanges → Type 0
AreUpdatesAt name turns = AllByRecursion (λ (turn : ClientMessage × ClientReply). IsUpdateAt name turn.0) turns

-- one turn, or turns of updates at one node
abbrev pub MayBeTogether : Exchanges → Type 0
MayBeTogether [] = ⊥
MayBeTogether (turn ∷ []) = ⊤
MayBeTogether (turn ∷ turns) = (name : NodeName) × AreUpdatesAt name (turn ∷ turns)

-- the order of turns on which a client can count: they are witnessed one after another, from the first session to the last, each call
-- after all that the turns before it had seen; only the calls of updates at one node were under way together, and they were made in their
-- order
pub data AreWitnessed (most_leap : ℕ) (first : Connected) : Exchanges → Connected → Type 0 where
  no_turn : AreWitnessed most_leap first [] first
  one_turn : (turns : Exchanges) (mid last : Connected) (message : ClientMessage) (reply : ClientReply) → AreWitnessed most_leap first turns mid
      → IsWitnessedTurn most_leap mid message reply last → AreWitnessed most_leap first (turns ++ (message, reply) ∷ []) last
  together : (turns run : Exchanges) (mid last : Connected) → AreWitnessed most_leap first turns mid → MayBeTogether run
      → AreTogether most_leap mid run [] last → AreWitnessed most_leap first (turns ++ run) last

-- the bytes `read` came and the bytes `written` went on the connection: with those that are unsent, these are the frames of the replies of
-- its turns, `before` and then those of `run`. The turns before are witnessed, up to the session `last`. The calls of the turns
-- of `run` were under way together with those that still are; where none is, the session is as it was: so each of its calls is in one
-- turn or under way
pub record IsWitnessedConnection (most_leap : ℕ) (first : Connected) (read written : List ℕ) (state : ConnectionState Connected) : Type 0 where
  pub before : Exchanges
  pub run : Exchanges
  pub holds : Holds state.phase state.codec read written (before ++ run)
  pub last : Connected
  pub witnessed : AreWitnessed most_leap first before last
  pub waits : (q : CallRequest) (later : VecDeque CallRequest Global) → state.phase ≡ Waits q later → AreTogether most_leap last run (q ∷ later.items) state.session
  pub rests : ((q : CallRequest) (later : VecDeque CallRequest Global) → state.phase ≢ Waits q later) → (run ≡ []) × (state.session ≡ last)
