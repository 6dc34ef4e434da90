-- Bytes and completions of each connection.
use Rattle.std.specs.Prelude.{◌≡◌, ◌≢◌, ◌⊎◌, ◌↔◌, ◌+◌, ◌%◌, ◌^◌, ℕ, length, true, false, List, [], ◌∷◌, ◌++◌, Option, None, Some, Result, reverse}
use Rattle.std.specs.Io.KnownBytes.{Appends, Consumes}
use Rattle.std.specs.declared.alloc.Global.{Global}
use Rattle.std.specs.declared.collections.VecDeque.{VecDeque}
use Rattle.slab.specs.Slab.{Slab, get}
use Rattle.craq_names.specs.declared.refusal.Refusal.{Refusal}
use Rattle.craq_frames.specs.Talk.{Exchanges}
use Rattle.craq_seat.specs.Calls.{Called}
use Rattle.craq_seat.specs.declared.queue_state.Completion.{Completion}
use Rattle.craq_seat.specs.declared.token.CallToken.{CallToken}
use Rattle.craq_event_loop.specs.SubmittedCalls.{Finishing, IsOutcome}
use Rattle.craq_event_loop.specs.ConnectionStates.{AnswersCall, Holds, later_calls}
use Rattle.craq_event_loop.specs.declared.connection_state.CallRequest.{CallRequest}
use Rattle.craq_event_loop.specs.declared.connection_state.ConnectionState.{ConnectionState}
use Rattle.craq_event_loop.specs.declared.connection_state.Phase.TheVariants as phases
use Rattle.craq_event_loop.specs.declared.connection.Connection.{Connection}

-- the connection is new: no byte came and none is unsent, no call was asked, and its socket counts as ready
pub record IsNew {S T : Type 0} (c : Connection S T) : Type 0 where
  pub nothing_came : Holds c.state.phase c.state.codec [] [] []
  pub idle : c.state.phase ≡ phases.Idle
  pub calls : c.calls ≡ 0
  pub readable : c.readiness.readable ≡ true
  pub writable : c.readiness.writable ≡ true
  pub unread : c.more ≡ false
  pub unmarked : c.busy ≡ false
  pub goes_on : c.over ≡ false

-- the connection is the one that came so: this is its socket, this its session, this its place, and here the receipts of its calls go
pub record CameAs {S T : Type 0} (stream : S) (session : T) (slot receipts : ℕ) (c : Connection S T) : Type 0 where
  pub same_stream : c.stream ≡ stream
  pub same_session : c.state.session ≡ session
  pub same_place : c.slot ≡ slot
  pub same_receipts : c.receipts ≡ receipts

-- just these bytes came to the connection state, behind those before; the calls that are under way, its unsent bytes, its calls and its
-- session are unchanged
pub record ReceivesBytes {T : Type 0} (came : List ℕ) (old new : ConnectionState T) : Type 0 where
  pub heard : (read written : List ℕ) (rounds : Exchanges) → Holds old.phase old.codec read written rounds → Holds new.phase new.codec (read ++ came) written rounds
  pub waits : (q : CallRequest) (later : VecDeque CallRequest Global) → new.phase ≡ phases.Waits q later ↔ old.phase ≡ phases.Waits q later
  pub unsent : new.codec.buffers.output.items ≡ old.codec.buffers.output.items
  pub calls : new.calls ≡ old.calls
  pub session : new.session ≡ old.session

-- just these bytes, the first that were unsent, are written as far as the connection state knows; its phase, calls and session are
-- unchanged
pub record SendsBytes {T : Type 0} (went : List ℕ) (old new : ConnectionState T) : Type 0 where
  pub given : (read written : List ℕ) (rounds : Exchanges) → Holds old.phase old.codec read written rounds → Holds new.phase new.codec read (written ++ went) rounds
  pub unsent : old.codec.buffers.output.items ≡ went ++ new.codec.buffers.output.items
  pub phase : new.phase ≡ old.phase
  pub calls : new.calls ≡ old.calls
  pub session : new.session ≡ old.session

-- the connection state got the bytes that a socket gave, in order and whole
abbrev pub Reads : {T : Type 0} → Option (List ℕ) → Option (List ℕ) → ConnectionState T → ConnectionState T → Type 0
Reads before after old new = (came : List ℕ) × Consumes before after came × ReceivesBytes came old new

-- a socket took the bytes that were unsent, in order and whole, and the connection state notes them as written
abbrev pub Writes : {T : Type 0} → Option (List ℕ) → Option (List ℕ) → ConnectionState T → ConnectionState T → Type 0
Writes before after old new = (went : List ℕ) × Appends before after went × SendsBytes went old new

-- some bytes came now, or none came and its last ones went when they did
abbrev pub ReceivesNow : {S T : Type 0} → ℕ → Connection S T → Connection S T → Type 0
ReceivesNow now old new =
    ((new.heard ≡ old.heard) × (new.state ≡ old.state))
    ⊎ ((new.heard ≡ now) × (came : List ℕ) × (came ≢ []) × ReceivesBytes came old.state new.state)

-- some bytes were taken now, or none were and its last ones went when they did
abbrev pub SendsNow : {S T : Type 0} → ℕ → Connection S T → Connection S T → Type 0
SendsNow now old new =
    ((new.heard ≡ old.heard) × (new.state ≡ old.state))
    ⊎ ((new.heard ≡ now) × (went : List ℕ) × (went ≢ []) × SendsBytes went old.state new.state)

-- the first call of the connection state that is under way came back so
abbrev pub GetsOutcome : {T : Type 0} → Result Called Refusal → ConnectionState T → ConnectionState T → Type 0
GetsOutcome outcome old new = AnswersCall old.phase outcome new.phase old.codec new.codec old.calls new.calls

-- that call came back by a completion that says this: its session finished it
abbrev pub GetsCompletion : {T R : Type 0} → Finishing T R → R → ConnectionState T → ConnectionState T → Type 0
GetsCompletion finishes reply old new =
    (outcome : Result Called Refusal) × IsOutcome finishes old.phase reply old.session outcome new.session × GetsOutcome outcome old new

-- some calls of the connection state came back by completions, one after another: always the first of those that are under way
pub data GetsCompletions {T R : Type 0} (finishes : Finishing T R) (old : ConnectionState T) : ConnectionState T → Type 0 where
  came_none : GetsCompletions finishes old old
  came_one : (mid new : ConnectionState T) (reply : R) → GetsCompletions finishes old mid → GetsCompletion finishes reply mid new → GetsCompletions finishes old new

-- the first call came back by a completion that says this, and then those behind it whose completions came before
abbrev pub GetsFirst : {T R : Type 0} → Finishing T R → R → ConnectionState T → ConnectionState T → Type 0
GetsFirst {T} finishes reply old new = (mid : ConnectionState T) × GetsCompletion finishes reply old mid × GetsCompletions finishes mid new

-- under this number the connection asked the first of the calls that are under way: as many calls as there are behind it were asked since
abbrev pub IsFirst : {S T : Type 0} → ℕ → Connection S T → Type 0
IsFirst number c = (number + length (later_calls c.state.phase)) % 2 ^ 64 ≡ c.calls

-- of the connection nothing changes but its connection state, and whether a whole frame may be in the bytes that were read
abbrev pub ChangesState : {S T : Type 0} → Connection S T → Connection S T → Type 0
ChangesState old new = new ≡ record old { state = new.state; more = new.more; unread = new.unread }

-- of the connection nothing changes but its socket, its connection state and what follows from these. So no call was asked, its mark
-- and its place are as they were, and the receipts of its calls go where they went
abbrev pub ChangesSocket : {S T : Type 0} → Connection S T → Connection S T → Type 0
ChangesSocket old new = new ≡ record old {
  stream = new.stream;
  state = new.state;
  readiness = new.readiness;
  heard = new.heard;
  more = new.more;
  over = new.over;
  unread = new.unread;
}

-- a completion under this number says this: under the number of the first call that is under way, the connection state gets its outcome;
-- under another number nothing changes
pub record TakesCompletion {S T R : Type 0} (finishes : Finishing T R) (number : ℕ) (reply : R) (old new : Connection S T) : Type 0 where
  pub own : IsFirst number old → GetsFirst finishes reply old.state new.state
  pub another : ¬ (IsFirst number old) → new.state ≡ old.state
  pub rest : ChangesState old new

-- the connection whose key is in this token takes the completion under the number that is there, and then has something to do
abbrev pub Delivers : {S T R : Type 0} → Finishing T R → Slab (Connection S T) → Slab (Connection S T) → CallToken → R → Type 0
Delivers {S} {T} finishes old new token reply =
    (c : Connection S T) → get old token.connection ≡ Some c
    → (d : Connection S T) × (get new token.connection ≡ Some (record d { busy = true })) × TakesCompletion finishes token.call reply c d

-- under this key, the connection has something to do from now on
abbrev pub Wakes : {S T : Type 0} → Slab (Connection S T) → Slab (Connection S T) → ℕ → Type 0
Wakes {S} {T} old new key = (c : Connection S T) → get old key ≡ Some c → get new key ≡ Some (record c { busy = true })

-- where no connection is under this key, none is afterwards
abbrev pub StaysVacant : {S T : Type 0} → Slab (Connection S T) → Slab (Connection S T) → ℕ → Type 0
StaysVacant old new key = get old key ≡ None → get new key ≡ None

-- each connection under another key is as it was
abbrev pub OthersStay : {S T : Type 0} → Slab (Connection S T) → Slab (Connection S T) → ℕ → Type 0
OthersStay old new key = (other : ℕ) → other ≢ key → get new other ≡ get old other

-- under this key, and no connection under another key changes; where none is under this key, none is afterwards
abbrev pub Alone : {S T : Type 0} → (Slab (Connection S T) → Slab (Connection S T) → ℕ → Type 0) → Slab (Connection S T) → Slab (Connection S T) → ℕ → Type 0
Alone happens old new key = happens old new key × StaysVacant old new key × OthersStay old new key

-- it happens under each of these keys, one after another, and no other connection changes
abbrev pub OneByOne : {S T : Type 0} → (Slab (Connection S T) → Slab (Connection S T) → ℕ → Type 0) → List ℕ → Slab (Connection S T) → Slab (Connection S T) → Type 0
OneByOne happens [] old new = new ≡ old
OneByOne {S} {T} happens (key ∷ keys) old new = (mid : Slab (Connection S T)) × Alone happens old mid key × OneByOne happens keys mid new

-- the completion is delivered to the connection whose key is in its token, and no connection under another key changes
abbrev pub DeliversCompletion : {S T R : Type 0} → Finishing T R → Completion R → Slab (Connection S T) → Slab (Connection S T) → Type 0
DeliversCompletion finishes completion old new = Delivers finishes old new completion.token completion.reply × StaysVacant old new completion.token.connection × OthersStay old new completion.token.connection

-- each of these completions is delivered, the last one first
abbrev pub DeliversAll : {S T R : Type 0} → Finishing T R → List (Completion R) → Slab (Connection S T) → Slab (Connection S T) → Type 0
DeliversAll finishes [] old new = new ≡ old
DeliversAll {S} {T} finishes (completion ∷ later) old new = (mid : Slab (Connection S T)) × DeliversAll finishes later old mid × DeliversCompletion finishes completion mid new

-- the backend brought completions, and each of them is delivered, in their order
abbrev pub DeliversBrought : {S T R : Type 0} → Finishing T R → (List (Completion R) → Type 0) → Slab (Connection S T) → Slab (Connection S T) → Type 0
DeliversBrought {S} {T} {R} finishes brings old new =
    (completions : List (Completion R)) × brings completions × DeliversAll finishes (reverse completions) old new
