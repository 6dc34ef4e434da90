-- The steps that a connection state takes, and the key and the numbers under which its calls are submitted.
use Rattle.std.specs.Prelude.{◌≡◌, ◌⊎◌, ◌+◌, ◌%◌, ◌^◌, ⊤, ℕ, zero, suc, Bool, true, false, List, [], ◌∷◌, ◌++◌, None, Some, Result}
use Rattle.std.specs.declared.alloc.Global.{Global}
use Rattle.std.specs.declared.collections.VecDeque.{VecDeque}
use Rattle.slab.specs.Slab.{Slab, get}
use Rattle.craq_names.specs.declared.refusal.Refusal.{Refusal}
use Rattle.craq_seat.specs.Calls.{Called}
use Rattle.craq_seat.specs.declared.token.CallToken.{CallToken}
use Rattle.craq_event_loop.specs.SubmittedCalls.{Calling, MayHaveAny}
use Rattle.craq_event_loop.specs.ConnectionStates.{Took}
use Rattle.craq_frames.specs.Steps.{IsTakenAhead}
use Rattle.craq_event_loop.specs.Halves.{GoesAlong, GrowsRoom, IsNamed, IsRefusable, asked_by}
use Rattle.craq_event_loop.specs.Turns.{Refusing}
use Rattle.craq_event_loop.specs.declared.connection_state.CallRequest.{CallRequest}
use Rattle.craq_event_loop.specs.declared.connection_state.UnsentCall.{UnsentCall}
use Rattle.craq_event_loop.specs.declared.connection_state.ConnectionState.{ConnectionState}
use Rattle.craq_event_loop.specs.declared.connection_state.Phase.{Phase}
use Rattle.craq_event_loop.specs.declared.connection_state.Phase.TheVariants as phases
use Rattle.craq_event_loop.specs.declared.connection_state.Stepped.{Stepped}
use Rattle.craq_event_loop.specs.declared.connection_state.Stepped.TheVariants as steps
use Rattle.craq_event_loop.specs.declared.connection.Connection.{Connection}
use Rattle.craq_event_loop.specs.Belonging.{ChangesState, GetsOutcome, OneByOne}

-- the number of the call after that of this number; after 2^64 - 1 comes 0, so a number comes again only after 2^64 calls
abbrev pub next_call : ℕ → ℕ
next_call number = (number + 1) % 2 ^ 64

-- the numbers of the next `count` calls after that of this number, in order
abbrev pub numbers_after : ℕ → ℕ → List ℕ
numbers_after number zero = []
numbers_after number (suc count) = next_call number ∷ numbers_after (next_call number) count

-- a submission under the key of a connection, by the number of its call
abbrev pub under_key : {T : Type 0} → (CallToken → Calling T) → ℕ → ℕ → Calling T
under_key submits key number = submits (record { connection = key; call = number })

-- nothing of the connection state changed but its session
abbrev pub ChangesSession : {T : Type 0} → ConnectionState T → ConnectionState T → Type 0
ChangesSession old new = (new.phase ≡ old.phase) × (new.codec ≡ old.codec) × (new.calls ≡ old.calls)

-- the backend got the call that is under way. Nothing came at once: it still is under way, and may have any refusal that a completion
-- can bring; or this outcome came at once: the call came back so, and is refused only as it may be. Where none was under way nothing
-- happened
abbrev pub AsksBackend : {T : Type 0} → Refusing → Calling T → Phase → ConnectionState T → ConnectionState T → Type 0
AsksBackend refuses submits (phases.Waits q later) old new =
    (submits q old.session None new.session × MayHaveAny refuses q × ChangesSession old new)
    ⊎ ((outcome : Result Called Refusal) × submits q old.session (Some outcome) new.session × IsRefusable refuses q outcome × GetsOutcome outcome old new)
AsksBackend refuses submits phase old new = (new.session ≡ old.session) × ChangesSession old new

-- while a call was under way the next message of its payload was asked ahead: its backend got the call, which goes along with the first
-- that is under way, and will bring a completion
pub record AsksAhead {T : Type 0} (refuses : Refusing) (submits : Calling T) (old new : ConnectionState T) : Type 0 where
  pub first : CallRequest
  pub before : VecDeque CallRequest Global
  pub after : VecDeque CallRequest Global
  pub q : CallRequest
  pub was : old.phase ≡ phases.Waits first before
  pub now : new.phase ≡ phases.Waits first after
  pub behind : after.items ≡ before.items ++ q ∷ []
  pub along : GoesAlong first q
  pub named : IsNamed q
  pub taken : IsTakenAhead old.codec.asking new.codec.asking (asked_by q)
  pub buffers : new.codec.buffers ≡ old.codec.buffers
  pub submitted : submits q old.session None new.session
  pub may : MayHaveAny refuses q
  pub room : GrowsRoom old.calls new.calls

-- the phase is as it was, except for the room for more calls
abbrev pub IsSamePhase : Phase → Phase → Type 0
IsSamePhase old new =
    (new ≡ old)
    ⊎ ((first : CallRequest) × (before : VecDeque CallRequest Global) × (after : VecDeque CallRequest Global) × (old ≡ phases.Waits first before) × (new ≡ phases.Waits first after)
    × (after.items ≡ before.items))

-- nothing changed but room
abbrev pub IsAsBefore : {T : Type 0} → ConnectionState T → ConnectionState T → Type 0
IsAsBefore old new = IsSamePhase old.phase new.phase × (new.codec ≡ old.codec) × (new.session ≡ old.session) × GrowsRoom old.calls new.calls

-- some messages were asked ahead, each under the number after that of the call before
pub data AsksMore {T : Type 0} (refuses : Refusing) (submits : ℕ → Calling T) (old : ConnectionState T) (before : ℕ) : ConnectionState T → ℕ → Type 0 where
  asked_none : AsksMore refuses submits old before old before
  asked_room : (mid new : ConnectionState T) (number : ℕ) → AsksMore refuses submits old before mid number → IsAsBefore mid new → AsksMore refuses submits old before new number
  asked_one : (mid new : ConnectionState T) (number : ℕ) → AsksMore refuses submits old before mid number → AsksAhead refuses (submits (next_call number)) mid new
      → AsksMore refuses submits old before new (next_call number)

-- the backend got the call that is under way, under the number after that of the call before, and then those that were asked ahead
abbrev pub AsksAll : {T : Type 0} → Refusing → (ℕ → Calling T) → ConnectionState T → ℕ → ConnectionState T → ℕ → Type 0
AsksAll {T} refuses submits old before new after =
    (asked : ConnectionState T) × AsksBackend refuses (submits (next_call before)) old.phase old asked × AsksMore refuses submits asked (next_call before) new after

-- the numbers of the messages that were asked ahead, in order
abbrev pub numbers_ahead : {T : Type 0} {refuses : Refusing} {submits : ℕ → Calling T} {old : ConnectionState T} {before : ℕ} {new : ConnectionState T} {after : ℕ}
    → AsksMore refuses submits old before new after → List ℕ
numbers_ahead asked_none = []
numbers_ahead (asked_room mid new number more same) = numbers_ahead more
numbers_ahead (asked_one mid new number more asked) = numbers_ahead more ++ next_call number ∷ []

-- a step after which no call is to be made
abbrev pub IsNoCall : Stepped → Type 0
IsNoCall (steps.Calls unsent) = ⊥
IsNoCall stepped = ⊤

-- the connection state took `count` steps. Its backend got each call as soon as a step made it, or ahead, under the number after that of
-- the call before; nothing else happened to the state, and its session changed only in calls. `before` is the number of the last call before these steps, and the last number
-- is that of the last call after them
pub data TakesSteps {T : Type 0} (tells : List ℕ → Type 0) (refuses : Refusing) (submits : ℕ → Calling T) (old : ConnectionState T) (before : ℕ) : ℕ → ConnectionState T → ℕ → Type 0 where
  none : TakesSteps tells refuses submits old before 0 old before
  step : (count : ℕ) (mid new : ConnectionState T) (number : ℕ) (stepped : Stepped) → TakesSteps tells refuses submits old before count mid number
      → IsNoCall stepped → Took tells mid.phase stepped new.phase mid.codec new.codec mid.calls new.calls → new.session ≡ mid.session
      → TakesSteps tells refuses submits old before (count + 1) new number
  call : (count : ℕ) (mid made new : ConnectionState T) (number : ℕ) (unsent : UnsentCall) → TakesSteps tells refuses submits old before count mid number
      → Took tells mid.phase (steps.Calls unsent) made.phase mid.codec made.codec mid.calls made.calls → made.session ≡ mid.session
      → AsksBackend refuses (submits (next_call number)) made.phase made new
      → TakesSteps tells refuses submits old before (count + 1) new (next_call number)
  asks_ahead : (count : ℕ) (mid new : ConnectionState T) (number after : ℕ) → TakesSteps tells refuses submits old before count mid number
      → AsksMore refuses submits mid number new after → TakesSteps tells refuses submits old before count new after

-- the numbers of the calls that were asked in these steps, in order
abbrev pub asked_in : {T : Type 0} {tells : List ℕ → Type 0} {refuses : Refusing} {submits : ℕ → Calling T} {old : ConnectionState T} {before : ℕ} {count : ℕ} {new : ConnectionState T} {after : ℕ}
    → TakesSteps tells refuses submits old before count new after → List ℕ
asked_in none = []
asked_in (step count mid new number stepped taken no_call took same) = asked_in taken
asked_in (call count mid made new number unsent taken took same asked) = asked_in taken ++ next_call number ∷ []
asked_in (asks_ahead count mid new number after taken more) = asked_in taken ++ numbers_ahead more

-- the most steps that a connection takes in a round before others have their turn
abbrev pub most_steps : ℕ
most_steps = 3

-- a step that finds nothing to do, and says why
abbrev pub IsLast : Stepped → Type 0
IsLast steps.Starved = ⊤
IsLast steps.Stays = ⊤
IsLast stepped = ⊥

-- the connection state had its round: it took steps until one found nothing more to do, or the most that it may take; before and after it
-- the call asked last had these numbers
pub data TakesRound {T : Type 0} (most : ℕ) (tells : List ℕ → Type 0) (refuses : Refusing) (submits : ℕ → Calling T) (old : ConnectionState T) (before : ℕ) (new : ConnectionState T) (after : ℕ) : Type 0 where
  rests : (count : ℕ) (mid : ConnectionState T) (stepped : Stepped) → TakesSteps tells refuses submits old before count mid after
      → IsLast stepped → Took tells mid.phase stepped new.phase mid.codec new.codec mid.calls new.calls → new.session ≡ mid.session
      → TakesRound most tells refuses submits old before new after
  gives_way : TakesSteps tells refuses submits old before most new after → TakesRound most tells refuses submits old before new after

-- the round of a connection: where it is over it asks nothing, and its connection state is unchanged
abbrev pub HasRound : {T : Type 0} → ℕ → (List ℕ → Type 0) → Refusing → (ℕ → Calling T) → Bool → ConnectionState T → ℕ → ConnectionState T → ℕ → Type 0
HasRound most tells refuses submits true old before new after = (new ≡ old) × (after ≡ before)
HasRound most tells refuses submits false old before new after = TakesRound most tells refuses submits old before new after

-- under this key, the connection had its round: its backend got each call under this key and the number after that of the call before.
-- Else nothing of it changes but its connection state
abbrev pub HasRoundAt : {S T : Type 0} → ℕ → (List ℕ → Type 0) → Refusing → (CallToken → Calling T) → Slab (Connection S T) → Slab (Connection S T) → ℕ → Type 0
HasRoundAt {S} {T} most tells refuses submits old new key =
    (c : Connection S T) → get old key ≡ Some c
    → (d : Connection S T) × (get new key ≡ Some d) × HasRound most tells refuses (under_key submits key) c.over c.state c.calls d.state d.calls × ChangesState (record c { calls = d.calls }) d

-- the connections under these keys have their rounds, one after another, in which the backend gets calls under their own keys; and
-- no other connection changes
abbrev pub TakeRounds : {S T : Type 0} → (List ℕ → Type 0) → Refusing → (CallToken → Calling T) → List ℕ → Slab (Connection S T) → Slab (Connection S T) → Type 0
TakeRounds tells refuses submits keys old new = OneByOne (λ mid next key. HasRoundAt most_steps tells refuses submits mid next key) keys old new
