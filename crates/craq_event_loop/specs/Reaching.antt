-- The states that a connection reaches, in an event loop or on a thread of its own.
use Rattle.std.specs.Prelude.{◌≡◌, ℕ, List, [], ◌++◌, Option, Some}
use Rattle.std.specs.Io.KnownBytes.{Appends, Consumes}
use Rattle.slab.specs.Slab.{Slab, get}
use Rattle.craq_seat.specs.declared.token.CallToken.{CallToken}
use Rattle.craq_event_loop.specs.SubmittedCalls.{Calling, Finishing}
use Rattle.craq_event_loop.specs.ConnectionStates.{Holds}
use Rattle.craq_event_loop.specs.Turns.{Refusing}
use Rattle.craq_event_loop.specs.declared.connection_state.ConnectionState.{ConnectionState}
use Rattle.craq_event_loop.specs.declared.connection_state.Phase.TheVariants as phases
use Rattle.craq_event_loop.specs.declared.connection.Connection.{Connection}
use Rattle.craq_event_loop.specs.Advancing.{TakesSteps, under_key}
use Rattle.craq_event_loop.specs.Belonging.{GetsCompletion, SendsBytes, ReceivesBytes}

-- the first state is that of a new connection, and it reached this one: the bytes `read` came and the bytes `written` went, it took steps
-- and got the outcomes of its calls by completions, and nothing else happened to it
pub data Reaches {T R : Type 0} (tells : List ℕ → Type 0) (refuses : Refusing) (submits : CallToken → Calling T) (finishes : Finishing T R) (first : ConnectionState T) : List ℕ → List ℕ → ConnectionState T → Type 0 where
  begins : Holds first.phase first.codec [] [] [] → first.phase ≡ phases.Idle → Reaches tells refuses submits finishes first [] [] first
  receives : (read written came : List ℕ) (old new : ConnectionState T) → Reaches tells refuses submits finishes first read written old → ReceivesBytes came old new
      → Reaches tells refuses submits finishes first (read ++ came) written new
  sends : (read written went : List ℕ) (old new : ConnectionState T) → Reaches tells refuses submits finishes first read written old → SendsBytes went old new
      → Reaches tells refuses submits finishes first read (written ++ went) new
  steps : (read written : List ℕ) (old new : ConnectionState T) (key before count after : ℕ) → Reaches tells refuses submits finishes first read written old
      → TakesSteps tells refuses (under_key submits key) old before count new after → Reaches tells refuses submits finishes first read written new
  completes : (read written : List ℕ) (old new : ConnectionState T) (reply : R) → Reaches tells refuses submits finishes first read written old
      → GetsCompletion finishes reply old new → Reaches tells refuses submits finishes first read written new

-- a connection goes on: its socket gave the bytes `read` and took the bytes `written`, and what reached its old state reaches its new one
-- with these bytes too
pub record ReachesOn {S T R : Type 0} (remaining contents : S → Option (List ℕ)) (tells : List ℕ → Type 0) (refuses : Refusing) (submits : CallToken → Calling T) (finishes : Finishing T R) (old new : Connection S T) : Type 0 where
  pub read : List ℕ
  pub written : List ℕ
  pub given : Consumes (remaining old.stream) (remaining new.stream) read
  pub taken : Appends (contents old.stream) (contents new.stream) written
  pub reaches : (first : ConnectionState T) (came went : List ℕ) → Reaches tells refuses submits finishes first came went old.state
      → Reaches tells refuses submits finishes first (came ++ read) (went ++ written) new.state

-- a new connection reaches the state, whose session was new in this sense
abbrev pub IsReachable : {T R : Type 0} → (T → Type 0) → (List ℕ → Type 0) → Refusing → (CallToken → Calling T) → Finishing T R → ConnectionState T → Type 0
IsReachable {T} is_new tells refuses submits finishes state =
    (first : ConnectionState T) × is_new first.session × (read : List ℕ) × (written : List ℕ) × Reaches tells refuses submits finishes first read written state

-- the states of these connections are reachable
abbrev pub AreReachable : {S T R : Type 0} → (T → Type 0) → (List ℕ → Type 0) → Refusing → (CallToken → Calling T) → Finishing T R → Slab (Connection S T) → Type 0
AreReachable {S} {T} is_new tells refuses submits finishes connections =
    (key : ℕ) (c : Connection S T) → get connections key ≡ Some c → IsReachable is_new tells refuses submits finishes c.state

-- if the states of the connections were reachable before, they are afterwards
abbrev pub StayReachable : {S T R : Type 0} → (T → Type 0) → (List ℕ → Type 0) → Refusing → (CallToken → Calling T) → Finishing T R → Slab (Connection S T) → Slab (Connection S T) → Type 0
StayReachable is_new tells refuses submits finishes old new = AreReachable is_new tells refuses submits finishes old → AreReachable is_new tells refuses submits finishes new
