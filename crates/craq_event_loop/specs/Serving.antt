-- A thread reads from some connections, and writes the bytes that are unsent at others.
use Rattle.std.specs.Prelude.{◌≡◌, ◌↔◌, ℕ, true, List, Option, None, Some}
use Rattle.std.specs.declared.alloc.Global.{Global}
use Rattle.std.specs.declared.collections.VecDeque.{VecDeque}
use Rattle.slab.specs.Slab.{Slab, get}
use Rattle.craq_event_loop.specs.SubmittedCalls.{Calling}
use Rattle.craq_event_loop.specs.Turns.{Refusing}
use Rattle.craq_event_loop.specs.declared.connection_state.Phase.TheVariants as phases
use Rattle.craq_event_loop.specs.declared.connection_state.CallRequest.{CallRequest}
use Rattle.craq_seat.specs.declared.token.CallToken.{CallToken}
use Rattle.craq_event_loop.specs.declared.connection.Connection.{Connection}
use Rattle.craq_event_loop.specs.Advancing.{TakeRounds}
use Rattle.craq_event_loop.specs.Belonging.{ChangesSocket, OneByOne, Reads, Writes}
use Rattle.craq_event_loop.specs.Busy.{IsBehind, IsDone}
use Rattle.craq_event_loop.specs.Sockets.{EndsAsSocket, EndsInOrder, ReadsOn, WritesOn}

-- the connection state got the bytes that the connection's socket gave, and no other byte. It is unchanged while its call is under
-- way. The bytes that the socket took are as they were, and no call was asked; the mark is as it was. The connection is over only if
-- it was, or its socket is; and it goes on to read unless its socket has no more for now
pub record HasRead {S T : Type 0} (remaining contents : S → Option (List ℕ)) (is_over is_dry is_full : S → Type 0) (old new : Connection S T) : Type 0 where
  pub reads : Reads (remaining old.stream) (remaining new.stream) old.state new.state
  pub waits : (q : CallRequest) (later : VecDeque CallRequest Global) → old.state.phase ≡ phases.Waits q later → new.state ≡ old.state
  pub taken : contents new.stream ≡ contents old.stream
  pub over : EndsAsSocket is_over old new
  pub ready : ReadsOn is_dry old new
  pub rest : ChangesSocket old new

-- the bytes that the connection's socket took are the front of those unsent, and no other byte. The bytes that the socket will give
-- are as they were, and no call was asked. The connection is over just if all its replies are written, or if it was, or its socket
-- is; and it goes on to write unless its socket takes no more for now
pub record HasWritten {S T : Type 0} (remaining contents : S → Option (List ℕ)) (is_over is_dry is_full : S → Type 0) (old new : Connection S T) : Type 0 where
  pub writes : Writes (contents old.stream) (contents new.stream) old.state new.state
  pub given : remaining new.stream ≡ remaining old.stream
  pub over : EndsInOrder is_over old new
  pub ready : WritesOn is_full old new
  pub rest : ChangesSocket old new

-- under this key, the connection has read
abbrev pub ReadsAt : {S T : Type 0} → (S → Option (List ℕ)) → (S → Option (List ℕ)) → (S → Type 0) → (S → Type 0) → (S → Type 0) → Slab (Connection S T) → Slab (Connection S T) → ℕ → Type 0
ReadsAt {S} {T} remaining contents is_over is_dry is_full old new key =
    (c : Connection S T) → get old key ≡ Some c → (d : Connection S T) × (get new key ≡ Some d) × HasRead remaining contents is_over is_dry is_full c d

-- the connection is dropped exactly if it is done. Else nothing changes except its mark, which it bears exactly if it is behind
abbrev pub StaysUnlessDone : {S T : Type 0} → Connection S T → Option (Connection S T) → Type 0
StaysUnlessDone c None = IsDone c
StaysUnlessDone c (Some d) = ¬ IsDone c × (d ≡ record c { busy = d.busy }) × (d.busy ≡ true ↔ IsBehind c)

-- under this key, the connection has written, and is then dropped exactly if it is done
abbrev pub WritesAt : {S T : Type 0} → (S → Option (List ℕ)) → (S → Option (List ℕ)) → (S → Type 0) → (S → Type 0) → (S → Type 0) → Slab (Connection S T) → Slab (Connection S T) → ℕ → Type 0
WritesAt {S} {T} remaining contents is_over is_dry is_full old new key =
    (c : Connection S T) → get old key ≡ Some c → (d : Connection S T) × HasWritten remaining contents is_over is_dry is_full c d × StaysUnlessDone d (get new key)

-- the connections under these keys are served: all read, then all have their rounds, then all write
abbrev pub Serves : {S T : Type 0} → (S → Option (List ℕ)) → (S → Option (List ℕ)) → (S → Type 0) → (S → Type 0) → (S → Type 0) → (List ℕ → Type 0) → Refusing → (CallToken → Calling T) → List ℕ → Slab (Connection S T) → Slab (Connection S T) → Type 0
Serves {S} {T} remaining contents is_over is_dry is_full tells refuses submits keys old new =
    (read stepped : Slab (Connection S T)) × OneByOne (ReadsAt remaining contents is_over is_dry is_full) keys old read
    × TakeRounds tells refuses submits keys read stepped × OneByOne (WritesAt remaining contents is_over is_dry is_full) keys stepped new
