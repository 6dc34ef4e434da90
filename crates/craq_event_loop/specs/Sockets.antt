-- The outcome of a read or a write of a connection's socket, and when a connection is over.
use Rattle.std.specs.Prelude.{◌≡◌, ◌⊎◌, ℕ, zero, suc, true, false, [], IsSome}
use Rattle.std.specs.declared.io.ErrorKind.{ErrorKind}
use Rattle.std.specs.declared.io.ErrorKind.TheVariants as errors
use Rattle.craq_event_loop.specs.ConnectionStates.{ending_of}
use Rattle.craq_event_loop.specs.declared.connection_state.ConnectionState.{ConnectionState}
use Rattle.craq_event_loop.specs.declared.connection.Connection.{Connection}
use Rattle.craq_event_loop.specs.declared.socket.Moved.{Moved}
use Rattle.craq_event_loop.specs.declared.socket.Moved.TheVariants as moves

-- returns the number of bytes that were read or written
abbrev pub moved_count : Moved → ℕ
moved_count (moves.Bytes count) = count
moved_count moved = 0

-- the outcome of a system's read or write of `count` bytes: no byte at all is the end
abbrev pub moved_of_count : ℕ → Moved
moved_of_count zero = moves.Over
moved_of_count (suc n) = moves.Bytes (suc n)

-- the outcome of an error of it: to wait for readiness, to try again, or the end
abbrev pub moved_of_error : ErrorKind → Moved
moved_of_error errors.WouldBlock = moves.NotReady
moved_of_error errors.Interrupted = moves.Interrupted
moved_of_error kind = moves.Over

-- the connection state is over, and none of its bytes are unsent
abbrev pub HasSaidAll : {T : Type 0} → ConnectionState T → Type 0
HasSaidAll state = IsSome (ending_of state.phase) × (state.codec.buffers.output.items ≡ [])

-- the connection is over only if it was before, or its socket is
abbrev pub EndsAsSocket : {S T : Type 0} → (S → Type 0) → Connection S T → Connection S T → Type 0
EndsAsSocket is_over old new = new.over ≡ true → (old.over ≡ true) ⊎ is_over new.stream

-- the connection is over just if its connection state is over with no byte unsent, or if it was before, or its socket is
pub record EndsInOrder {S T : Type 0} (is_over : S → Type 0) (old new : Connection S T) : Type 0 where
  pub said : HasSaidAll new.state → new.over ≡ true
  pub else_on : new.over ≡ true → HasSaidAll new.state ⊎ ((old.over ≡ true) ⊎ is_over new.stream)

-- it goes on to read as it did, or its socket gives no byte before more have come; what else is known of its readiness is as it was
abbrev pub ReadsOn : {S T : Type 0} → (S → Type 0) → Connection S T → Connection S T → Type 0
ReadsOn is_dry old new =
    (new.readiness.readable ≡ false → (old.readiness.readable ≡ false) ⊎ is_dry new.stream)
    × (new.readiness.until_dry ≡ old.readiness.until_dry) × (new.readiness.writable ≡ old.readiness.writable)

-- it goes on to write as it did, or its socket takes no byte before there is room; what else is known of its readiness is as it was
abbrev pub WritesOn : {S T : Type 0} → (S → Type 0) → Connection S T → Connection S T → Type 0
WritesOn is_full old new =
    (new.readiness.writable ≡ false → (old.readiness.writable ≡ false) ⊎ is_full new.stream)
    × (new.readiness.until_dry ≡ old.readiness.until_dry) × (new.readiness.readable ≡ old.readiness.readable)
