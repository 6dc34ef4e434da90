-- Connections that have something to do, those that are marked for it, and those that the list of a thread names.
use Rattle.std.specs.Prelude.{◌≡◌, ◌≢◌, ◌≤◌, ◌<◌, ◌-◌, ◌⊎◌, ◌↔◌, ◌++◌, ℕ, Bool, true, false, List, [], ◌∷◌, Option, None, Some, Vec, length, nat_lt, vec_capacity, vec_len, if◌then◌else◌}
use Rattle.std.specs.List.{AllPairs, Contains}
use Rattle.std.specs.VecDeque.{deque_capacity, deque_len}
use Rattle.std.specs.declared.alloc.Global.{Global}
use Rattle.std.specs.declared.collections.VecDeque.{VecDeque}
use Rattle.slab.specs.Slab.{Slab, get, slab_len}
use Rattle.craq_event_loop.specs.ConnectionStates.{ending_of}
use Rattle.craq_event_loop.specs.declared.connection_state.Phase.{Phase}
use Rattle.craq_event_loop.specs.declared.connection_state.Phase.TheVariants as phases
use Rattle.craq_event_loop.specs.declared.connection.Connection.{Connection}
use Rattle.craq_event_loop.specs.declared.event_loop.LoopConnections.{LoopConnections}
use Rattle.craq_event_loop.specs.Starved.{IsStarved}

-- a call is under way
abbrev pub is_waiting : Phase → Bool
is_waiting (phases.Waits q later) = true
is_waiting phase = false

-- the connection has ended, and no completion comes to it any more
abbrev pub IsDone : {S T : Type 0} → Connection S T → Type 0
IsDone c = (c.over ≡ true) × (is_waiting c.state.phase ≡ false)

-- the connection has ended, or nothing came and nothing was taken for more than `idle` seconds while no call of it was under way
abbrev pub IsIdle : {S T : Type 0} → ℕ → ℕ → Connection S T → Type 0
IsIdle now idle c = (c.over ≡ true) ⊎ ((is_waiting c.state.phase ≡ false) × (idle < now - c.heard))

-- there may be a whole frame, no call is under way, the connection state has not ended, and fewer than 1,024 bytes are unsent: more
-- bytes will come soon
abbrev pub GoesOn : {S T : Type 0} → Connection S T → Type 0
GoesOn c =
    (c.more ≡ true) × (length c.state.codec.buffers.output.items < 1024) × (ending_of c.state.phase ≡ None) × (is_waiting c.state.phase ≡ false)

-- bytes are unsent, and the socket may take some
abbrev pub MayGive : {S T : Type 0} → Connection S T → Type 0
MayGive c = (c.over ≡ false) × (c.state.codec.buffers.output.items ≢ []) × (c.readiness.writable ≡ true)

-- no bytes are unsent and no call is under way, and there may be a whole frame in the bytes that were read, or more to be read
abbrev pub MayGoOn : {S T : Type 0} → Connection S T → Type 0
MayGoOn c =
    (c.over ≡ false) × (c.state.codec.buffers.output.items ≡ []) × (is_waiting c.state.phase ≡ false)
    × ((c.more ≡ true) ⊎ (c.readiness.readable ≡ true))

-- the connection has work that neither an event nor a completion announces: it is to be dropped, or bytes are to be written, or it may
-- go on with bytes that came
abbrev pub IsBehind : {S T : Type 0} → Connection S T → Type 0
IsBehind c = IsDone c ⊎ (MayGive c ⊎ MayGoOn c)

-- returns true if a connection is there and is marked as one that has something to do
abbrev pub is_marked : {S T : Type 0} → Option (Connection S T) → Bool
is_marked None = false
is_marked (Some c) = c.busy

-- the keys with this one behind the others, where a connection is under it that was not marked
abbrev pub with_key : {S T : Type 0} → List ℕ → ℕ → Option (Connection S T) → List ℕ
with_key keys key None = keys
with_key keys key (Some c) = if c.busy then keys else keys ++ key ∷ []

-- the two lists name just the connections that are marked, each once in one of them; and both have room for the keys of all connections
pub record ListsMarked {S T : Type 0} (connections : Slab (Connection S T)) (busy : Vec ℕ Global) (behind : VecDeque ℕ Global) : Type 0 where
  pub marked : (key : ℕ) → Contains (behind.items ++ busy.items) key ↔ is_marked (get connections key) ≡ true
  pub once : AllPairs (λ x y. x ≢ y) (behind.items ++ busy.items)
  pub room : slab_len connections ≤ vec_capacity busy
  pub room_behind : slab_len connections ≤ deque_capacity behind

-- each connection that is behind is marked
abbrev pub MarksBehind : {S T : Type 0} → Slab (Connection S T) → Type 0
MarksBehind {S} {T} connections = (key : ℕ) (c : Connection S T) → get connections key ≡ Some c → IsBehind c → c.busy ≡ true

-- the lists of a thread name just its connections that are marked, each once, and each that is behind is marked
pub record NoneForgotten {S T R : Type 0} (m : LoopConnections S T R) : Type 0 where
  pub listed : ListsMarked m.connections m.busy m.behind
  pub behind : MarksBehind m.connections

-- a thread that has no connections yet
abbrev pub HasNone : {S T R : Type 0} → LoopConnections S T R → Type 0
HasNone m = (slab_len m.connections ≡ 0) × (vec_len m.busy ≡ 0) × (deque_len m.behind ≡ 0)

-- the thread's lists name no connection
abbrev pub Rests : {S T R : Type 0} → LoopConnections S T R → Type 0
Rests m = (m.busy.items ≡ []) × (m.behind.items ≡ [])

-- of the connections under these keys just those that are behind are marked
abbrev pub MarksJustBehind : {S T : Type 0} → Slab (Connection S T) → List ℕ → Type 0
MarksJustBehind {S} {T} connections keys =
    (key : ℕ) → Contains keys key → (c : Connection S T) → get connections key ≡ Some c → c.busy ≡ true ↔ IsBehind c

-- no frame that was read is left: if the connection goes on with no byte unsent and no call under way, there is no message to be asked,
-- and less than a frame
abbrev pub LeavesNoFrame : {S T : Type 0} → Connection S T → Type 0
LeavesNoFrame c =
    c.over ≡ false → c.state.codec.buffers.output.items ≡ [] → is_waiting c.state.phase ≡ false
    → ∥ IsStarved c.state.phase c.state.codec.buffers.input.items ∥₁

-- no connection is behind, and none leaves a frame
abbrev pub NoneBehind : {S T : Type 0} → Slab (Connection S T) → Type 0
NoneBehind {S} {T} connections = (key : ℕ) (c : Connection S T) → get connections key ≡ Some c → ¬ IsBehind c × LeavesNoFrame c

-- the thread has at most two connections, and fewer than 200 turns began since one had something to do: so it looks again before it sleeps
abbrev pub LooksAgain : {S T R : Type 0} → LoopConnections S T R → Type 0
LooksAgain m = (slab_len m.connections ≤ 2) × (m.looks < 200)

-- the most nanoseconds that a thread sleeps: a second where it looks for idle connections, and else without end
abbrev pub longest_wait : ℕ → Option ℕ
longest_wait idle = if nat_lt 0 idle then Some 1_000_000_000 else None
