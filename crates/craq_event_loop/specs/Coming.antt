-- The connections of a thread after some came and after idle ones ended.
use Rattle.std.specs.Prelude.{◌≡◌, ◌⊎◌, ◌↔◌, ◌++◌, ℕ, Bool, true, List, [], ◌∷◌, Option, None, Some}
use Rattle.mio.specs.declared.event.event.Event.{Event}
use Rattle.mio.specs.Event.{event_token}
use Rattle.slab.specs.Slab.{SameValues, Slab, get}
use Rattle.craq_event_loop.specs.declared.connection.Connection.{Connection}
use Rattle.craq_event_loop.specs.declared.event_loop.LoopConnections.{LoopConnections}
use Rattle.craq_event_loop.specs.Belonging.{CameAs, IsNew, OthersStay, StaysVacant}
use Rattle.craq_event_loop.specs.Busy.{IsIdle}
use Rattle.craq_event_loop.specs.Readiness.{noticed}

-- nothing of the thread's connections and lists changes but the room that there is
pub record ChangesRoom {S T R : Type 0} (old new : LoopConnections S T R) : Type 0 where
  pub connections : SameValues old.connections new.connections
  pub busy : new.busy.items ≡ old.busy.items
  pub behind : new.behind.items ≡ old.behind.items

-- the connection that came is under a key that was vacant. It is new except for its mark, its key is behind the others in the busy
-- list, and no other connection changes
pub record TakesIn {S T R : Type 0} (stream : S) (session : T) (slot receipts : ℕ) (old new : LoopConnections S T R) : Type 0 where
  pub key : ℕ
  pub connection : Connection S T
  pub was_vacant : get old.connections key ≡ None
  pub is_new : IsNew connection
  pub came_as : CameAs stream session slot receipts connection
  pub here : get new.connections key ≡ Some (record connection { busy = true })
  pub listed : new.busy.items ≡ old.busy.items ++ key ∷ []
  pub behind : new.behind.items ≡ old.behind.items
  pub others : OthersStay old.connections new.connections key

-- each connection that was there is as it was
abbrev pub PresentStay : {S T : Type 0} → Slab (Connection S T) → Slab (Connection S T) → Type 0
PresentStay {S} {T} old new = (key : ℕ) (c : Connection S T) → get old key ≡ Some c → get new key ≡ Some c

-- the key that the event's token names
abbrev pub key_of : Event → ℕ
key_of event = (event_token event).0

-- under this key, the event tells of the connection's readiness
abbrev pub NoticesAt : {S T : Type 0} → Event → Slab (Connection S T) → Slab (Connection S T) → ℕ → Type 0
NoticesAt {S} {T} event old new key =
    (c : Connection S T) → get old key ≡ Some c → get new key ≡ Some (record c { readiness = noticed c.readiness event })

-- the event tells of the readiness of the connection under its token's key, which then has something to do; where none is under that
-- key none comes, and no other connection changes
pub record TellsOf {S T : Type 0} (event : Event) (old new : Slab (Connection S T)) : Type 0 where
  pub reported : (c : Connection S T) → get old (key_of event) ≡ Some c
      → get new (key_of event) ≡ Some (record c { readiness = noticed c.readiness event; busy = true })
  pub vacant : StaysVacant old new (key_of event)
  pub others : OthersStay old new (key_of event)

-- each of these events tells so, one after another
abbrev pub AllReported : {S T : Type 0} → List Event → Slab (Connection S T) → Slab (Connection S T) → Type 0
AllReported [] old new = new ≡ old
AllReported {S} {T} (event ∷ later) old new = (mid : Slab (Connection S T)) × TellsOf event old mid × AllReported later mid new

-- under this key, the result reports whether the connection is idle, and the connection is over if it is
abbrev pub LooksAt : {S T : Type 0} → ℕ → ℕ → Bool → Slab (Connection S T) → Slab (Connection S T) → ℕ → Type 0
LooksAt {S} {T} now idle reported old new key =
    (c : Connection S T) → get old key ≡ Some c → (reported ≡ true ↔ IsIdle now idle c) × (get new key ≡ Some (record c { over = reported }))

-- where a connection was that was left idle it is over, and has something to do; another one is as it was, and none comes
abbrev pub ClosesIfIdle : {S T : Type 0} → ℕ → ℕ → Option (Connection S T) → Option (Connection S T) → Type 0
ClosesIfIdle now idle None new = new ≡ None
ClosesIfIdle now idle (Some c) new =
    (IsIdle now idle c × (new ≡ Some (record c { over = true; busy = true }))) ⊎ (¬ (IsIdle now idle c) × (new ≡ Some c))

-- under each key, the connection that was left idle is over
abbrev pub EndsIdle : {S T : Type 0} → ℕ → ℕ → Slab (Connection S T) → Slab (Connection S T) → Type 0
EndsIdle now idle old new = (key : ℕ) → ClosesIfIdle now idle (get old key) (get new key)
