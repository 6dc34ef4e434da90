-- Reads messages from left to right.
use Rattle.std.specs.Prelude.{ℕ, List, length, Option, Some, None, ◌==◌, if◌then◌else◌}
use Rattle.std.specs.Int.{w8, w16, w32, w64}
use Rattle.craq_commands.specs.Kept.{Window}
use Rattle.craq_commands.specs.declared.state.State.{State}
use Rattle.craq_model.specs.declared.message.Body.{Body}
use Rattle.craq_model.specs.declared.message.Body.TheVariants as bodies
use Rattle.craq_model.specs.declared.message.LinkMessage.{LinkMessage}
use Rattle.craq_model.specs.declared.message.StatePart.{StatePart}
use Rattle.craq_wire.specs.NumberReading.{◌>>=◌, number_at}
use Rattle.craq_wire.specs.PartReading.{key_at, value_at, pair_at, counted_at, mapped}
use Rattle.craq_wire.specs.EntryReading.{entry_at, window_at}
use Rattle.craq_wire.specs.Encoding.{wire_version}

-- the state with these lists
abbrev pub state_of : List (List ℕ × (ℕ × List ℕ)) × List (ℕ × Window) → State
state_of x = record { objects = x.0; kept = x.1 }

-- the objects of a state, then its clients
unfoldable pub state_at : List ℕ → Option (State × List ℕ)
state_at bytes =
    mapped state_of (pair_at (counted_at w32 (pair_at key_at (pair_at (number_at w64) value_at))) (counted_at w32 (pair_at (number_at w64) window_at)) bytes)

-- the part with these fields
abbrev pub part_of : ℕ × (ℕ × (ℕ × State)) → StatePart
part_of x = record { position = x.0; number = x.1.0; count = x.1.1.0; state = x.1.1.1 }

-- a position, a number, a count, and a state
unfoldable pub part_at : List ℕ → Option (StatePart × List ℕ)
part_at bytes = mapped part_of (pair_at (number_at w64) (pair_at (number_at w32) (pair_at (number_at w32) state_at)) bytes)

-- a body of this kind
unfoldable pub body_at : ℕ → List ℕ → Option (Body × List ℕ)
body_at kind bytes =
    if kind == 1 then mapped bodies.Config (counted_at w8 (number_at w32) bytes)
    else if kind == 2 then mapped bodies.Entry (entry_at bytes)
    else if kind == 3 then mapped bodies.Ack (number_at w64 bytes)
    else if kind == 4 then mapped (λ (x : ℕ × List ℕ). bodies.Query x.0 x.1) (pair_at (number_at w64) key_at bytes)
    else if kind == 5 then mapped (λ (x : ℕ × ℕ). bodies.VersionIs x.0 x.1) (pair_at (number_at w64) (number_at w64) bytes)
    else if kind == 6 then mapped bodies.Blank (number_at w64 bytes)
    else if kind == 7 then mapped (λ (x : ℕ × State). bodies.Copy x.0 x.1) (pair_at (number_at w64) state_at bytes)
    else if kind == 8 then mapped bodies.Floor (number_at w64 bytes)
    else if kind == 9 then mapped bodies.Part (part_at bytes)
    else if kind == 10 then mapped bodies.Batch (counted_at w8 entry_at bytes)
    else None

-- the fields before a message's body
pub record Header : Type 0 where
  pub version : ℕ
  pub kind : ℕ
  pub chain : ℕ
  pub sender : ℕ
  pub receiver : ℕ
  pub stamp : ℕ
  pub index : ℕ
  pub epoch : ℕ

-- the header with these fields
abbrev pub header_of : ℕ × (ℕ × (ℕ × (ℕ × (ℕ × (ℕ × (ℕ × ℕ)))))) → Header
header_of x = record { version = x.0; kind = x.1.0; chain = x.1.1.0; sender = x.1.1.1.0; receiver = x.1.1.1.1.0; stamp = x.1.1.1.1.1.0; index = x.1.1.1.1.1.1.0; epoch = x.1.1.1.1.1.1.1 }

-- the fields of a header, in order
unfoldable pub header_at : List ℕ → Option (Header × List ℕ)
header_at bytes =
    mapped header_of (pair_at (number_at w8) (pair_at (number_at w8) (pair_at (number_at w16) (pair_at (number_at w32)
    (pair_at (number_at w32) (pair_at (number_at w64) (pair_at (number_at w32) (number_at w64))))))) bytes)

-- the message with this header and this body
abbrev pub message_of : Header → Body → LinkMessage
message_of h body =
    record { chain = h.chain; sender = h.sender; receiver = h.receiver; stamp = h.stamp; index = h.index; epoch = h.epoch; body = body }

-- a header of this version, and a body of its kind
unfoldable pub message_at : List ℕ → Option (LinkMessage × List ℕ)
message_at bytes = do
  h ← header_at bytes
  if h.0.version == wire_version then mapped (message_of h.0) (body_at h.0.kind h.1) else None

-- all of the bytes are one message
unfoldable pub all_of : List ℕ → Option LinkMessage
all_of bytes = do
  m ← message_at bytes
  if length m.1 == 0 then Some m.0 else None
