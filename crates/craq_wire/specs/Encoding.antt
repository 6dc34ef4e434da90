-- The encoding of messages.
use Rattle.std.specs.Prelude.{◌≡◌, ◌<◌, ◌^◌, ℕ, List, ◌++◌}
use Rattle.std.specs.Int.{w8, w16, w32, w64}
use Rattle.craq_commands.specs.Kept.{Window}
use Rattle.craq_commands.specs.declared.state.State.{State}
use Rattle.craq_model.specs.declared.message.Body.{Body}
use Rattle.craq_model.specs.declared.message.Body.TheVariants as bodies
use Rattle.craq_model.specs.declared.message.LinkMessage.{LinkMessage}
use Rattle.craq_model.specs.declared.message.StatePart.{StatePart}
use Rattle.craq_model.specs.Encodable.{IsEncodable}
use Rattle.craq_wire.specs.NumberEncoding.{number}
use Rattle.craq_wire.specs.PartEncoding.{key, value, pair, counted, IsKey, IsValue, IsPair, AreCounted}
use Rattle.craq_wire.specs.EntryEncoding.{entry, window, EntryFits, WindowFits}

-- a message: the version of the wire format, the kind of the body, the rest of the header, and the
-- body

-- the version of the wire format
abbrev pub wire_version : ℕ
wire_version = 2

-- the number of a body's kind
abbrev pub message_kind : Body → ℕ
message_kind (bodies.Config members) = 1
message_kind (bodies.Entry e) = 2
message_kind (bodies.Ack position) = 3
message_kind (bodies.Query ticket k) = 4
message_kind (bodies.VersionIs ticket version) = 5
message_kind (bodies.Blank count) = 6
message_kind (bodies.Copy position s) = 7
message_kind (bodies.Floor count) = 8
message_kind (bodies.Part p) = 9
message_kind (bodies.Batch es) = 10

-- an object of a state: its key, version and value
abbrev pub stored : List ℕ × (ℕ × List ℕ) → List ℕ
stored = pair key (pair (number w64) value)

-- a client of a state, and its kept replies
abbrev pub kept_window : ℕ × Window → List ℕ
kept_window = pair (number w64) window

-- the objects of a state, then its clients
abbrev pub state : State → List ℕ
state s = counted w32 stored s.objects ++ counted w32 kept_window s.kept

-- a part of a state: its position, its number, the number of parts, and its items
abbrev pub state_part : StatePart → List ℕ
state_part p = number w64 p.position ++ (number w32 p.number ++ (number w32 p.count ++ state p.state))

-- the bytes of a body
abbrev pub body_bytes : Body → List ℕ
body_bytes (bodies.Config members) = counted w8 (number w32) members
body_bytes (bodies.Entry e) = entry e
body_bytes (bodies.Ack position) = number w64 position
body_bytes (bodies.Query ticket k) = number w64 ticket ++ key k
body_bytes (bodies.VersionIs ticket version) = number w64 ticket ++ number w64 version
body_bytes (bodies.Blank count) = number w64 count
body_bytes (bodies.Copy position s) = number w64 position ++ state s
body_bytes (bodies.Floor count) = number w64 count
body_bytes (bodies.Part p) = state_part p
body_bytes (bodies.Batch es) = counted w8 entry es

-- the bytes before a message's body
abbrev pub header : LinkMessage → List ℕ
header m =
    number w8 wire_version ++ (number w8 (message_kind m.body) ++ (number w16 m.chain ++ (number w32 m.sender
    ++ (number w32 m.receiver ++ (number w64 m.stamp ++ (number w32 m.index ++ number w64 m.epoch))))))

-- a message: its header, and its body
unfoldable pub encoding_of : LinkMessage → List ℕ
encoding_of m = header m ++ body_bytes m.body

-- an object's key and value are of their kinds, and its version fits its width
abbrev pub StoredFits : List ℕ × (ℕ × List ℕ) → Type 0
StoredFits = IsPair IsKey (IsPair (λ version. version < 2 ^ 64) IsValue)

-- a client's id and its kept replies fit their widths
abbrev pub KeptFits : ℕ × Window → Type 0
KeptFits = IsPair (λ client. client < 2 ^ 64) WindowFits

-- each object and each client of a state fits its widths
pub record StateFits (s : State) : Type 0 where
  pub objects : AreCounted w32 StoredFits s.objects
  pub kept : AreCounted w32 KeptFits s.kept

-- each field of a part fits its width
pub record PartFits (p : StatePart) : Type 0 where
  pub position : p.position < 2 ^ 64
  pub number : p.number < 2 ^ 32
  pub count : p.count < 2 ^ 32
  pub state : StateFits p.state

-- each field of a body fits its width
abbrev pub BodyFits : Body → Type 0
BodyFits (bodies.Config members) = AreCounted w8 (λ id. id < 2 ^ 32) members
BodyFits (bodies.Entry e) = EntryFits e
BodyFits (bodies.Ack position) = position < 2 ^ 64
BodyFits (bodies.Query ticket k) = (ticket < 2 ^ 64) × IsKey k
BodyFits (bodies.VersionIs ticket version) = (ticket < 2 ^ 64) × (version < 2 ^ 64)
BodyFits (bodies.Blank count) = count < 2 ^ 64
BodyFits (bodies.Copy position s) = (position < 2 ^ 64) × StateFits s
BodyFits (bodies.Floor count) = count < 2 ^ 64
BodyFits (bodies.Part p) = PartFits p
BodyFits (bodies.Batch es) = AreCounted w8 EntryFits es

-- each field of a header fits its width
pub record HeaderFits (m : LinkMessage) : Type 0 where
  pub chain : m.chain < 2 ^ 16
  pub sender : m.sender < 2 ^ 32
  pub receiver : m.receiver < 2 ^ 32
  pub stamp : m.stamp < 2 ^ 64
  pub index : m.index < 2 ^ 32
  pub epoch : m.epoch < 2 ^ 64

-- each number and each count of the message fits its width
pub record MessageFits (m : LinkMessage) : Type 0 where
  pub header : HeaderFits m
  pub body : BodyFits m.body

-- the message with this sender, stamp and index instead of its own
abbrev pub renamed : LinkMessage → ℕ → ℕ → ℕ → LinkMessage
renamed m sender stamp index = record m { sender = sender; stamp = stamp; index = index }

-- these bytes encode the message
pub record Encodes (m : LinkMessage) (bytes : List ℕ) : Type 0 where
  pub fits : MessageFits m
  pub rules : IsEncodable m
  pub encoding : bytes ≡ encoding_of m
