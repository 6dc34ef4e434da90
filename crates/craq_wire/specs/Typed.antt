-- Messages as their type holds them: each number fits its width, each key and value has a length
-- that its type allows, and lists have any length.
use Rattle.std.specs.Prelude.{◌<◌, ◌^◌, ℕ}
use Rattle.std.specs.List.{AllByRecursion}
use Rattle.craq_commands.specs.Kept.{Window}
use Rattle.craq_commands.specs.declared.state.State.{State}
use Rattle.craq_model.specs.declared.message.Body.{Body}
use Rattle.craq_model.specs.declared.message.Body.TheVariants as bodies
use Rattle.craq_model.specs.declared.message.LinkMessage.{LinkMessage}
use Rattle.craq_model.specs.declared.message.StatePart.{StatePart}
use Rattle.craq_wire.specs.PartEncoding.{IsKey, IsPair}
use Rattle.craq_wire.specs.TypedEntries.{IsTypedEntry, IsTypedWindow}
use Rattle.craq_wire.specs.Encoding.{StoredFits, HeaderFits}

-- a client of a state, and its kept replies
abbrev pub IsTypedKept : ℕ × Window → Type 0
IsTypedKept = IsPair (λ client. client < 2 ^ 64) IsTypedWindow

-- the state is a value of its type
pub record IsTypedState (s : State) : Type 0 where
  pub objects : AllByRecursion StoredFits s.objects
  pub kept : AllByRecursion IsTypedKept s.kept

-- the part is a value of its type
pub record IsTypedPart (p : StatePart) : Type 0 where
  pub position : p.position < 2 ^ 64
  pub number : p.number < 2 ^ 32
  pub count : p.count < 2 ^ 32
  pub state : IsTypedState p.state

-- the body is a value of its type
abbrev pub IsTypedBody : Body → Type 0
IsTypedBody (bodies.Config members) = AllByRecursion (λ id. id < 2 ^ 32) members
IsTypedBody (bodies.Entry e) = IsTypedEntry e
IsTypedBody (bodies.Ack position) = position < 2 ^ 64
IsTypedBody (bodies.Query ticket k) = (ticket < 2 ^ 64) × IsKey k
IsTypedBody (bodies.VersionIs ticket version) = (ticket < 2 ^ 64) × (version < 2 ^ 64)
IsTypedBody (bodies.Blank count) = count < 2 ^ 64
IsTypedBody (bodies.Copy position s) = (position < 2 ^ 64) × IsTypedState s
IsTypedBody (bodies.Floor count) = count < 2 ^ 64
IsTypedBody (bodies.Part p) = IsTypedPart p
IsTypedBody (bodies.Batch es) = AllByRecursion IsTypedEntry es

-- the message is a value of its type
pub record IsTypedMessage (m : LinkMessage) : Type 0 where
  pub header : HeaderFits m
  pub body : IsTypedBody m.body
