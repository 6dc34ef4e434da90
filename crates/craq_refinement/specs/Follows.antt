-- The relation between a world of the protocol and the chain for which it stands.
use Rattle.std.specs.Prelude.{◌≡◌, ℕ, suc, ◌≤◌, Bool, T, List, [], ◌∷◌, ◌++◌, map, length, Option, Some, None}
use Rattle.std.specs.List.{AllByRecursion}
use Rattle.std.specs.Ordering.{nat_cmp}
use Rattle.std.specs.FinMap.Entries.{is_sorted}
use Rattle.craq_commands.specs.declared.entry.Entry.{Entry}
use Rattle.craq_commands.specs.declared.state.State.{State}
use Rattle.craq_commands.specs.SingleCopy.{opening_state, after_entries}
use Rattle.craq_model.specs.declared.message.Body.{Body}
use Rattle.craq_model.specs.declared.message.Body.TheVariants as bodies
use Rattle.craq_model.specs.declared.message.LinkMessage.{LinkMessage}
use Rattle.craq_model.specs.declared.message.StatePart.{StatePart}
use Rattle.craq_model.specs.declared.gathering.Gathering.{Gathering}
use Rattle.craq_model.specs.Past.{Past}
use Rattle.craq_model.specs.Parts.{part_of}
use Rattle.craq_model.specs.Plain.{Plain, id_of}
use Rattle.craq_protocol.specs.Machine as machine
use Rattle.craq_protocol.specs.Machine.{MachineState, Message, known_membership, current_membership}
use Rattle.craq_protocol.specs.Members.{membership_of}
use Rattle.craq_protocol.specs.Promises.{Sent}
use Rattle.craq_runs.specs.Chain.{Chain, node_at}

-- the entries are at their positions, after this number of others
abbrev pub IsPlaced : ℕ → List Entry → Type 0
IsPlaced count [] = Unit {0}
IsPlaced count (e ∷ es) = (e.position ≡ suc count) × IsPlaced (suc count) es

-- a base, the state after it and the entries that follow represent a whole history
pub record IsHistory (base : ℕ) (state : State) (entries history : List Entry) : Type 0 where
  pub front : List Entry
  pub whole : front ++ entries ≡ history
  pub count : length front ≡ base
  pub after : after_entries opening_state front ≡ state

-- a message of the world
abbrev pub said : ℕ → ℕ → ℕ → machine.MachineBody Entry → Message Entry
said epoch from to body = record { epoch = epoch; from = from; to = to; body = body }

-- a part stands for a copy that was sent: it is the share of its number of the state after the
-- copy's entries
pub record PartFollows (messages : List (Message Entry)) (epoch from to : ℕ) (part : StatePart) : Type 0 where
  pub entries : List Entry
  pub count : length entries ≡ part.position
  pub placed : IsPlaced 0 entries
  pub first : 1 ≤ part.number
  pub last : part.number ≤ part.count
  pub share : part_of part.position (after_entries opening_state entries) part.number ≡ part
  pub sent : Sent messages (said epoch from to (machine.Copy entries))

-- a part stands for a copy that was sent in some epoch and between some nodes
abbrev pub PartWasSent : List (Message Entry) → StatePart → Type 0
PartWasSent messages part = (epoch : ℕ) × (from : ℕ) × (to : ℕ) × PartFollows messages epoch from to part

-- a part that a node holds, with its number
abbrev pub held_part : Gathering → ℕ × State → StatePart
held_part g held = record { position = g.position; number = held.0; count = g.count; state = held.1 }

-- each part that a node gathers was sent
pub record IsGathered (messages : List (Message Entry)) (g : Gathering) : Type 0 where
  pub numbers_rise : T (is_sorted nat_cmp g.parts)
  pub parts : AllByRecursion (λ (held : ℕ × State). PartWasSent messages (held_part g held)) g.parts

-- each part of the gathering, if there is one, was sent
abbrev pub AreGathered : List (Message Entry) → Option Gathering → Type 0
AreGathered messages None = Unit {0}
AreGathered messages (Some g) = IsGathered messages g

-- the fields of a node that the protocol sees, and its gathering
pub record ProtocolView : Type 0 where
  pub id : ℕ
  pub running : Bool
  pub epoch : ℕ
  pub members : List ℕ
  pub ready : Bool
  pub past : Past
  pub floor : Option ℕ
  pub gathering : Option Gathering

-- the fields of this node that the protocol sees, and its gathering
abbrev pub seen_of : Plain → ProtocolView
seen_of p =
    record {
      id = id_of p;
      running = p.running;
      epoch = p.epoch;
      members = p.members;
      ready = p.ready;
      past = p.past;
      floor = p.floor;
      gathering = p.gathering;
    }

-- the world agrees with the node at its id; the entries that the node knows only by their state it
-- knows to be committed
pub record NodeFollows (w : MachineState Entry) (s : ProtocolView) : Type 0 where
  pub running : w.running s.id ≡ s.running
  pub epoch : w.epoch s.id ≡ s.epoch
  pub members : known_membership w s.id ≡ s.members
  pub ready : w.ready s.id ≡ s.ready
  pub history : IsHistory s.past.base s.past.base_state s.past.entries (w.history s.id)
  pub placed : IsPlaced 0 (w.history s.id)
  pub acknowledged : w.acknowledged s.id ≡ s.past.acknowledged
  pub based : s.past.base ≤ s.past.acknowledged
  pub floor : w.floor s.id ≡ s.floor
  pub gathering : AreGathered w.messages s.gathering

-- the content of a chain's message was sent in the world: a state stands for the entries before it
abbrev pub BodyFollows : List (List ℕ) → List (Message Entry) → ℕ → ℕ → ℕ → Body → Type 0
BodyFollows memberships messages epoch from to (bodies.Config members) = (epoch ≤ length memberships) × (membership_of memberships epoch ≡ members)
BodyFollows memberships messages epoch from to (bodies.Entry e) = Sent messages (said epoch from to (machine.Entry e.position e))
BodyFollows memberships messages epoch from to (bodies.Batch es) =
    (before : ℕ) × IsPlaced before es × AllByRecursion (λ (e : Entry). Sent messages (said epoch from to (machine.Entry e.position e))) es
BodyFollows memberships messages epoch from to (bodies.Ack position) = Sent messages (said epoch from to (machine.Ack position))
BodyFollows memberships messages epoch from to (bodies.Copy position state) =
    (entries : List Entry) × (length entries ≡ position) × (after_entries opening_state entries ≡ state)
    × IsPlaced 0 entries × Sent messages (said epoch from to (machine.Copy entries))
BodyFollows memberships messages epoch from to (bodies.Part part) = PartFollows messages epoch from to part
BodyFollows memberships messages epoch from to (bodies.Floor count) = Sent messages (said epoch from to (machine.Floor count))
BodyFollows memberships messages epoch from to body = Unit {0}

-- the content of the message was sent in the world
abbrev pub MessageFollows : List (List ℕ) → List (Message Entry) → LinkMessage → Type 0
MessageFollows memberships messages m = BodyFollows memberships messages m.epoch m.sender m.receiver m.body

-- the world stands for the chain: the same master, the same nodes, and each message was sent
pub record Follows (c : Chain) (w : MachineState Entry) : Type 0 where
  pub epoch : length w.memberships ≡ c.epoch
  pub members : current_membership w ≡ c.members
  pub joined : w.joined ≡ map id_of c.nodes
  pub nodes : (id : ℕ) (p : Plain) → node_at c.nodes id ≡ Some p → NodeFollows w (seen_of p)
  pub messages : AllByRecursion (MessageFollows w.memberships w.messages) c.messages
