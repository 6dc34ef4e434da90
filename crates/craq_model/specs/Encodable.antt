-- The messages that have an encoding, beyond the ranges of their types.
use Rattle.std.specs.Prelude.{◌≡◌, ◌<◌, ◌≤◌, ⊤, ℕ, ◌+◌, T, List, [], ◌∷◌, map, length}
use Rattle.std.specs.List.{AllByRecursion, IsDistinct}
use Rattle.std.specs.Ordering.{nat_cmp}
use Rattle.std.specs.FinMap.Entries.{is_sorted}
use Rattle.craq_names.specs.Limits.{item_limit, greatest_count, window_limit, part_limit, batch_limit}
use Rattle.craq_names.specs.Maps.{same_bytes, key_cmp}
use Rattle.craq_commands.specs.declared.entry.Entry.{Entry}
use Rattle.craq_commands.specs.declared.entry.Write.{Write}
use Rattle.craq_commands.specs.declared.reply.Reply.{Reply}
use Rattle.craq_commands.specs.declared.reply.Reply.TheVariants.{Written, Mismatch, TooLong, NotANumber, Overflow, Underflow, Done, CompareFailed, Stale}
use Rattle.craq_commands.specs.Kept.{Kept, Window}
use Rattle.craq_commands.specs.declared.state.State.{State}
use Rattle.craq_model.specs.declared.message.Body.{Body}
use Rattle.craq_model.specs.declared.message.Body.TheVariants as bodies
use Rattle.craq_model.specs.declared.message.LinkMessage.{LinkMessage}
use Rattle.craq_model.specs.declared.message.StatePart.{StatePart}
use Rattle.craq_model.specs.Members.{IsMembership}
use Rattle.craq_model.specs.Parts.{item_count}

-- an object's version and value: an absent object has no bytes
abbrev pub IsObjectRead : ℕ × List ℕ → Type 0
IsObjectRead object = object.0 ≡ 0 → object.1 ≡ []

-- facts about any reply to a client
abbrev pub IsReply : Reply → Type 0
IsReply (Written version) = 1 ≤ version
IsReply (Mismatch version) = ⊤
IsReply TooLong = ⊤
IsReply NotANumber = ⊤
IsReply Overflow = ⊤
IsReply Underflow = ⊤
IsReply (Done objects) = (length objects ≤ item_limit) × AllByRecursion IsObjectRead objects
IsReply (CompareFailed place) = place < item_limit
IsReply (Stale last) = ⊤

-- facts about the reply to a new update
abbrev pub IsNotStale : Reply → Type 0
IsNotStale (Written version) = ⊤
IsNotStale (Mismatch version) = ⊤
IsNotStale TooLong = ⊤
IsNotStale NotANumber = ⊤
IsNotStale Overflow = ⊤
IsNotStale Underflow = ⊤
IsNotStale (Done objects) = ⊤
IsNotStale (CompareFailed place) = ⊤
IsNotStale (Stale last) = ⊥

-- an entry with an encoding: no key is written twice
pub record IsEncodableEntry (e : Entry) : Type 0 where
  pub position : 1 ≤ e.position
  pub origin_node : 1 ≤ e.origin_node
  pub origin_ticket : 1 ≤ e.origin_ticket
  pub reply : IsReply e.reply
  pub not_stale : IsNotStale e.reply
  pub few : length e.writes ≤ item_limit
  pub versions : AllByRecursion (λ (w : Write). 1 ≤ w.version) e.writes
  pub once : IsDistinct same_bytes (map (λ (w : Write). w.key) e.writes)

-- a client's window with an encoding: 1 to 8 replies, by rising number
pub record IsEncodableWindow (w : Window) : Type 0 where
  pub some : 1 ≤ length w
  pub few : length w ≤ window_limit
  pub replies : AllByRecursion (λ (k : Kept). IsReply k.1 × IsNotStale k.1) w
  pub numbers_rise : T (is_sorted nat_cmp w)

-- a state with an encoding: its keys and clients are strictly increasing
pub record IsEncodableState (s : State) : Type 0 where
  pub few_objects : length s.objects ≤ greatest_count
  pub few_kept : length s.kept ≤ greatest_count
  pub versions : AllByRecursion (λ (o : List ℕ × (ℕ × List ℕ)). 1 ≤ o.1.0) s.objects
  pub windows : AllByRecursion (λ (k : ℕ × Window). IsEncodableWindow k.1) s.kept
  pub keys_rise : T (is_sorted key_cmp s.objects)
  pub clients_rise : T (is_sorted nat_cmp s.kept)

-- a part with an encoding: 64 items, or 1 to 64 in the last part
pub record IsEncodablePart (part : StatePart) : Type 0 where
  pub position : 1 ≤ part.position
  pub from : 1 ≤ part.number
  pub to : part.number ≤ part.count
  pub several : 2 ≤ part.count
  pub some : 1 ≤ item_count part.state
  pub few : item_count part.state ≤ part_limit
  pub whole : part.number < part.count → item_count part.state ≡ part_limit
  pub state : IsEncodableState part.state

-- each position is one above the position before it
abbrev pub IsConsecutive : List Entry → Type 0
IsConsecutive [] = ⊤
IsConsecutive (e ∷ []) = ⊤
IsConsecutive (e ∷ f ∷ es) = (f.position ≡ e.position + 1) × IsConsecutive (f ∷ es)

-- a batch with an encoding: 2 to 16 consecutive entries
pub record IsEncodableBatch (es : List Entry) : Type 0 where
  pub several : 2 ≤ length es
  pub few : length es ≤ batch_limit
  pub entries : AllByRecursion IsEncodableEntry es
  pub consecutive : IsConsecutive es

-- the message's content has an encoding
abbrev pub IsEncodableBody : Body → Type 0
IsEncodableBody (bodies.Config members) = IsMembership members
IsEncodableBody (bodies.Entry e) = IsEncodableEntry e
IsEncodableBody (bodies.Ack position) = ⊤
IsEncodableBody (bodies.Query ticket key) = 1 ≤ ticket
IsEncodableBody (bodies.VersionIs ticket version) = 1 ≤ ticket
IsEncodableBody (bodies.Blank count) = ⊤
IsEncodableBody (bodies.Copy position state) = (1 ≤ position) × IsEncodableState state
IsEncodableBody (bodies.Part part) = IsEncodablePart part
IsEncodableBody (bodies.Batch es) = IsEncodableBatch es
IsEncodableBody (bodies.Floor count) = ⊤

-- memberships come from the master, node 0, and all other messages from nodes
abbrev pub IsFromItsSender : ℕ → Body → Type 0
IsFromItsSender sender (bodies.Config members) = sender ≡ 0
IsFromItsSender sender (bodies.Entry e) = 1 ≤ sender
IsFromItsSender sender (bodies.Ack position) = 1 ≤ sender
IsFromItsSender sender (bodies.Query ticket key) = 1 ≤ sender
IsFromItsSender sender (bodies.VersionIs ticket version) = 1 ≤ sender
IsFromItsSender sender (bodies.Blank count) = 1 ≤ sender
IsFromItsSender sender (bodies.Copy position state) = 1 ≤ sender
IsFromItsSender sender (bodies.Part part) = 1 ≤ sender
IsFromItsSender sender (bodies.Batch es) = 1 ≤ sender
IsFromItsSender sender (bodies.Floor count) = 1 ≤ sender

-- the message has an encoding
pub record IsEncodable (m : LinkMessage) : Type 0 where
  pub sender : IsFromItsSender m.sender m.body
  pub receiver : 1 ≤ m.receiver
  pub stamp : 1 ≤ m.stamp
  pub epoch : 1 ≤ m.epoch
  pub body : IsEncodableBody m.body
