-- Encoded messages on their way to nodes.
use Rattle.std.specs.Prelude.{◌≡◌, ◌<◌, ◌≤◌, ◌^◌, ◌++◌, ⊤, ℕ, Bool, false, nat_le, List, [], ◌∷◌, filter, length}
use Rattle.std.specs.List.{AllByRecursion, list_any}
use Rattle.craq_commands.specs.declared.entry.Entry.{Entry}
use Rattle.craq_model.specs.declared.message.Body.{Body}
use Rattle.craq_model.specs.declared.message.Body.TheVariants as bodies
use Rattle.craq_model.specs.declared.message.LinkMessage.{LinkMessage}
use Rattle.craq_model.specs.declared.step.Out.{Out}
use Rattle.craq_model.specs.declared.step.Out.TheVariants as outs
use Rattle.craq_model.specs.Encodable.{IsEncodable}
use Rattle.craq_wire.specs.Encoding.{Encodes}
use Rattle.craq_seat.specs.declared.journal.Receipt.{Receipt}
use Rattle.craq_seat.specs.Numbered.{named}
use Rattle.craq_store_history.specs.declared.entry.HistoryEntry.{HistoryEntry}
use Rattle.craq_store_history.specs.Entries.{lines_in}
use Rattle.craq_causality.specs.Causal.{WasSent}
use Rattle.craq_running_node.specs.declared.encoding.Kind.{Kind}
use Rattle.craq_running_node.specs.declared.encoding.Kind.TheVariants as kinds
use Rattle.craq_running_node.specs.declared.encoding.Sent.{Sent}

abbrev pub link_class : Body → Kind
link_class (bodies.Config members) = kinds.Other
link_class (bodies.Entry e) = kinds.Entry
link_class (bodies.Ack position) = kinds.Ack
link_class (bodies.Query ticket k) = kinds.Other
link_class (bodies.VersionIs ticket version) = kinds.Other
link_class (bodies.Blank count) = kinds.Blank
link_class (bodies.Copy position s) = kinds.Other
link_class (bodies.Floor count) = kinds.Other
link_class (bodies.Part p) = kinds.Other
link_class (bodies.Batch es) = kinds.Other

-- an out that sends a message of this kind
abbrev pub Sends : Kind → Out → Type 0
Sends kind (outs.Send to m) = link_class m.body ≡ kind
Sends kind (outs.Answer ticket answer) = ⊥

-- the outs of a step that does one thing: it sends a message of this kind
abbrev pub OnlySends : Kind → List Out → Type 0
OnlySends kind [] = ⊥
OnlySends kind (o ∷ []) = Sends kind o
OnlySends kind (o ∷ p ∷ os) = ⊥

-- the position up to which a message acknowledges all entries; 0 of one that acknowledges none
abbrev pub acknowledged : Body → ℕ
acknowledged (bodies.Config members) = 0
acknowledged (bodies.Entry e) = 0
acknowledged (bodies.Ack position) = position
acknowledged (bodies.Query ticket k) = 0
acknowledged (bodies.VersionIs ticket version) = 0
acknowledged (bodies.Blank count) = 0
acknowledged (bodies.Copy position s) = 0
acknowledged (bodies.Floor count) = 0
acknowledged (bodies.Part p) = 0
acknowledged (bodies.Batch es) = 0

-- the position of the entry that a message brings; 0 of a message that brings none, or several
abbrev pub entry_position : Body → ℕ
entry_position (bodies.Config members) = 0
entry_position (bodies.Entry e) = e.position
entry_position (bodies.Ack position) = 0
entry_position (bodies.Query ticket k) = 0
entry_position (bodies.VersionIs ticket version) = 0
entry_position (bodies.Blank count) = 0
entry_position (bodies.Copy position s) = 0
entry_position (bodies.Floor count) = 0
entry_position (bodies.Part p) = 0
entry_position (bodies.Batch es) = 0

-- the position of the entry that a step sends, if it sends one message and does nothing else
abbrev pub lone_position : List Out → ℕ
lone_position [] = 0
lone_position (outs.Send to m ∷ []) = entry_position m.body
lone_position (outs.Answer ticket answer ∷ []) = 0
lone_position (o ∷ p ∷ os) = 0

-- a message brings an entry of this position or a later one
abbrev pub brings_from : ℕ → Body → Bool
brings_from first (bodies.Config members) = false
brings_from first (bodies.Entry e) = nat_le first e.position
brings_from first (bodies.Ack position) = false
brings_from first (bodies.Query ticket k) = false
brings_from first (bodies.VersionIs ticket version) = false
brings_from first (bodies.Blank count) = false
brings_from first (bodies.Copy position s) = false
brings_from first (bodies.Floor count) = false
brings_from first (bodies.Part p) = false
brings_from first (bodies.Batch es) = list_any (λ (e : Entry). nat_le first e.position) es

-- those of some messages that bring an entry of this position or a later one, and no others
abbrev pub entries_from : ℕ → List LinkMessage → List LinkMessage
entries_from first ms = filter (λ (m : LinkMessage). brings_from first m.body) ms

-- an acknowledgement makes another one needless: it is of the same chain, between the same two nodes, under the same membership, and
-- acknowledges as much
pub record MakesNeedless (later earlier : LinkMessage) : Type 0 where
  pub chain : later.chain ≡ earlier.chain
  pub sender : later.sender ≡ earlier.sender
  pub receiver : later.receiver ≡ earlier.receiver
  pub epoch : later.epoch ≡ earlier.epoch
  pub as_much : acknowledged earlier.body ≤ acknowledged later.body

-- the bytes are those of the message, and go to its receiver
pub record IsSentAs (s : Sent) (m : LinkMessage) : Type 0 where
  pub to : s.to ≡ m.receiver
  pub kind : s.kind ≡ link_class m.body
  pub bytes : Encodes m s.bytes

-- the bytes of each message are those of the message, and go to its receiver, in order
abbrev pub AreSentAs : List Sent → List LinkMessage → Type 0
AreSentAs [] [] = ⊤
AreSentAs [] (m ∷ ms) = ⊥
AreSentAs (s ∷ ss) [] = ⊥
AreSentAs (s ∷ ss) (m ∷ ms) = IsSentAs s m × AreSentAs ss ms

-- the next output of a step that has sent n messages so far: its message, if it is one, can be encoded under the next index
abbrev pub CanAdd : Receipt → ℕ → Out → Type 0
CanAdd receipt n (outs.Send to m) = (n < 2 ^ 32) × IsEncodable (named receipt n m)
CanAdd receipt n (outs.Answer ticket answer) = ⊤

-- its message, if it is one, is the last that is sent
abbrev pub Adds : Receipt → List Sent → List Sent → Out → Type 0
Adds receipt old new (outs.Send to m) = (s : Sent) × (new ≡ old ++ s ∷ []) × IsSentAs s (named receipt (length old) m)
Adds receipt old new (outs.Answer ticket answer) = new ≡ old

-- in this history a node of the chain, or its master, sent a message that these bytes encode
pub record AreSentBytes (chain : ℕ) (bytes : List ℕ) (log : List HistoryEntry) : Type 0 where
  pub message : LinkMessage
  pub spelled : Encodes message bytes
  pub sent : WasSent (lines_in chain log) message

-- the view that contracts have of bytes on their way
pub record Wired : Type 0 where
  pub chain : ℕ
  pub bytes : List ℕ

-- in this history each of these messages was sent
abbrev pub AreWired : ℕ → List HistoryEntry → List Sent → Type 0
AreWired chain log sent = AllByRecursion (λ (s : Sent). AreSentBytes chain s.bytes log) sent

-- the view that contracts have of messages that leave a node of a chain, in order
pub record Leaving : Type 0 where
  pub chain : ℕ
  pub sent : List Sent

-- the first of these messages leaves as these bytes of its chain, and the others are left
abbrev pub IsOutgoing : Leaving → ℕ → Kind → Wired → Leaving → Type 0
IsOutgoing old to kind wire new =
    (old.sent ≡ record { to = to; kind = kind; bytes = wire.bytes } ∷ new.sent) × (wire.chain ≡ old.chain) × (new.chain ≡ old.chain)
