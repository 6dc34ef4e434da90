-- The lookups in journals.
use Rattle.std.specs.Prelude.{◌≡◌, ◌<◌, ◌⊎◌, ℕ, ⊤, List, [], ◌∷◌, ◌++◌, map, take, IsSome, Option, None, Some, slice_get, Contains}
use Rattle.std.specs.List.{AllByRecursion}
use Rattle.std.specs.Borrow.{Bor}
use Rattle.craq_model.specs.declared.ask.Event.{Event}
use Rattle.craq_model.specs.declared.ask.Event.TheVariants as events
use Rattle.craq_model.specs.declared.message.LinkMessage.{LinkMessage}
use Rattle.craq_model.specs.declared.step.Out.{Out}
use Rattle.craq_model.specs.declared.step.Step.{Step}
use Rattle.craq_model.specs.Plain.{Plain}
use Rattle.craq_runs.specs.Chain.{sent_in}
use Rattle.craq_seat.specs.declared.journal.BookEvent.{BookEvent}
use Rattle.craq_seat.specs.declared.journal.BookEvent.TheVariants as books
use Rattle.craq_seat.specs.declared.journal.Receipt.{Receipt}
use Rattle.craq_seat.specs.declared.journal.Record.{Record}
use Rattle.craq_seat.specs.Audits.{HasSender, IsAnswered, IsAsked, id_of}
use Rattle.craq_seat.specs.Calls.{Called}
use Rattle.craq_seat.specs.Cells.{Celled}
use Rattle.craq_seat.specs.Journal.{RisesTo}
use Rattle.craq_seat.specs.Kept.{IsKept}
use Rattle.craq_seat.specs.Merge.{Journals, MergedStep, node_line}
use Rattle.craq_seat.specs.Numbered.{named, numbered_from}
use Rattle.craq_audit.specs.Journals.{records_in}

-- the cells behind references
abbrev pub cells_of : {C : Type 0} → List (Bor (Celled C Event)) → List (Celled C Event)
cells_of {C} refs = map (λ (c : Bor (Celled C Event)). c.now) refs

-- the cell keeps a journal
abbrev pub KeepsJournal : {C : Type 0} → Bor (Celled C Event) → Type 0
KeepsJournal c = IsSome c.now.journal

-- the cell keeps the invariants of its type
abbrev pub KeepsType : {C : Type 0} → (C → Plain → Type 0) → Bor (Celled C Event) → Type 0
KeepsType represents c = IsKept represents c.now

-- the cell is that of this node
abbrev pub IsCellOf : {C : Type 0} → ℕ → Bor (Celled C Event) → Type 0
IsCellOf id c = id_of c.now ≡ id

-- one of the items has the property
abbrev pub Found : {X : Type 0} → (X → Type 0) → List X → Type 0
Found P [] = ⊥
Found P (x ∷ xs) = P x ⊎ Found P xs

-- the stamps of records ascend
abbrev pub Rise : {E : Type 0} → List (Record E) → Type 0
Rise rs = (first : ℕ) × (last : ℕ) × RisesTo first rs last

-- the messages are equal up to the name of the sending
abbrev pub IsNamed : LinkMessage → LinkMessage → Type 0
IsNamed sent m = named (record { node = m.sender; stamp = m.stamp }) m.index sent ≡ m

-- the step sends the message under its index
abbrev pub IsSend : Step → LinkMessage → Type 0
IsSend step m = slice_get (numbered_from 0 (record { node = m.sender; stamp = m.stamp }) (sent_in step.outs)) m.index ≡ Some m

-- the records have the sending of a message
abbrev pub HaveSent : {E : Type 0} → List (Record E) → LinkMessage → Type 0
HaveSent {E} rs m = (r : Record E) × Contains rs r × (r.stamp ≡ m.stamp) × IsSend r.step m

-- the node's journal has the sending of a message
abbrev pub HasSent : {C : Type 0} → LinkMessage → Bor (Celled C Event) → Type 0
HasSent m c = (id_of c.now ≡ m.sender) × HaveSent (records_in c.now.journal) m

-- the records have the stop of a stamp
abbrev pub HaveStop : List (Record Event) → ℕ → Type 0
HaveStop rs stamp = (r : Record Event) × Contains rs r × (r.stamp ≡ stamp) × (r.event ≡ events.Stop)

-- the node's journal has the stop of a receipt
abbrev pub HasStop : {C : Type 0} → Receipt → Bor (Celled C Event) → Type 0
HasStop stop c = (id_of c.now ≡ stop.node) × HaveStop (records_in c.now.journal) stop.stamp

-- the node's journal has the request and the reply of a call
abbrev pub HasCall : {C : Type 0} → Called → Bor (Celled C Event) → Type 0
HasCall call c =
    (id_of c.now ≡ call.call.asked.node) × IsAsked (records_in c.now.journal) call.call
    × IsAnswered (records_in c.now.journal) call.answered.stamp call.call.ticket call.answer

-- a journal of these cells holds the call
abbrev pub HoldsCall : {C : Type 0} → List (Bor (Celled C Event)) → Called → Type 0
HoldsCall cells call = (call.answered.node ≡ call.call.asked.node) × Found (HasCall call) cells

-- a removal names a stop that a journal of these cells has
abbrev pub HoldsStop : {C : Type 0} → List (Bor (Celled C Event)) → BookEvent → Type 0
HoldsStop cells (books.Join id) = ⊤
HoldsStop cells (books.Remove stopped stop) = (stop.node ≡ stopped.node) × Found (HasStop stop) cells
HoldsStop cells books.Tick = ⊤

-- a record's removal, if it is one, names a stop that a journal of these cells has
abbrev pub BearsStop : {C : Type 0} → List (Bor (Celled C Event)) → Record BookEvent → Type 0
BearsStop cells r = HoldsStop cells r.event

-- the first item without the property, counted from 0
pub record IsFirstNot {X : Type 0} (P : X → Type 0) (xs : List X) (index : ℕ) : Type 0 where
  pub not_so : (x : X) × (slice_get xs index ≡ Some x) × ¬ P x
  pub earlier : AllByRecursion P (take index xs)

-- among these nodes, the first delivery of a message that was not sent: nodes ascending, then
-- journal index
pub record IsFirstOf (j : Journals) (nodes : List (ℕ × List (Record Event))) (node index : ℕ) : Type 0 where
  pub records : List (Record Event)
  pub journal : Contains nodes (node, records)
  pub first : IsFirstNot (HasSender j) records index
  pub lower : AllByRecursion (λ (n : ℕ × List (Record Event)). n.0 < node → AllByRecursion (HasSender j) n.1) nodes

-- the finding among these nodes so far: such a delivery, or all of their messages were sent
abbrev pub IsBest : Journals → List (ℕ × List (Record Event)) → Option (ℕ × ℕ) → Type 0
IsBest j nodes None = AllByRecursion (λ (n : ℕ × List (Record Event)). AllByRecursion (HasSender j) n.1) nodes
IsBest j nodes (Some f) = IsFirstOf j nodes f.0 f.1

-- it is this output
abbrev pub IsOut : Out → Out → Type 0
IsOut wanted out = out ≡ wanted

-- the lines of these cells
abbrev pub cell_lines : {C : Type 0} → List (Bor (Celled C Event)) → List MergedStep
cell_lines [] = []
cell_lines (c ∷ cs) = map (node_line (id_of c.now)) (records_in c.now.journal) ++ cell_lines cs
