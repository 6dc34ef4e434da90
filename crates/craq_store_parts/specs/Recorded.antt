-- A node whose steps are in a store's history, and the calls that it accepted and answered there.
use Rattle.std.specs.Prelude.{◌≡◌, ◌≢◌, ℕ, Bool, false, List, [], ◌∷◌, ◌++◌, map, Contains, Option, Some, None, IfSome}
use Rattle.std.specs.List.{AllByRecursion}
use Rattle.std.specs.declared.snapshot.Snapshot.{Snapshot}
use mathlib.Core.List.{IsPrefix}
use Rattle.craq_names.specs.declared.name.NodeName.{NodeName}
use Rattle.craq_model.specs.declared.ask.Answer.{Answer}
use Rattle.craq_model.specs.declared.ask.Event.{Event}
use Rattle.craq_model.specs.declared.step.Out.TheVariants as outs
use Rattle.craq_model.specs.declared.step.Step.{Step}
use Rattle.craq_model.specs.Plain.{Plain, opening_joined}
use Rattle.craq_epochs.specs.Mastered.{Mastered, opened_master}
use Rattle.craq_seat.specs.declared.calls.Call.{Call}
use Rattle.craq_seat.specs.declared.journal.BookEvent.{BookEvent}
use Rattle.craq_seat.specs.declared.journal.BookEvent.TheVariants as books
use Rattle.craq_seat.specs.declared.journal.Receipt.{Receipt}
use Rattle.craq_seat.specs.declared.journal.Record.{Record}
use Rattle.craq_seat.specs.Books.{book_opening, members_of}
use Rattle.craq_seat.specs.Calls.{Called, Desked}
use Rattle.craq_seat.specs.Cells.{Celled, opened, receipt_of}
use Rattle.craq_seat.specs.Merge.{MergedStep, book_line, node_line}
use Rattle.craq_causality.specs.Authors.{first_of, lines_of}
use Rattle.craq_causality.specs.Causal.{HasJoined, HasStopped, IsOfSent}
use Rattle.craq_ghost_history.specs.declared.author.Author.TheVariants.{Node}
use Rattle.craq_ghost_history.specs.Histories.{Written}
use Rattle.craq_store_history.specs.declared.entry.CallId.{CallId}
use Rattle.craq_store_history.specs.declared.entry.HistoryEntry.{HistoryEntry}
use Rattle.craq_store_history.specs.declared.entry.HistoryEntry.TheVariants.{NodeStep}
use Rattle.craq_store_history.specs.Chains.{Accepts}
use Rattle.craq_store_history.specs.Entries.{lines_in, members_in}
use Rattle.craq_store_history.specs.Steps.{IsMasterAt, IsNodeAt}

-- in one of these lines the node took this step, under this stamp
pub record HasStep (lines : List MergedStep) (id stamp : ℕ) (taken : Step) : Type 0 where
  pub line : MergedStep
  pub there : Contains lines line
  pub node : line.node ≡ id
  pub under : line.stamp ≡ stamp
  pub step : line.step ≡ taken

-- a node's journal, if it keeps one, has the node's lines among these
abbrev pub AreLinesOf : List MergedStep → ℕ → Option (List (Record Event)) → Type 0
AreLinesOf lines id journal = IfSome journal (λ (rs : List (Record Event)). lines_of id lines ≡ map (node_line id) rs)

-- so has a master's journal
abbrev pub AreMasterLines : List MergedStep → Option (List (Record BookEvent)) → Type 0
AreMasterLines lines journal = IfSome journal (λ (rs : List (Record BookEvent)). lines_of 0 lines ≡ map book_line rs)

-- the journal of a node's cell has the node's lines in this history
abbrev pub HasLinesIn : {C : Type 0} → List HistoryEntry → Celled C Event → Type 0
HasLinesIn log cell = AreLinesOf (lines_in cell.opening.name.chain log) cell.opening.name.node cell.journal

-- it had them in a history with which this one begins
abbrev pub HadLinesIn : {C : Type 0} → List HistoryEntry → Celled C Event → Type 0
HadLinesIn log cell = (before : List HistoryEntry) × IsPrefix before log × HasLinesIn before cell

-- the journal of a master's cell has the master's lines in this history
abbrev pub BookHasLinesIn : List HistoryEntry → Celled Mastered BookEvent → Type 0
BookHasLinesIn log book = AreMasterLines (lines_in book.opening.name.chain log) book.journal

-- it had them in a history with which this one begins
abbrev pub BookHadLinesIn : List HistoryEntry → Celled Mastered BookEvent → Type 0
BookHadLinesIn log book = (before : List HistoryEntry) × IsPrefix before log × BookHasLinesIn before book

-- the desk's node is the replay of its entries in the history, of which the writer knows all; its last step is among them, and it is a
-- stop if the node does not run. Its journal has these entries
pub record IsRecorded {C : Type 0} (represents : C → Plain → Type 0) (d : Desked C) (w : Written HistoryEntry) : Type 0 where
  pub author : w.author ≡ Node d.cell.opening.name.chain d.cell.opening.name.node
  pub node : Plain
  pub stands : represents d.cell.inside node
  pub at : IsNodeAt d.cell.opening.name w.seen node d.cell.stamp
  pub last : IfSome d.cell.last (λ (step : Step). HasStep (lines_in d.cell.opening.name.chain w.seen) d.cell.opening.name.node d.cell.stamp step)
  pub stopped : node.running ≡ false → HasStopped (lines_in d.cell.opening.name.chain w.seen) d.cell.opening.name (receipt_of d.cell)
  pub journal : HasLinesIn w.seen d.cell

-- a node may begin after this history: its chain was opened, the node is a first member or has joined, and its cell took no step
pub record CanBegin {C : Type 0} (represents : C → Plain → Type 0) (log : List HistoryEntry) (cell : Celled C Event) : Type 0 where
  pub members : List ℕ
  pub opened : members_in cell.opening.name.chain log ≡ Some members
  pub member : cell.opening.name.node ≢ 0
  pub joined : HasJoined members (lines_in cell.opening.name.chain log) cell.opening.name.node
  pub first : represents cell.inside (first_of cell.opening.name.chain members cell.opening.name.node)
  pub unmoved : cell.last ≡ None
  pub empty : IfSome cell.journal (λ (rs : List (Record Event)). rs ≡ [])

-- in this history the master of the chain took a step on this event
abbrev pub HasOrdered : List HistoryEntry → ℕ → BookEvent → Type 0
HasOrdered log chain event = (r : Record BookEvent) × Contains (lines_in chain log) (book_line r) × (r.event ≡ event)

-- in this history the master of the node's chain let the node join
abbrev pub HasLetJoin : List HistoryEntry → NodeName → Type 0
HasLetJoin log name = HasOrdered log name.chain (books.Join name.node)

-- the cell of a node of this name that is no first member, and that took no step
pub record IsUnjoined {C : Type 0} (represents : C → Plain → Type 0) (name : NodeName) (cell : Celled C Event) : Type 0 where
  pub named : cell.opening.name ≡ name
  pub member : name.node ≢ 0
  pub first : represents cell.inside (opening_joined name)
  pub unmoved : cell.last ≡ None
  pub empty : IfSome cell.journal (λ (rs : List (Record Event)). rs ≡ [])

-- the master is the replay of its entries in the history, of which the writer knows all; its last step is among them. Its journal has
-- these entries
pub record IsRecordedBook (b : Celled Mastered BookEvent) (w : Written HistoryEntry) : Type 0 where
  pub author : w.author ≡ Node b.opening.name.chain 0
  pub zero : b.opening.name.node ≡ 0
  pub at : IsMasterAt b.opening.name.chain w.seen b.inside b.stamp
  pub last : IfSome b.last (λ (step : Step). HasStep (lines_in b.opening.name.chain w.seen) b.opening.name.node b.stamp step)
  pub journal : BookHasLinesIn w.seen b
  pub first : members_in b.opening.name.chain w.seen ≡ Some (members_of b.opening.config)

-- a master's cell as it was opened, before any step
abbrev pub IsUnmoved : Celled Mastered BookEvent → Type 0
IsUnmoved b = (chain : ℕ) × (members : List ℕ) × (journal : Bool) × (b ≡ opened (book_opening chain members) journal (opened_master chain members))

-- the event may happen at the node after this history: its message was sent, and its call was made
pub record MayHappen (log : List HistoryEntry) (name : NodeName) (event : Event) (call : Option CallId) : Type 0 where
  pub sent : IsOfSent (lines_in name.chain log) event
  pub called : Accepts log name event call

-- in this history the node took this step on this event; it accepted the call, if there is one
abbrev pub HasTaken : List HistoryEntry → NodeName → ℕ → Event → ℕ → Step → Option CallId → Type 0
HasTaken log name stamp event pass step call =
    (e : Snapshot Event) × (s : Snapshot Step) × Contains log (NodeStep name stamp e pass s call) × (e.value ≡ event) × (s.value ≡ step)

-- in this history the entry stands after all of `old`
abbrev pub StandsAfter : List HistoryEntry → List HistoryEntry → HistoryEntry → Type 0
StandsAfter old log e = (before : List HistoryEntry) × IsPrefix old before × IsPrefix (before ++ e ∷ []) log

-- in this history, after all of `old`, the node took this step on this event; it accepted the call, if there is one
abbrev pub HasTakenAfter : List HistoryEntry → List HistoryEntry → NodeName → ℕ → Event → ℕ → Step → Option CallId → Type 0
HasTakenAfter old log name stamp event pass step call =
    (e : Snapshot Event) × (s : Snapshot Step) × StandsAfter old log (NodeStep name stamp e pass s call) × (e.value ≡ event) × (s.value ≡ step)

-- in this history the node accepted the call under the ticket, in the step of this stamp, which came with this pass
pub record WasAccepted (log : List HistoryEntry) (name : NodeName) (call : CallId) (ticket stamp pass : ℕ) : Type 0 where
  pub event : Event
  pub step : Step
  pub taken : HasTaken log name stamp event pass step (Some call)
  pub under : step.ticket ≡ Some ticket

-- in this history the node accepted the call as its receipt says: under its ticket and stamp, with its pass
abbrev pub HasAccepted : List HistoryEntry → NodeName → CallId → Call → Type 0
HasAccepted log name call c = WasAccepted log name call c.ticket c.asked.stamp c.pass

-- in this history the node gave the answer under the ticket, in the step of this stamp
pub record HasAnswered (log : List HistoryEntry) (name : NodeName) (ticket stamp : ℕ) (answer : Answer) : Type 0 where
  pub event : Event
  pub pass : ℕ
  pub step : Step
  pub accepted : Option CallId
  pub taken : HasTaken log name stamp event pass step accepted
  pub out : Contains step.outs (outs.Answer ticket answer)

-- in this history the node gave the reply of a receipt
abbrev pub HasReplied : List HistoryEntry → NodeName → Called → Type 0
HasReplied log name c = HasAnswered log name c.call.ticket c.answered.stamp c.answer

-- so it did for each of these receipts
abbrev pub HaveReplied : List HistoryEntry → NodeName → List Called → Type 0
HaveReplied log name receipts = AllByRecursion (HasReplied log name) receipts

-- the view that contracts have of a call that a node accepted: its ticket, and the stamp and the pass of the step
pub record Accepted : Type 0 where
  pub call : CallId
  pub name : NodeName
  pub ticket : ℕ
  pub stamp : ℕ
  pub pass : ℕ

-- the call that the step of this stamp accepts under this ticket, if there are both
abbrev pub accepted_under : NodeName → ℕ → ℕ → Option CallId → Option ℕ → Option Accepted
accepted_under name stamp pass None ticket = None
accepted_under name stamp pass (Some call) None = None
accepted_under name stamp pass (Some call) (Some ticket) = Some (record { call = call; name = name; ticket = ticket; stamp = stamp; pass = pass })

-- the view that contracts have of a node that stopped: its name, and the step in which it did
pub record Stopping : Type 0 where
  pub stopped : NodeName
  pub stop : Receipt
