-- The results that an audit of a chain's cells must return.
use Rattle.std.specs.Prelude.{◌≡◌, ◌<◌, ◌⊎◌, ℕ, ⊤, List, [], ◌∷◌, map, take, Some, None, slice_get, Contains, IsPermutation}
use Rattle.std.specs.List.{AllByRecursion}
use Rattle.craq_model.specs.declared.ask.Answer.{Answer}
use Rattle.craq_model.specs.declared.ask.Event.{Event}
use Rattle.craq_model.specs.declared.ask.Event.TheVariants as events
use Rattle.craq_model.specs.declared.message.LinkMessage.{LinkMessage}
use Rattle.craq_model.specs.declared.step.Out.TheVariants as outs
use Rattle.craq_epochs.specs.Mastered.{Mastered}
use Rattle.craq_runs.specs.declared.run.Run.{Run}
use Rattle.craq_runs.specs.Chain.{sent_in}
use Rattle.craq_seat.specs.declared.calls.Call.{Call}
use Rattle.craq_seat.specs.declared.journal.BookEvent.{BookEvent}
use Rattle.craq_seat.specs.declared.journal.BookEvent.TheVariants as books
use Rattle.craq_seat.specs.declared.journal.Opening.{Opening}
use Rattle.craq_seat.specs.declared.journal.Record.{Record}
use Rattle.craq_seat.specs.Books.{members_of}
use Rattle.craq_seat.specs.Calls.{Called}
use Rattle.craq_seat.specs.Cells.{Celled}
use Rattle.craq_seat.specs.Merge.{AtNode, IsMerge, Journals, MergedStep, all_lines, run_of}
use Rattle.craq_seat.specs.Numbered.{numbered_from}

-- ---- cells that can be audited

-- the id of a cell's node
abbrev pub id_of : {C : Type 0} → Celled C Event → ℕ
id_of c = c.opening.name.node

-- the journal of a cell, and of each of several
abbrev pub IsJournalOf : {C : Type 0} → Celled C Event → ℕ × List (Record Event) → Type 0
IsJournalOf c n = (n.0 ≡ id_of c) × (c.journal ≡ Some n.1)

-- these are the journals of the cells, one for each
abbrev pub AreJournalsOf : {C : Type 0} → List (Celled C Event) → List (ℕ × List (Record Event)) → Type 0
AreJournalsOf [] [] = ⊤
AreJournalsOf (c ∷ cs) (n ∷ ns) = IsJournalOf c n × AreJournalsOf cs ns
AreJournalsOf (c ∷ cs) [] = ⊥
AreJournalsOf [] (n ∷ ns) = ⊥

-- all of the cells keep journals, and these are the journals
pub record AreKept {C : Type 0} (book : Celled Mastered BookEvent) (cells : List (Celled C Event)) (j : Journals) : Type 0 where
  pub members : j.members ≡ members_of book.opening.config
  pub master : book.journal ≡ Some j.book
  pub nodes : AreJournalsOf cells j.nodes

-- a member from the start is opened with the first membership, before any stamp
abbrev pub IsOpenedFirst : Celled Mastered BookEvent → Opening → Type 0
IsOpenedFirst book o = Contains (members_of book.opening.config) o.name.node × (o.config ≡ book.opening.config) × (o.stamp ≡ 0)

-- a node that joined is opened without a membership, at the stamp of its join
abbrev pub IsOpenedLater : List (Record BookEvent) → Opening → Type 0
IsOpenedLater rs o =
    (o.config ≡ None) × (r : Record BookEvent) × Contains rs r × (r.event ≡ books.Join o.name.node) × (r.stamp ≡ o.stamp)

-- a removal names the step in which its node stopped
abbrev pub NamesItsStop : Journals → BookEvent → Type 0
NamesItsStop j (books.Join id) = ⊤
NamesItsStop j (books.Remove stopped stop) =
    (stop.node ≡ stopped.node) × (l : MergedStep) × Contains (all_lines j) l × (l.node ≡ stop.node) × (l.stamp ≡ stop.stamp) × (l.event ≡ AtNode events.Stop)
NamesItsStop j books.Tick = ⊤

-- the cells are the chain's: one for each id that ever was a member, opened as it became one
pub record AreOfChain {C : Type 0} (book : Celled Mastered BookEvent) (cells : List (Celled C Event)) (j : Journals) : Type 0 where
  pub ids : IsPermutation book.inside.used (map id_of cells)
  pub chain : AllByRecursion (λ (c : Celled C Event). c.opening.name.chain ≡ book.opening.name.chain) cells
  pub opened : AllByRecursion (λ (c : Celled C Event). IsOpenedFirst book c.opening ⊎ IsOpenedLater j.book c.opening) cells
  pub stops : AllByRecursion (λ (r : Record BookEvent). NamesItsStop j r.event) j.book

-- ---- the tests of an audit

-- the message was sent, under its name, in a step of a lower stamp than that of its arrival
abbrev pub WasSent : Journals → ℕ → LinkMessage → Type 0
WasSent j stamp m =
    (m.stamp < stamp) × (l : MergedStep) × Contains (all_lines j) l × (l.node ≡ m.sender) × (l.stamp ≡ m.stamp)
    × (slice_get (numbered_from 0 (record { node = l.node; stamp = l.stamp }) (sent_in l.step.outs)) m.index ≡ Some m)

-- a delivery is of a message that was sent
abbrev pub IsOfSent : Journals → ℕ → Event → Type 0
IsOfSent j stamp (events.Ask ask) = ⊤
IsOfSent j stamp (events.Deliver m) = WasSent j stamp m
IsOfSent j stamp events.Tick = ⊤
IsOfSent j stamp events.Stop = ⊤

-- a record's delivery, if it is one, is of a message that was sent
abbrev pub HasSender : Journals → Record Event → Type 0
HasSender j r = IsOfSent j r.stamp r.event

-- the first delivery of a message that was not sent: by ascending node, then by journal index, from
-- 0
pub record IsFirstUnsent (j : Journals) (node index : ℕ) : Type 0 where
  pub records : List (Record Event)
  pub journal : Contains j.nodes (node, records)
  pub unsent : (r : Record Event) × (slice_get records index ≡ Some r) × ¬ HasSender j r
  pub earlier : AllByRecursion (HasSender j) (take index records)
  pub lower : AllByRecursion (λ (n : ℕ × List (Record Event)). n.0 < node → AllByRecursion (HasSender j) n.1) j.nodes

-- the request is in a journal, with its ticket and the pass that came with it, and so is a reply to
-- the ticket
abbrev pub IsAsked : List (Record Event) → Call → Type 0
IsAsked rs call =
    (r : Record Event) × Contains rs r × (r.stamp ≡ call.asked.stamp) × (r.event ≡ events.Ask call.ask) × (r.pass ≡ call.pass) × (r.step.ticket ≡ Some call.ticket)

-- a record of this stamp has this reply to the ticket
abbrev pub IsAnswered : List (Record Event) → ℕ → ℕ → Answer → Type 0
IsAnswered rs stamp ticket answer =
    (r : Record Event) × Contains rs r × (r.stamp ≡ stamp) × Contains r.step.outs (outs.Answer ticket answer)

-- the request and the reply of a call receipt are in its node's journal
abbrev pub IsHeld : Journals → Called → Type 0
IsHeld j c =
    (c.answered.node ≡ c.call.asked.node) × (rs : List (Record Event)) × Contains j.nodes (c.call.asked.node, rs)
    × IsAsked rs c.call × IsAnswered rs c.answered.stamp c.call.ticket c.answer

-- the first call receipt that no journal holds, counted from 0
pub record IsFirstUnheld (j : Journals) (receipts : List Called) (index : ℕ) : Type 0 where
  pub unheld : (c : Called) × (slice_get receipts index ≡ Some c) × ¬ IsHeld j c
  pub earlier : AllByRecursion (IsHeld j) (take index receipts)

-- ---- the results of an audit, for journals that it can audit

-- the journals are this run, which holds every call receipt
pub record IsMergedRun (j : Journals) (receipts : List Called) (run : Run) : Type 0 where
  pub sent : AllByRecursion (λ (n : ℕ × List (Record Event)). AllByRecursion (HasSender j) n.1) j.nodes
  pub held : AllByRecursion (IsHeld j) receipts
  pub merge : (lines : List MergedStep) × IsMerge j lines × (run ≡ run_of j.members lines)

-- a message has no sender; this is reported before any receipt
abbrev pub SaysNoSender : Journals → ℕ → ℕ → Type 0
SaysNoSender j node index = IsFirstUnsent j node index

-- each message has a sender, and a receipt is of no step
pub record SaysNoReceipt (j : Journals) (receipts : List Called) (index : ℕ) : Type 0 where
  pub sent : AllByRecursion (λ (n : ℕ × List (Record Event)). AllByRecursion (HasSender j) n.1) j.nodes
  pub unheld : IsFirstUnheld j receipts index
