-- The cells of a chain whose locks are held, and the claims that an audit of a running chain
-- confirms.
use Rattle.std.specs.Prelude.{◌≡◌, List, Result, Some}
use Rattle.std.specs.List.{AllByRecursion}
use Rattle.std.specs.declared.sync.MutexGuard.{MutexGuard}
use Rattle.std.specs.Sync.Mutex.{mutex_guard_value}
use Rattle.craq_names.specs.declared.refusal.Refusal.{Refusal}
use Rattle.craq_model.specs.declared.ask.Event.{Event}
use Rattle.craq_model.specs.Plain.{Plain}
use Rattle.craq_epochs.specs.Mastered.{Mastered}
use Rattle.craq_audit.specs.declared.finding.Audit.{Audit}
use Rattle.craq_audit.specs.Audited.{Audits}
use Rattle.craq_seat.specs.declared.journal.BookEvent.{BookEvent}
use Rattle.craq_seat.specs.Books.{IsBook, members_of}
use Rattle.craq_seat.specs.Calls.{Called}
use Rattle.craq_seat.specs.Cells.{Celled}
use Rattle.craq_seat.specs.Kept.{IsKept}
use Rattle.craq_store_history.specs.declared.entry.HistoryEntry.{HistoryEntry}
use Rattle.craq_store_history.specs.Chains.{IsHistory}
use Rattle.craq_store_history.specs.Entries.{members_in}
use Rattle.craq_store_parts.specs.Recorded.{BookHasLinesIn, HasLinesIn}
use Rattle.craq_running_node.specs.declared.steps.SeatedNode.{SeatedNode}

-- a chain's master and the cells of its nodes, as their locks hold them
pub record Held (C : Type 0) : Type 0 where
  pub book : Celled Mastered BookEvent
  pub cells : List (Celled C Event)

-- the cell that the lock of a node holds
abbrev pub cell_in : {C : Type 0} → MutexGuard (SeatedNode C) → Celled C Event
cell_in seat = (mutex_guard_value seat).desk.cell

-- one history, which keeps the rule, has the steps of all these journals: each author's lines there
-- are its journal, if it keeps one. The chain was opened there with the master's first members
pub record HaveHistory {C : Type 0} (held : Held C) : Type 0 where
  pub log : List HistoryEntry
  pub rule : IsHistory log
  pub first : members_in held.book.opening.name.chain log ≡ Some (members_of held.book.opening.config)
  pub book : BookHasLinesIn log held.book
  pub cells : AllByRecursion (λ (c : Celled C Event). HasLinesIn log c) held.cells

-- the master was opened with members, and each step of the master and of the nodes is their own:
-- replaying a journal leads to its cell. One history has all of these steps
pub record AreOwn {C : Type 0} (represents : C → Plain → Type 0) (held : Held C) : Type 0 where
  pub book : IsBook held.book
  pub cells : AllByRecursion (IsKept represents) held.cells
  pub history : HaveHistory held

-- the result is that of an audit of cells whose steps are their own, and whose master has the
-- property
pub record Confirms {C : Type 0} (represents : C → Plain → Type 0) (IsSuch : Celled Mastered BookEvent → Type 0) (receipts : List Called) (answer : Result Audit Refusal) : Type 0 where
  pub held : Held C
  pub own : AreOwn represents held
  pub such : IsSuch held.book
  pub audited : Audits held.book held.cells receipts answer
