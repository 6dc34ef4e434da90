-- The view that contracts have of a running store, and its answer to a request for the audit of a chain.
use Rattle.std.specs.Prelude.{◌≡◌, ◌<◌, ◌≤◌, ◌⊎◌, ◌+◌, ℕ, List, [], ◌∷◌, Bool, true, false, Some, length, slice_get, Result, Ok, Err}
use Rattle.craq_names.specs.declared.refusal.Refusal.{Refusal}
use Rattle.craq_names.specs.declared.refusal.Refusal.TheVariants as refusals
use Rattle.craq_model.specs.Plain.{Plain}
use Rattle.craq_epochs.specs.Mastered.{Mastered, opened_master}
use Rattle.craq_place.specs.Plan.{Chain}
use Rattle.craq_audit.specs.declared.finding.Audit.{Audit}
use Rattle.craq_seat.specs.declared.journal.BookEvent.{BookEvent}
use Rattle.craq_seat.specs.Books.{IsBook, first_master}
use Rattle.craq_seat.specs.Calls.{Called}
use Rattle.craq_seat.specs.Cells.{Celled}
use Rattle.craq_locked_chain.specs.Held.{Confirms}

-- the chains of a plan as their masters are opened, with ids from this one on
abbrev pub masters_of : ℕ → List Chain → List Mastered
masters_of id [] = []
masters_of id (chain ∷ chains) = opened_master id chain.1 ∷ masters_of (id + 1) chains

-- the names of a store's chains and their masters as they were opened, by id; whether its cells keep journals, and whether each chain has
-- a thread of its own
pub record Stored : Type 0 where
  pub names : List (List ℕ)
  pub masters : List Mastered
  pub journals : Bool
  pub chain_threads : Bool

-- the store has the chain, and keeps journals
abbrev pub HasJournals : Stored → ℕ → Type 0
HasJournals store chain = (chain < length store.names) × (store.journals ≡ true)

-- the cell was opened as the master of this chain of the store
abbrev pub IsMasterOf : Stored → ℕ → Celled Mastered BookEvent → Type 0
IsMasterOf store chain book = slice_get store.masters chain ≡ Some (first_master book.opening)

-- the master of another chain
abbrev pub IsOther : Stored → ℕ → Celled Mastered BookEvent → Type 0
IsOther store chain book = IsBook book × ¬ (IsMasterOf store chain book)

-- reasons for no answer: first the chain is looked for, then journals; then it is as an audit of cells of this chain is
-- refused, or its lock holds the master of another. It is out of memory only where journals are kept
abbrev pub IsRefused : {C : Type 0} → (C → Plain → Type 0) → Stored → ℕ → List Called → Refusal → Type 0
IsRefused represents store chain receipts refusals.UnknownChain = length store.names ≤ chain
IsRefused represents store chain receipts refusals.JournalOff =
    (chain < length store.names) × ((store.journals ≡ false) ⊎ Confirms represents (IsMasterOf store chain) receipts (Err refusals.JournalOff))
IsRefused represents store chain receipts refusals.WrongNode =
    HasJournals store chain × (((book : Celled Mastered BookEvent) × IsOther store chain book) ⊎ Confirms represents (IsMasterOf store chain) receipts (Err refusals.WrongNode))
IsRefused represents store chain receipts refusals.Memory = HasJournals store chain
IsRefused represents store chain receipts e = ⊥

-- the answer of a store to a request for the audit of a chain
abbrev pub AuditAnswers : {C : Type 0} → (C → Plain → Type 0) → Stored → ℕ → List Called → Result Audit Refusal → Type 0
AuditAnswers represents store chain receipts (Ok audit) = HasJournals store chain × Confirms represents (IsMasterOf store chain) receipts (Ok audit)
AuditAnswers represents store chain receipts (Err e) = IsRefused represents store chain receipts e
