-- The result of an audit of a chain's cells.
use Rattle.std.specs.Prelude.{ℕ, List, Result, Ok, Err}
use Rattle.std.specs.List.{AllByRecursion}
use Rattle.craq_names.specs.declared.refusal.Refusal.{Refusal}
use Rattle.craq_names.specs.declared.refusal.Refusal.TheVariants as refusals
use Rattle.craq_model.specs.declared.ask.Event.{Event}
use Rattle.craq_epochs.specs.Mastered.{Mastered}
use Rattle.craq_runs.specs.declared.run.Run.{Run}
use Rattle.craq_runs.specs.Typed.{IsTypedRunOf}
use Rattle.craq_seat.specs.declared.journal.BookEvent.{BookEvent}
use Rattle.craq_seat.specs.Audits.{AreKept, AreOfChain, IsHeld, IsMergedRun, SaysNoReceipt, SaysNoSender}
use Rattle.craq_seat.specs.Calls.{Called}
use Rattle.craq_seat.specs.Cells.{Celled}
use Rattle.craq_seat.specs.Merge.{Journals}
use Rattle.craq_merge.specs.Within.{IsWithin}
use Rattle.craq_audit.specs.declared.finding.Audit.{Audit}
use Rattle.craq_audit.specs.declared.finding.Audit.TheVariants as audits
use Rattle.craq_audit.specs.Journals.{AreSent, journals_of}

-- all cells keep journals
abbrev pub AllKeep : {C : Type 0} → Celled Mastered BookEvent → List (Celled C Event) → Type 0
AllKeep book cells = AreKept book cells (journals_of book cells)

-- and they are the cells of one chain
abbrev pub CanBeAudited : {C : Type 0} → Celled Mastered BookEvent → List (Celled C Event) → Type 0
CanBeAudited book cells = AllKeep book cells × AreOfChain book cells (journals_of book cells)

-- the run is the merge of the journals and a run of the chain, and it has each call receipt
pub record IsAudited (chain : ℕ) (j : Journals) (receipts : List Called) (run : Run) : Type 0 where
  pub merged : IsMergedRun j receipts run
  pub run_of : IsTypedRunOf chain run
  pub calls : AllByRecursion (λ (c : Called). IsWithin merged.merge.0 run c) receipts

-- the finding holds of these journals: senders are tested first, then receipts
abbrev pub Holds : ℕ → Journals → List Called → Audit → Type 0
Holds chain j receipts (audits.NoSender node index) = SaysNoSender j node index
Holds chain j receipts (audits.NoReceipt index) = SaysNoReceipt j receipts index
Holds chain j receipts (audits.Merged run) = IsAudited chain j receipts run

-- the reason of a refusal: journals are tested first, then the chain; out of memory comes last
abbrev pub IsRefused : {C : Type 0} → Celled Mastered BookEvent → List (Celled C Event) → List Called → Refusal → Type 0
IsRefused book cells receipts refusals.JournalOff = ¬ AllKeep book cells
IsRefused book cells receipts refusals.WrongNode = AllKeep book cells × ¬ AreOfChain book cells (journals_of book cells)
IsRefused book cells receipts refusals.Memory =
    CanBeAudited book cells × AreSent (journals_of book cells) × AllByRecursion (IsHeld (journals_of book cells)) receipts
IsRefused book cells receipts e = ⊥

-- the result of an audit: a finding or a refusal
abbrev pub Audits : {C : Type 0} → Celled Mastered BookEvent → List (Celled C Event) → List Called → Result Audit Refusal → Type 0
Audits book cells receipts (Ok audit) = CanBeAudited book cells × Holds book.opening.name.chain (journals_of book cells) receipts audit
Audits book cells receipts (Err e) = IsRefused book cells receipts e
