-- The findings of an audit that returns a run.
use Rattle.std.proofs.Common.{◌≡◌, List, sym, subst}
use Rattle.std.specs.List.{AllByRecursion}
use Rattle.craq_model.specs.declared.ask.Event.{Event}
use Rattle.craq_model.specs.Plain.{Plain}
use Rattle.craq_epochs.specs.Mastered.{Mastered}
use Rattle.craq_runs.specs.declared.run.Run.{Run}
use Rattle.craq_runs.specs.Runs.{IsRunOf}
use Rattle.craq_seat.specs.declared.journal.BookEvent.{BookEvent}
use Rattle.craq_seat.specs.Audits.{AreKept, AreOfChain, IsHeld, IsMergedRun}
use Rattle.craq_seat.specs.Books.{IsBook}
use Rattle.craq_seat.specs.Calls.{Called}
use Rattle.craq_seat.specs.Cells.{Celled}
use Rattle.craq_seat.specs.Kept.{IsKept}
use Rattle.craq_seat.specs.Merge.{IsMerge, Journals, MergedStep, run_of}
use Rattle.craq_causality.proofs.Orders.{all_by, all_in}
use Rattle.craq_merge.specs.Merged.{AreSeated, CanBeNumbered}
use Rattle.craq_merge.specs.Within.{IsWithin}
use Rattle.craq_merge.proofs.Calls.{calls_within}
use Rattle.craq_merge.proofs.Seated.{seated_run}

holds : {C : Type 0} (R : C → Plain → Type 0) (book : Celled Mastered BookEvent) (cells : List (Celled C Event)) (j : Journals) (receipts : List Called) (run : Run) (lines : List MergedStep) → AreSeated R book cells j → IsMerge j lines → CanBeNumbered lines → run ≡ run_of j.members lines → AllByRecursion (IsHeld j) receipts → IsRunOf book.opening.name.chain run × AllByRecursion (λ (c : Called). IsWithin lines run c) receipts
holds R book cells j receipts run lines s m fit is held =
    subst (λ (x : Run). IsRunOf book.opening.name.chain x × AllByRecursion (λ (c : Called). IsWithin lines x c) receipts) (sym is) (
      seated_run R book cells j lines s m fit,
      all_by (λ (c : Called). IsWithin lines (run_of j.members lines) c) receipts (λ c i. calls_within R book cells j lines c s m fit (all_in (IsHeld j) receipts c held i)),
    )

pub audited : {C : Type 0} (R : C → Plain → Type 0) (book : Celled Mastered BookEvent) (cells : List (Celled C Event)) (j : Journals) (receipts : List Called) (run : Run) → IsBook book → AllByRecursion (λ (c : Celled C Event). IsKept R c) cells → AreKept book cells j → AreOfChain book cells j → (m : IsMergedRun j receipts run) → CanBeNumbered m.merge.0 → IsRunOf book.opening.name.chain run × AllByRecursion (λ (c : Called). IsWithin m.merge.0 run c) receipts
audited R book cells j receipts run b ks kept chain m fit =
    holds R book cells j receipts run m.merge.0 (record { master = b; nodes = ks; journals = kept; chain = chain; sent = m.sent }) m.merge.1 fit m.merge.2 m.held
