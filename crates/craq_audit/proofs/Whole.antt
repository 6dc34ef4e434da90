-- Sorted lines of the journals of a chain's cells: their merge, a run, and the result of an audit.
use Rattle.std.proofs.Common.{◌≡◌, ◌<◌, ℕ, zero, suc, ◌+◌, List, [], ◌∷◌, length, take, Some, Result, Err, sym, subst, arith}
use Rattle.std.specs.Prelude.{slice_get, IsPermutation}
use Rattle.std.specs.List.{AllByRecursion}
use Rattle.std.specs.Borrow.{Bor}
use Rattle.craq_names.specs.declared.refusal.Refusal.{Refusal}
use Rattle.craq_names.specs.declared.refusal.Refusal.TheVariants.{Memory}
use Rattle.craq_names.proofs.Lists.{all_like}
use Rattle.craq_model.specs.declared.ask.Event.{Event}
use Rattle.craq_model.specs.declared.message.LinkMessage.{LinkMessage}
use Rattle.craq_model.specs.Plain.{Plain}
use Rattle.craq_epochs.specs.Mastered.{Mastered}
use Rattle.craq_runs.specs.declared.run.Run.{Run}
use Rattle.craq_runs.specs.Chain.{sent_in}
use Rattle.craq_runs.specs.Typed.{AreOfType}
use Rattle.craq_seat.specs.declared.journal.BookEvent.{BookEvent}
use Rattle.craq_seat.specs.declared.journal.Receipt.{Receipt}
use Rattle.craq_seat.specs.Audits.{IsHeld, IsMergedRun, SaysNoReceipt}
use Rattle.craq_seat.specs.Books.{IsBook}
use Rattle.craq_seat.specs.Calls.{Called}
use Rattle.craq_seat.specs.Cells.{Celled}
use Rattle.craq_seat.specs.Merge.{AreInOrder, IsMerge, Journals, MergedStep, all_lines, run_of}
use Rattle.craq_seat.specs.Numbered.{numbered_from}
use Rattle.craq_causality.specs.Causal.{MayFollow, WasSent}
use Rattle.craq_causality.proofs.Growing.{all_follow}
use Rattle.craq_causality.proofs.Orders.{all_by}
use Rattle.craq_merge.specs.Merged.{AreSeated, CanBeNumbered}
use Rattle.craq_merge.specs.Sorted.{AreSorted}
use Rattle.craq_merge.proofs.Audited.{audited}
use Rattle.craq_merge.proofs.Seated.{seated_causal}
use Rattle.craq_merge.proofs.Sorted.{sorted_merge}
use Rattle.craq_audit.specs.declared.finding.Audit.{Audit}
use Rattle.craq_audit.specs.Audited.{Audits, CanBeAudited, IsAudited, IsRefused}
use Rattle.craq_audit.specs.Journals.{AreSent, journals_of}
use Rattle.craq_audit.specs.Lines.{IsArrivalIn, IsSentIn}
use Rattle.craq_audit.specs.Lookups.{HoldsCall, IsFirstNot, KeepsType, cells_of}
use Rattle.craq_audit.proofs.Sendings.{held, where_held}
use Rattle.craq_audit.proofs.Keeping.{types_kept}

index_within : (base : ℕ) (receipt : Receipt) (ms : List LinkMessage) (i : ℕ) (m : LinkMessage) → slice_get (numbered_from base receipt ms) i ≡ Some m → i < length ms
index_within base receipt [] i m h = cc
index_within base receipt (x ∷ ms) zero m h = omega arith
index_within base receipt (x ∷ ms) (suc i) m h = let t = index_within (base + 1) receipt ms i m h in omega (arith, t)

sent_in_lines : (lines : List MergedStep) (m : LinkMessage) → WasSent lines m → IsSentIn lines m
sent_in_lines lines m s =
    record {
      line = s.line;
      there = s.there;
      node = s.node;
      stamp = s.stamp;
      index = index_within 0 (record { node = s.line.node; stamp = s.line.stamp }) (sent_in s.line.step.outs) m.index m s.message;
    }

module _ {C : Type 0} (R : C → Plain → Type 0) (book : Celled Mastered BookEvent) (cs : List (Bor (Celled C Event))) (b : IsBook book) (ks : AllByRecursion (KeepsType R) cs) (can : CanBeAudited book (cells_of cs)) (sent : AreSent (journals_of book (cells_of cs))) (lines : List MergedStep) (all : IsPermutation (all_lines (journals_of book (cells_of cs))) lines) (sorted : AreSorted lines) where
  seated : AreSeated R book (cells_of cs) (journals_of book (cells_of cs))
  seated = record { master = b; nodes = types_kept R cs ks; journals = can.0; chain = can.1; sent = sent }

  pub is_merge : IsMerge (journals_of book (cells_of cs)) lines
  is_merge = sorted_merge R book (cells_of cs) (journals_of book (cells_of cs)) lines seated all sorted

  pub in_order : AreInOrder lines
  in_order = is_merge.order

  pub arrivals : AllByRecursion (IsArrivalIn lines) lines
  arrivals =
      let j : Journals = journals_of book (cells_of cs) in
      let causal = seated_causal R book (cells_of cs) j lines seated is_merge in
      all_by (IsArrivalIn lines) lines (λ l i m e. sent_in_lines lines m (subst (MayFollow j.members lines l.node) e (all_follow j.members [] lines l causal.order i)).1)

  pub is_audited : (run : Run) (receipts : List Called) → run ≡ run_of (journals_of book (cells_of cs)).members lines → CanBeNumbered lines → AreOfType run.moves → AllByRecursion (IsHeld (journals_of book (cells_of cs))) receipts → IsAudited book.opening.name.chain (journals_of book (cells_of cs)) receipts run
  is_audited run receipts is fit typed held =
      let j : Journals = journals_of book (cells_of cs) in
      let merged : IsMergedRun j receipts run = record { sent = sent; held = held; merge = (lines, is_merge, is) } in
      let t = audited R book (cells_of cs) j receipts run b (types_kept R cs ks) can.0 can.1 merged fit in
      record { merged = merged; run_of = record { run_of = t.0; typed = typed }; calls = t.1 }

-- ---- receipts

abbrev Lent : Type 0 → Type 0
Lent C = Bor (Celled C Event)

pub all_held : {C : Type 0} (book : Celled Mastered BookEvent) (cs : List (Lent C)) (receipts : List Called) → AllByRecursion (HoldsCall cs) receipts → AllByRecursion (IsHeld (journals_of book (cells_of cs))) receipts
all_held book cs receipts h = all_like (HoldsCall cs) (IsHeld (journals_of book (cells_of cs))) receipts (λ c k. held book cs c k.0 k.1) h

pub no_receipt : {C : Type 0} (book : Celled Mastered BookEvent) (cs : List (Lent C)) (receipts : List Called) (index : ℕ) → AreSent (journals_of book (cells_of cs)) → IsFirstNot (HoldsCall cs) receipts index → SaysNoReceipt (journals_of book (cells_of cs)) receipts index
no_receipt book cs receipts index sent f =
    record {
      sent = sent;
      unheld = record {
        unheld = (f.not_so.0, f.not_so.1, λ h. f.not_so.2 (where_held book cs f.not_so.0 h));
        earlier = all_like (HoldsCall cs) (IsHeld (journals_of book (cells_of cs))) (take index receipts) (λ c k. held book cs c k.0 k.1) f.earlier;
      };
    }

pub no_memory : {C : Type 0} (book : Celled Mastered BookEvent) (cs : List (Lent C)) (receipts : List Called) (r : Result Audit Refusal) (e : Refusal) → CanBeAudited book (cells_of cs) → AreSent (journals_of book (cells_of cs)) → AllByRecursion (HoldsCall cs) receipts → e ≡ Memory → r ≡ Err e → Audits book (cells_of cs) receipts r
no_memory book cs receipts r e can sent h m is =
    subst (Audits book (cells_of cs) receipts) (sym is) (subst (IsRefused book (cells_of cs) receipts) (sym m) (can, sent, all_held book cs receipts h))
