-- A node that a master lets join, in a history.
use Rattle.std.proofs.Common.{◌≡◌, ◌∙◌, ℕ, false, List, [], Option, Some, None, refl, sym, ap, subst, inr}
use Rattle.std.specs.Prelude.{Contains}
use Rattle.craq_names.specs.declared.name.NodeName.{NodeName}
use Rattle.craq_model.specs.declared.ask.Event.{Event}
use Rattle.craq_model.specs.Members.{is_member}
use Rattle.craq_model.specs.Plain.{Plain, opening_joined}
use Rattle.craq_epochs.specs.Mastered.{opened_master}
use Rattle.craq_seat.specs.declared.journal.BookEvent.{BookEvent}
use Rattle.craq_seat.specs.declared.journal.BookEvent.TheVariants as books
use Rattle.craq_seat.specs.declared.journal.Receipt.{Receipt}
use Rattle.craq_seat.specs.declared.journal.Record.{Record}
use Rattle.craq_seat.specs.Cells.{Celled}
use Rattle.craq_seat.specs.Merge.{AtMaster as HappensAtMaster, AtNode as HappensAtNode, Happening, MergedStep, book_line}
use Rattle.craq_causality.specs.Authors.{IsMasterAfter, first_of, lines_of}
use Rattle.craq_causality.specs.Causal.{AreCausal, HasJoined}
use Rattle.craq_causality.proofs.Orders.{IsIn, from_contains, of_map, to_at}
use Rattle.craq_merge.proofs.Used.{joins_new}
use Rattle.craq_store_history.specs.declared.entry.HistoryEntry.{HistoryEntry}
use Rattle.craq_store_history.specs.Chains.{ChainHolds, IsHistory}
use Rattle.craq_store_history.specs.Entries.{lines_in, master_record, members_in}
use Rattle.craq_store_parts.specs.Recorded.{CanBegin, HasLetJoin, HasOrdered, IsUnjoined}
use Rattle.craq_store_parts.specs.Witnessed.{IsWitnessedOrder}
use Rattle.craq_running_node.proofs.Beginning.{line_standing}

-- a master's step that stands in a history
pub has_ordered : (old log : List HistoryEntry) (c : ℕ) (event : BookEvent) (receipt : Receipt) → IsWitnessedOrder old c event receipt log → HasOrdered log c event
has_ordered old log c event receipt w =
    (master_record receipt.stamp event w.pass w.step, line_standing w.taken.0 log c receipt.stamp event w.pass w.step w.taken.2, refl)

-- the event of a master that happens, or another where a node's does
told : BookEvent → Happening → BookEvent
told other (HappensAtMaster event) = event
told other (HappensAtNode event) = other

event_of : (r s : Record BookEvent) → book_line r ≡ book_line s → r.event ≡ s.event
unfolding told
event_of r s is = ap (λ (l : MergedStep). told r.event l.event) is

-- a node that the master lets join is no first member
pub is_new : (chain : ℕ) (members : List ℕ) (lines : List MergedStep) (r : Record BookEvent) (id : ℕ) → AreCausal chain members lines → Contains lines (book_line r) → r.event ≡ books.Join id → is_member members id ≡ false
is_new chain members lines r id causal there is =
    let after : IsMasterAfter chain members lines causal.master.0 causal.master.1 = causal.master.2 in
    let own : IsIn (lines_of 0 lines) (book_line r) = to_at 0 lines (book_line r) (from_contains lines (book_line r) there) refl in
    let found = of_map book_line after.records (book_line r) (subst (λ (ls : List MergedStep). IsIn ls (book_line r)) after.are own) in
    joins_new (opened_master chain members) causal.master.0 after.records found.0 id after.replay found.1 (event_of found.0 r found.2 ∙ is)

first_new : (chain : ℕ) (members : List ℕ) (id : ℕ) → is_member members id ≡ false → first_of chain members id ≡ opening_joined (record { chain = chain; node = id })
first_new chain members id new = rw new refl

module _ {C : Type 0} (represents : C → Plain → Type 0) (name : NodeName) (log : List HistoryEntry) (cell : Celled C Event) (h : IsHistory log) (j : HasLetJoin log name) (u : IsUnjoined represents name cell) where
  in_some : (members : List ℕ) → members_in name.chain log ≡ Some members → AreCausal name.chain members (lines_in name.chain log) → CanBegin represents log cell
  in_some members opened causal =
      let new : is_member members name.node ≡ false = is_new name.chain members (lines_in name.chain log) j.0 name.node causal j.1 j.2 in
      let joined : HasJoined members (lines_in name.chain log) name.node = inr (book_line j.0, j.1, ap HappensAtMaster j.2) in
      let first : represents cell.inside (first_of name.chain members name.node) = subst (represents cell.inside) (sym (first_new name.chain members name.node new)) u.first in
      record {
        members = members;
        opened = rw u.named opened;
        member = rw u.named u.member;
        joined = rw u.named joined;
        first = rw u.named first;
        unmoved = u.unmoved;
        empty = u.empty;
      }

  by_members : (o : Option (List ℕ)) → members_in name.chain log ≡ o → ChainHolds name.chain o (lines_in name.chain log) → CanBegin represents log cell
  by_members None is none = absurd (from_contains [] (book_line j.0) (subst (λ (ls : List MergedStep). Contains ls (book_line j.0)) none j.1))
  by_members (Some members) is holds = in_some members is holds.0

  -- so it may begin
  pub begins_joined : CanBegin represents log cell
  begins_joined = by_members (members_in name.chain log) refl (h.chains name.chain)
