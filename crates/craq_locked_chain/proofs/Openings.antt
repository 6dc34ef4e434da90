-- A chain that was just opened.
use Rattle.std.proofs.Common.{◌≡◌, ◌<◌, ◌⊎◌, ◌∙◌, ℕ, List, [], ◌∷◌, Some, refl, sym, ap, subst, inl, inr, arith}
use Rattle.craq_epochs.specs.Mastered.{Mastered, opened_master}
use Rattle.craq_seat.specs.declared.journal.BookEvent.{BookEvent}
use Rattle.craq_seat.specs.declared.journal.Record.{Record}
use Rattle.craq_seat.specs.Books.{book_step, first_master}
use Rattle.craq_seat.specs.Cells.{Celled, opened}
use Rattle.craq_seat.specs.Journal.{Replays, RisesTo}
use Rattle.craq_store_history.specs.declared.entry.HistoryEntry.{HistoryEntry}
use Rattle.craq_store_history.specs.Entries.{members_in}
use Rattle.craq_store_history.specs.Steps.{IsMasterAt}
use Rattle.craq_store_parts.specs.Recorded.{IsUnmoved}
use Rattle.craq_locked_chain.specs.Membered.{CanBecome}

rises : {E : Type 0} (low high : ℕ) (rs : List (Record E)) → RisesTo low rs high → low ≡ high → rs ≡ []
rises low high [] up same = refl
rises low high (r ∷ rs) up same = absurd (not_above low high r rs up same)
  where
    least : {E : Type 0} (l h : ℕ) (xs : List (Record E)) → RisesTo l xs h → (l < h) ⊎ (l ≡ h)
    least l h [] u = inr (sym u)
    least l h (x ∷ xs) u = elim (least x.stamp h xs u.1) [ inl a ↦ inl (let b : l < x.stamp = u.0 in omega (arith, a, b)) | inr a ↦ inl (let b : l < x.stamp = u.0 in omega (arith, a, b)) ]

    not_above : {E : Type 0} (l h : ℕ) (x : Record E) (xs : List (Record E)) → RisesTo l (x ∷ xs) h → l ≡ h → ⊥
    not_above l h x xs u is = elim (least x.stamp h xs u.1) [ inl a ↦ (let b : l < x.stamp = u.0 in omega (arith, a, b, is)) | inr a ↦ (let b : l < x.stamp = u.0 in omega (arith, a, b, is)) ]

-- the master of a chain that took no step came from the opened one
pub becomes_first : (b : Celled Mastered BookEvent) → IsUnmoved b → CanBecome (first_master b.opening) b.inside
becomes_first b (chain, members, journal, is) = ([], first_is)
  where
    first_is : b.inside ≡ first_master b.opening
    first_is = ap (λ (x : Celled Mastered BookEvent). x.inside) is ∙ sym (ap (λ (x : Celled Mastered BookEvent). first_master x.opening) is)

-- and a history in which it is the replay of its steps has the chain's first members
pub opened_members : (chain : ℕ) (log : List HistoryEntry) (b : Celled Mastered BookEvent) → IsUnmoved b → IsMasterAt chain log b.inside b.stamp → members_in chain log ≡ Some b.inside.members
opened_members chain log b (c, members, journal, is) at =
    let none : at.after.records ≡ [] = rises 0 b.stamp at.after.records at.after.stamps (sym (ap (λ (x : Celled Mastered BookEvent). x.stamp) is)) in
    let replay : Replays book_step (opened_master chain at.members) [] b.inside = subst (λ (rs : List (Record BookEvent)). Replays book_step (opened_master chain at.members) rs b.inside) none at.after.replay in
    at.opened ∙ ap (λ (m : Mastered). Some m.members) (sym replay)
