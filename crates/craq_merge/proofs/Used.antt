-- The ids that a master used: none is 0, none occurs twice, and one that joins is new.
use Rattle.std.proofs.Common.{◌≡◌, ◌≢◌, ◌≤◌, ℕ, false, List, [], ◌∷◌, ◌++◌, Result, Ok, refl, sym, ap, subst, arith, ◌∙◌, inl, inr}
use Rattle.craq_names.specs.declared.refusal.Refusal.{Refusal}
use Rattle.craq_model.specs.declared.step.Step.{Step}
use Rattle.craq_model.specs.Members.{is_member}
use Rattle.craq_epochs.specs.Mastered.{Mastered, master_after_join, removed}
use Rattle.craq_chain.proofs.Commands.{join_made, removal_made}
use Rattle.craq_seat.specs.declared.journal.BookEvent.{BookEvent}
use Rattle.craq_seat.specs.declared.journal.BookEvent.TheVariants as books
use Rattle.craq_seat.specs.declared.journal.Record.{Record}
use Rattle.craq_seat.specs.Books.{book_step}
use Rattle.craq_seat.specs.Journal.{Replays}
use Rattle.craq_causality.proofs.Masters.{is_reported}
use Rattle.craq_causality.proofs.Orders.{IsIn}
use Rattle.craq_merge.proofs.Counts.{count, count_push, none_counted}

-- a new id is not 0
pub new_id : (m n : Mastered) (id : ℕ) → master_after_join m id ≡ Ok n → (id ≢ 0) × (is_member m.used id ≡ false)
unfolding master_after_join
new_id m n id h = (λ e. grind (arith, h, e), grind (arith, h))

-- each id is used once
pub record AreUsed (used : List ℕ) : Type 0 where
  pub some : count 0 used ≡ 0
  pub once : (id : ℕ) → count id used ≤ 1

one_more : (used : List ℕ) (id : ℕ) → AreUsed used → id ≢ 0 → is_member used id ≡ false → AreUsed (used ++ id ∷ [])
one_more used id a z new =
    record {
      some = let h = a.some in let k = count_push 0 used id in grind (arith, h, k, z);
      once = λ k. let h = a.once k in let e = count_push k used id in let n = none_counted used id new in grind (arith, h, e, n);
    }

step_used : (event : BookEvent) (m n : Mastered) (step : Step) → book_step m event ≡ Ok (n, step) → AreUsed m.used → AreUsed n.used
step_used (books.Join id) m n step h a =
    let t = is_reported (master_after_join m id) n step h in
    let new = new_id m n id t.0 in
    subst (λ (x : Mastered). AreUsed x.used) (sym (join_made m n id t.0)) (one_more m.used id a new.0 new.1)
step_used (books.Remove stopped stop) m n step h a =
    let t = is_reported (removed m stopped) n step h in
    subst (λ (x : Mastered). AreUsed x.used) (sym (removal_made m n stopped t.0)) a
step_used books.Tick m n step h a =
    let t = is_reported (Ok m) n step h in subst (λ (x : Mastered). AreUsed x.used) (ok_same m n (Ok m) refl t.0) a
  where
    ok_same : (x y : Mastered) (r : Result Mastered Refusal) → r ≡ Ok x → r ≡ Ok y → x ≡ y
    ok_same x y r p q = cc

pub are_used : (m last : Mastered) (rs : List (Record BookEvent)) → Replays book_step m rs last → AreUsed m.used → AreUsed last.used
are_used m last [] is a = subst (λ (x : Mastered). AreUsed x.used) (sym is) a
are_used m last (r ∷ rs) (n, h, rest) a = are_used n last rs rest (step_used r.event m n r.step h a)

-- ---- an id that joins later was not used before

pushed : (xs : List ℕ) (x id : ℕ) → is_member (xs ++ x ∷ []) id ≡ false → is_member xs id ≡ false
unfolding is_member
pushed [] x id h = refl
pushed (y ∷ xs) x id h = grind (arith, h, pushed xs x id)

step_unused : (event : BookEvent) (m n : Mastered) (step : Step) (id : ℕ) → book_step m event ≡ Ok (n, step) → is_member n.used id ≡ false → is_member m.used id ≡ false
step_unused (books.Join other) m n step id h a =
    let t = is_reported (master_after_join m other) n step h in
    pushed m.used other id (subst (λ (x : Mastered). is_member x.used id ≡ false) (join_made m n other t.0) a)
step_unused (books.Remove stopped stop) m n step id h a =
    let t = is_reported (removed m stopped) n step h in
    subst (λ (x : Mastered). is_member x.used id ≡ false) (removal_made m n stopped t.0) a
step_unused books.Tick m n step id h a =
    let t = is_reported (Ok m) n step h in subst (λ (x : Mastered). is_member x.used id ≡ false) (sym (ok_same m n (Ok m) refl t.0)) a
  where
    ok_same : (x y : Mastered) (r : Result Mastered Refusal) → r ≡ Ok x → r ≡ Ok y → x ≡ y
    ok_same x y r p q = cc

pub joins_new : (m last : Mastered) (rs : List (Record BookEvent)) (r : Record BookEvent) (id : ℕ) → Replays book_step m rs last → IsIn rs r → r.event ≡ books.Join id → is_member m.used id ≡ false
joins_new m last [] r id is i e = absurd i
joins_new m last (x ∷ rs) r id (n, h, rest) (inl s) e =
    let event : x.event ≡ books.Join id = ap (λ (y : Record BookEvent). y.event) s ∙ e in
    (new_id m n id (is_reported (master_after_join m id) n x.step (subst (λ (b : BookEvent). book_step m b ≡ Ok (n, x.step)) event h)).0).1
joins_new m last (x ∷ rs) r id (n, h, rest) (inr i) e = step_unused x.event m n x.step id h (joins_new n last rs r id rest i e)
