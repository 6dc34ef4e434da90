-- The predicates on lists of ids by index, and as those of std; used in the proof that a system
-- follows the machine.
use Rattle.std.proofs.Common.{◌≡◌, ⊎_elim, ℕ, zero, suc, ◌<◌, ◌==◌, true, false, not, cond, ◌&&◌, List, [], ◌∷◌, length, get_or, filter, Contains, refl, ap, sym, subst, ◌∙◌, arith}
use Rattle.std.proofs.lemmas.Bool.{both_ways, false_from_ne_true, eq-eqb, and_from, or_left, or_right, cond_both, cond-true, cond-false, not_from_true, not_from_false}
use Rattle.craq_protocol.specs.Members.{is_member, is_first, is_last, is_next, without, IsDistinct}
use Rattle.craq_protocol.proofs.Lists.{Sorted, is_member_none, is_member_cases, is_member_here, is_member_there, last_has, get_has}

pub first_at : (c : List ℕ) (n : ℕ) → 0 < length c → get_or c 0 0 ≡ n → is_first c n ≡ true
unfolding is_first
first_at [] n lt e = absurd (omega arith)
first_at (m ∷ ms) n lt e = eq-eqb m n e

pub last_at : (c : List ℕ) (i n : ℕ) → suc i ≡ length c → get_or c i 0 ≡ n → is_last c n ≡ true
unfolding is_last
last_at [] i n l e = absurd (omega arith)
last_at (m ∷ []) zero n l e = eq-eqb m n e
last_at (m ∷ []) (suc i) n l e = absurd (omega arith)
last_at (m ∷ k ∷ ms) zero n l e = absurd (omega arith)
last_at (m ∷ k ∷ ms) (suc i) n l e = last_at (k ∷ ms) i n (omega arith) e

pub next_at : (c : List ℕ) (i a b : ℕ) → suc i < length c → get_or c i 0 ≡ a → get_or c (suc i) 0 ≡ b → is_next c a b ≡ true
unfolding is_next
next_at [] i a b lt d e = absurd (omega arith)
next_at (m ∷ []) i a b lt d e = absurd (omega arith)
next_at (m ∷ k ∷ ms) zero a b lt d e = or_left ((m == a) && (k == b)) (is_next (k ∷ ms) a b) (and_from (m == a) (k == b) (eq-eqb m a d) (eq-eqb k b e))
next_at (m ∷ k ∷ ms) (suc i) a b lt d e = or_right ((m == a) && (k == b)) (is_next (k ∷ ms) a b) (next_at (k ∷ ms) i a b (omega arith) d e)

pub is_member_at : (c : List ℕ) (i n : ℕ) → i < length c → get_or c i 0 ≡ n → is_member c n ≡ true
is_member_at c i n lt e = let P : ℕ → Type 0 = λ k. is_member c k ≡ true in subst P e (get_has c i lt)

-- an id before another is not last
pub not_last_at : (c : List ℕ) (i n : ℕ) → IsDistinct c → suc i < length c → get_or c i 0 ≡ n → is_last c n ≡ false
unfolding is_last
not_last_at [] i n d lt e = absurd (omega arith)
not_last_at (m ∷ []) i n d lt e = absurd (omega arith)
not_last_at (m ∷ k ∷ ms) zero n d lt e =
    false_from_ne_true (is_last (k ∷ ms) n)
    (λ l. let P : ℕ → Type 0 = λ x. is_member (k ∷ ms) x ≡ true in both_ways (is_member (k ∷ ms) m) d.0 (subst P (sym e) (last_has (k ∷ ms) n l)))
not_last_at (m ∷ k ∷ ms) (suc i) n d lt e = not_last_at (k ∷ ms) i n d.1 (omega arith) e

pub sorted_distinct : (r : ℕ → ℕ) (c : List ℕ) → Sorted r c → IsDistinct c
sorted_distinct r [] s = tt
sorted_distinct r (m ∷ ms) s = (false_from_ne_true (is_member ms m) (λ h. let lt : r m < r m = s.0 m h in absurd (omega arith)), sorted_distinct r ms s.1)

pub is_member_contains : (c : List ℕ) (n : ℕ) → is_member c n ≡ true → Contains c n
is_member_contains [] n h = absurd (is_member_none n h)
is_member_contains (m ∷ ms) n h = ⊎_elim (λ e. (0, omega arith, e)) (λ i. let r : Contains ms n = is_member_contains ms n i in (suc r.0, omega (arith, r.1), r.2)) (is_member_cases m ms n h)

pub contains_has : (c : List ℕ) (n : ℕ) → Contains c n → is_member c n ≡ true
contains_has c n r = at c r.0 r.1 r.2
  where
    at : (c : List ℕ) (k : ℕ) → k < length c → get_or c k n ≡ n → is_member c n ≡ true
    at [] k lt e = absurd (omega arith)
    at (m ∷ ms) zero lt e = let P : ℕ → Type 0 = λ x. is_member (m ∷ ms) x ≡ true in subst P e (is_member_here m ms)
    at (m ∷ ms) (suc k) lt e = is_member_there m ms n (at ms k (omega arith) e)

pub without_filter : (c : List ℕ) (n : ℕ) → without c n ≡ filter (λ m. not (m == n)) c
unfolding without
without_filter [] n = refl
without_filter (m ∷ ms) n =
    cond_both (m == n) (without ms n) (m ∷ without ms n) (λ (l : List ℕ). l ≡ cond (not (m == n)) (m ∷ filter (λ m. not (m == n)) ms) (filter (λ m. not (m == n)) ms))
    (λ e. without_filter ms n ∙ sym (cond-false (not (m == n)) (m ∷ filter (λ m. not (m == n)) ms) (filter (λ m. not (m == n)) ms) (not_from_true (m == n) e)))
    (λ e. ap (λ l. m ∷ l) (without_filter ms n) ∙ sym (cond-true (not (m == n)) (m ∷ filter (λ m. not (m == n)) ms) (filter (λ m. not (m == n)) ms) (not_from_false (m == n) e)))
