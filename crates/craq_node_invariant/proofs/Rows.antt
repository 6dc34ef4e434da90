-- Consecutive entries.
use Rattle.std.proofs.Common.{◌≡◌, ◌≤◌, ◌<◌, ℕ, zero, suc, ◌+◌, nat_lt, true, List, [], ◌∷◌, ◌++◌, length, take, drop, refl, sym, ap, subst, ◌∙◌, arith}
use Rattle.std.proofs.lemmas.Bool.{cond_both, cond-true, ltb-true, ltb-false, lt-ltb}
use Rattle.craq_commands.specs.declared.entry.Entry.{Entry}
use Rattle.craq_model.specs.Deliveries.{first_position, entries_above}
use Rattle.craq_model.specs.Encodable.{IsConsecutive}
use Rattle.craq_node_invariant.specs.Sound.{AreInRow}

moved : (m n : ℕ) (es : List Entry) → m ≡ n → AreInRow m es → AreInRow n es
moved m n es e a = subst (λ (k : ℕ). AreInRow k es) e a

pub row_append : (n : ℕ) (xs ys : List Entry) → AreInRow n xs → AreInRow (n + length xs) ys → AreInRow n (xs ++ ys)
row_append n [] ys a b = moved (n + 0) n ys (omega arith) b
row_append n (x ∷ xs) ys a b = (a.0, row_append (n + 1) xs ys a.1 (moved (n + suc (length xs)) (n + 1 + length xs) ys (omega arith) b))

pub row_take : (n k : ℕ) (es : List Entry) → AreInRow n es → AreInRow n (take k es)
row_take n zero es a = tt
row_take n (suc k) [] a = tt
row_take n (suc k) (e ∷ es) a = (a.0, row_take (n + 1) k es a.1)

pub row_drop : (n k : ℕ) (es : List Entry) → AreInRow n es → AreInRow (n + k) (drop k es)
row_drop n zero es a = moved n (n + 0) es (omega arith) a
row_drop n (suc k) [] a = tt
row_drop n (suc k) (e ∷ es) a = moved (n + 1 + k) (n + suc k) (drop k es) (omega arith) (row_drop (n + 1) k es a.1)

pub row_consecutive : (n : ℕ) (es : List Entry) → AreInRow n es → IsConsecutive es
row_consecutive n [] a = tt
row_consecutive n (e ∷ []) a = tt
row_consecutive n (e ∷ f ∷ es) a = (omega (arith, a.0, a.1.0), row_consecutive (n + 1) (f ∷ es) a.1)

consecutive_row : (e : Entry) (es : List Entry) → IsConsecutive (e ∷ es) → AreInRow e.position (e ∷ es)
consecutive_row e [] c = (refl, tt)
consecutive_row e (f ∷ es) c = (refl, moved f.position (e.position + 1) (f ∷ es) c.0 (consecutive_row f es c.1))

tail_consecutive : (e : Entry) (es : List Entry) → IsConsecutive (e ∷ es) → IsConsecutive es
tail_consecutive e [] c = tt
tail_consecutive e (f ∷ es) c = c.1

all_above : (n m : ℕ) (es : List Entry) → n < m → AreInRow m es → entries_above n es ≡ es
unfolding entries_above
all_above n m [] h a = refl
all_above n m (e ∷ es) h a =
    let here : nat_lt n e.position ≡ true = lt-ltb n e.position (omega (arith, h, a.0)) in
    cond-true (nat_lt n e.position) (e ∷ entries_above n es) (entries_above n es) here ∙ ap (λ (l : List Entry). e ∷ l) (all_above n (m + 1) es (omega (arith, h)) a.1)

-- the entries above a length, of consecutive ones that start right after it or earlier
pub above_in_row : (n : ℕ) (es : List Entry) → IsConsecutive es → first_position es ≤ n + 1 → AreInRow (n + 1) (entries_above n es)
unfolding entries_above
above_in_row n [] c h = tt
above_in_row n (e ∷ es) c h =
    cond_both (nat_lt n e.position) (e ∷ entries_above n es) (entries_above n es) (λ (l : List Entry). AreInRow (n + 1) l)
    (λ t.
    let above : n < e.position = ltb-true n e.position t in
    let here : e.position ≡ n + 1 = omega (arith, above, h) in
    let rest : AreInRow (e.position + 1) es = (consecutive_row e es c).1 in
    (here, subst (λ (l : List Entry). AreInRow (n + 1 + 1) l) (sym (all_above n (e.position + 1) es (omega (arith, above)) rest)) (moved (e.position + 1) (n + 1 + 1) es (omega (arith, here)) rest)))
    (λ f. above_in_row n es (tail_consecutive e es c) (first_of es c (ltb-false n e.position f)))
  where
    first_of : (fs : List Entry) → IsConsecutive (e ∷ fs) → e.position ≤ n → first_position fs ≤ n + 1
    first_of [] c l = omega arith
    first_of (f ∷ fs) c l = omega (arith, c.0, l)
