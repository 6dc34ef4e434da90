-- Consecutive entries, and those of them above a position.
use Rattle.std.proofs.Common.{◌≡◌, ℕ, zero, suc, ◌+◌, ◌<◌, ◌≤◌, nat_lt, true, List, [], ◌∷◌, length, drop, refl, sym, ap, subst, ◌∙◌, arith}
use Rattle.std.proofs.lemmas.Bool.{cond_both, cond-true, ltb-true, ltb-false, lt-ltb}
use Rattle.std.specs.List.{AllByRecursion}
use Rattle.craq_commands.specs.declared.entry.Entry.{Entry}
use Rattle.craq_model.specs.Deliveries.{first_position, final_position, entries_above}
use Rattle.craq_refinement.specs.Follows.{IsPlaced}

placed_after : (m n : ℕ) (es : List Entry) → m ≡ n → IsPlaced m es → IsPlaced n es
placed_after m n es e p = subst (λ (k : ℕ). IsPlaced k es) e p

pub placed_drop : (n k : ℕ) (es : List Entry) → IsPlaced n es → IsPlaced (n + k) (drop k es)
placed_drop n zero es p = placed_after n (n + 0) es (omega arith) p
placed_drop n (suc k) [] p = tt
placed_drop n (suc k) (e ∷ es) p = placed_after (suc n + k) (n + suc k) (drop k es) (omega arith) (placed_drop (suc n) k es p.1)

all_above : (n before : ℕ) (es : List Entry) → n ≤ before → IsPlaced before es → entries_above n es ≡ es
unfolding entries_above
all_above n before [] h p = refl
all_above n before (e ∷ es) h p =
    let here : nat_lt n e.position ≡ true = lt-ltb n e.position (omega (arith, h, p.0)) in
    cond-true (nat_lt n e.position) (e ∷ entries_above n es) (entries_above n es) here ∙ ap (λ (l : List Entry). e ∷ l) (all_above n (suc before) es (omega (arith, h)) p.1)

-- the entries above a length, if the list begins right after it or before
pub placed_above : (n before : ℕ) (es : List Entry) → IsPlaced before es → first_position es ≤ n + 1 → IsPlaced n (entries_above n es)
unfolding entries_above
placed_above n before [] p h = tt
placed_above n before (e ∷ es) p h =
    cond_both (nat_lt n e.position) (e ∷ entries_above n es) (entries_above n es) (λ (l : List Entry). IsPlaced n l)
    (λ t.
    let above : n < e.position = ltb-true n e.position t in
    let same : before ≡ n = omega (arith, above, h, p.0) in
    let rest : entries_above n es ≡ es = all_above n (suc before) es (omega (arith, same)) p.1 in
    (p.0 ∙ ap suc same, subst (λ (l : List Entry). IsPlaced (suc n) l) (sym rest) (placed_after (suc before) (suc n) es (ap suc same) p.1)))
    (λ f. placed_above n (suc before) es p.1 (begins es p.1 (ltb-false n e.position f)))
  where
    begins : (fs : List Entry) → IsPlaced (suc before) fs → e.position ≤ n → first_position fs ≤ n + 1
    begins [] q l = omega arith
    begins (f ∷ fs) q l = omega (arith, q.0, p.0, l)

pub all_of_above : (P : Entry → Type 0) (n : ℕ) (es : List Entry) → AllByRecursion P es → AllByRecursion P (entries_above n es)
unfolding entries_above
all_of_above P n [] a = tt
all_of_above P n (e ∷ es) a =
    cond_both (nat_lt n e.position) (e ∷ entries_above n es) (entries_above n es) (λ (l : List Entry). AllByRecursion P l)
    (λ t. (a.0, all_of_above P n es a.1))
    (λ f. all_of_above P n es a.1)

pub few_above : (n : ℕ) (es : List Entry) → length (entries_above n es) ≤ length es
unfolding entries_above
few_above n [] = omega arith
few_above n (e ∷ es) =
    let rest : length (entries_above n es) ≤ length es = few_above n es in
    cond_both (nat_lt n e.position) (e ∷ entries_above n es) (entries_above n es) (λ (l : List Entry). length l ≤ suc (length es))
    (λ t. omega (arith, rest))
    (λ f. omega (arith, rest))

pub some_above : (n : ℕ) (es : List Entry) → n < final_position es → 1 ≤ length (entries_above n es)
unfolding entries_above
some_above n [] h = absurd (omega (arith, h))
some_above n (e ∷ []) h =
    let none : List Entry = [] in
    let here : nat_lt n e.position ≡ true = lt-ltb n e.position h in
    subst (λ (l : List Entry). 1 ≤ length l) (sym (cond-true (nat_lt n e.position) (e ∷ none) none here)) (omega arith)
some_above n (e ∷ f ∷ es) h =
    let rest : 1 ≤ length (entries_above n (f ∷ es)) = some_above n (f ∷ es) h in
    cond_both (nat_lt n e.position) (e ∷ entries_above n (f ∷ es)) (entries_above n (f ∷ es)) (λ (l : List Entry). 1 ≤ length l)
    (λ t. omega arith)
    (λ f. rest)
