-- The connections with work left move up in each round.
use Rattle.std.proofs.Common.{◌≡◌, ◌≤◌, ◌+◌, ◌⊎◌, ℕ, zero, suc, List, [], ◌∷◌, ◌++◌, ◌∙◌, ap, arith, drop, inl, inr, refl, subst, sym, take}
use Rattle.std.proofs.lemmas.List.{append_assoc}
use Rattle.craq_event_loop.specs.Rounds.{MoveUp}

-- the rest of two lists past their first ones
past_both : (n : ℕ) (xs ys : List ℕ) → (more : List ℕ) × (drop n (xs ++ ys) ≡ drop n xs ++ more)
past_both n [] ys = (drop n ys, none_before n)
  where
    none_before : (m : ℕ) → drop m ys ≡ drop m [] ++ drop m ys
    none_before zero = refl
    none_before (suc m) = refl
past_both zero (x ∷ xs) ys = (ys, refl)
past_both (suc n) (x ∷ xs) ys = past_both n xs ys

-- more came behind those that waited, then the first ones were served and may wait again
pub moved_up : (shares : ℕ) (old came stepped new after again : List ℕ) → came ≡ old → stepped ≡ came ++ after → new ≡ drop shares stepped ++ again → MoveUp shares old new
moved_up shares old came stepped new after again same more is =
    let whole : stepped ≡ old ++ after = more ∙ ap (λ (x : List ℕ). x ++ after) same in
    let past : (rest : List ℕ) × (drop shares (old ++ after) ≡ drop shares old ++ rest) = past_both shares old after in (
      past.0 ++ again,
      is ∙ ap (λ (x : List ℕ). drop shares x ++ again) whole ∙ ap (λ (x : List ℕ). x ++ again) past.1 ∙ append_assoc (drop shares old) past.0 again,
    )

none_first : (xs ys : List ℕ) → xs ++ ys ≡ [] → xs ≡ []
none_first [] ys none = refl
none_first (x ∷ xs) ys none = cc

-- after a round another one, if no connection waits then
pub moved_again : (shares : ℕ) (old mid new : List ℕ) → MoveUp shares old mid → (new ≡ mid) ⊎ (mid ≡ []) → MoveUp shares old new
moved_again shares old mid new up (inl same) = (up.0, same ∙ up.1)
moved_again shares old mid new up (inr none) =
    let gone : drop shares old ≡ [] = none_first (drop shares old) up.0 (sym up.1 ∙ none) in
    (new, sym (ap (λ (x : List ℕ). x ++ new) gone))

-- the first of the keys that were left is taken off
first_dropped : (xs rest : List ℕ) (n key : ℕ) → drop n xs ≡ key ∷ rest → drop (suc n) xs ≡ rest
first_dropped [] rest zero key is = cc
first_dropped [] rest (suc n) key is = cc
first_dropped (x ∷ xs) rest zero key is = cc
first_dropped (x ∷ xs) rest (suc n) key is = first_dropped xs rest n key is

first_taken : (xs rest : List ℕ) (n key : ℕ) → drop n xs ≡ key ∷ rest → take (suc n) xs ≡ take n xs ++ key ∷ []
first_taken [] rest zero key is = cc
first_taken [] rest (suc n) key is = cc
first_taken (x ∷ xs) rest zero key is = cc
first_taken (x ∷ xs) rest (suc n) key is = ap (λ (ys : List ℕ). x ∷ ys) (first_taken xs rest n key is)

pub one_dropped : (xs rest : List ℕ) (n key : ℕ) → drop n xs ≡ key ∷ rest → drop (n + 1) xs ≡ rest
one_dropped xs rest n key is =
    let next : suc n ≡ n + 1 = omega arith in
    subst (λ (m : ℕ). drop m xs ≡ rest) next (first_dropped xs rest n key is)

pub one_taken : (xs rest : List ℕ) (n key : ℕ) → drop n xs ≡ key ∷ rest → take (n + 1) xs ≡ take n xs ++ key ∷ []
one_taken xs rest n key is =
    let next : suc n ≡ n + 1 = omega arith in
    subst (λ (m : ℕ). take m xs ≡ take n xs ++ key ∷ []) next (first_taken xs rest n key is)

-- where none is left all are taken
pub none_to_drop : (xs : List ℕ) (n most : ℕ) → n ≤ most → drop n xs ≡ [] → drop most xs ≡ []
none_to_drop xs zero zero within none = none
none_to_drop [] n (suc most) within none = refl
none_to_drop (x ∷ xs) zero (suc most) within none = cc
none_to_drop (x ∷ xs) (suc n) zero within none = absurd (omega (arith, within))
none_to_drop [] (suc n) zero within none = absurd (omega (arith, within))
none_to_drop (x ∷ xs) (suc n) (suc most) within none = none_to_drop xs n most (omega (arith, within)) none

pub none_to_take : (xs : List ℕ) (n most : ℕ) → n ≤ most → drop n xs ≡ [] → take most xs ≡ take n xs
none_to_take xs zero zero within none = refl
none_to_take [] zero (suc most) within none = refl
none_to_take [] (suc n) (suc most) within none = refl
none_to_take (x ∷ xs) zero (suc most) within none = cc
none_to_take (x ∷ xs) (suc n) zero within none = absurd (omega (arith, within))
none_to_take [] (suc n) zero within none = absurd (omega (arith, within))
none_to_take (x ∷ xs) (suc n) (suc most) within none = ap (λ (ys : List ℕ). x ∷ ys) (none_to_take xs n most (omega (arith, within)) none)
