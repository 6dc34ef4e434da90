-- One pass tests every prefix: the test of a shorter prefix is not repeated for a longer one.
use Rattle.std.proofs.Common.{◌≡◌, ℕ, zero, suc, ◌+◌, ◌<◌, ◌≤◌, add-one, length, get_or, drop-cons, ap, Bool, true, false, take, drop, List, [], ◌∷◌, refl, sym, subst, ◌∙◌, arith}
use Rattle.std.specs.Prelude.{nat_le, max}
use Rattle.std.specs.List.{list_all}
use Rattle.craq_check.specs.Tests.{asked_in_time}
use Rattle.craq_check.proofs.Bools.{and_both, both_and, first_met}
use Rattle.craq_check.proofs.Lists.{at_most, most_at}

-- if the first m pass, the first n do if those between do
pub rest_passes : {A : Type 0} (p : A → Bool) (xs : List A) (m n : ℕ) → list_all p (take m xs) ≡ true → m ≤ n → list_all p (drop m (take n xs)) ≡ list_all p (take n xs)
rest_passes p xs zero n h low = refl
rest_passes p [] (suc m) zero h low = refl
rest_passes p [] (suc m) (suc n) h low = refl
rest_passes p (x ∷ xs) (suc m) zero h low = let bad : ⊥ = omega (arith, low) in absurd bad
rest_passes p (x ∷ xs) (suc m) (suc n) h low =
    let b : (p x ≡ true) × (list_all p (take m xs) ≡ true) = and_both (p x) (list_all p (take m xs)) h in
    rest_passes p xs m n b.1 (omega (arith, low)) ∙ first_met (p x) (list_all p (take n xs)) b.0

-- if the first m pass, fewer do
pub fewer_pass : {A : Type 0} (p : A → Bool) (xs : List A) (m n : ℕ) → list_all p (take m xs) ≡ true → n ≤ m → list_all p (take n xs) ≡ true
fewer_pass p [] m zero h low = refl
fewer_pass p [] m (suc n) h low = refl
fewer_pass p (x ∷ xs) m zero h low = refl
fewer_pass p (x ∷ xs) zero (suc n) h low = let bad : ⊥ = omega (arith, low) in absurd bad
fewer_pass p (x ∷ xs) (suc m) (suc n) h low =
    let b : (p x ≡ true) × (list_all p (take m xs) ≡ true) = and_both (p x) (list_all p (take m xs)) h in
    both_and (p x) (list_all p (take n xs)) b.0 (fewer_pass p xs m n b.1 (omega (arith, low)))

-- a request in time for a number is in time for the next
pub later_pass : (xs : List ℕ) (n : ℕ) → list_all (λ a. nat_le a n) xs ≡ true → list_all (λ a. nat_le a (n + 1)) xs ≡ true
later_pass [] n h = refl
later_pass (x ∷ xs) n h =
    let b : (nat_le x n ≡ true) × (list_all (λ a. nat_le a n) xs ≡ true) = and_both (nat_le x n) (list_all (λ a. nat_le a n) xs) h in
    let low : x ≤ n = at_most x n b.0 in
    both_and (nat_le x (n + 1)) (list_all (λ a. nat_le a (n + 1)) xs) (most_at x (n + 1) (omega (arith, low))) (later_pass xs n b.1)

max_pass : {A : Type 0} (p : A → Bool) (xs : List A) (m n : ℕ) (b : Bool) → nat_le m n ≡ b → list_all p (take m xs) ≡ true → list_all p (take n xs) ≡ true → list_all p (take (max m n) xs) ≡ true
max_pass p xs m n true e h k =
    let low : m ≤ n = at_most m n e in
    let at : n ≡ max m n = omega (arith, low) in
    let P : ℕ → Type 0 = λ j. list_all p (take j xs) ≡ true in
    subst P at k
max_pass p xs m n false e h k =
    let low : n ≤ m = grind (arith, e) in
    let at : m ≡ max m n = omega (arith, low) in
    let P : ℕ → Type 0 = λ j. list_all p (take j xs) ≡ true in
    subst P at h

-- if the first m pass and the first n do, the first max m n do
pub both_pass : {A : Type 0} (p : A → Bool) (xs : List A) (m n : ℕ) → list_all p (take m xs) ≡ true → list_all p (take n xs) ≡ true → list_all p (take (max m n) xs) ≡ true
both_pass p xs m n h k = max_pass p xs m n (nat_le m n) refl h k

-- the pass goes on after a move whose committed updates are in time
pub time_passed : (asks lens : List ℕ) (number i : ℕ) → i < length lens → list_all (λ a. nat_le a number) (take (get_or lens i 0) asks) ≡ true → asked_in_time asks (number + 1) (drop (i + 1) lens) ≡ asked_in_time asks number (drop i lens)
unfolding asked_in_time
time_passed asks lens number i low h =
    ap (λ n. asked_in_time asks (number + 1) (drop n lens)) (add-one i)
    ∙ first_met (list_all (λ a. nat_le a number) (take (get_or lens i 0) asks)) (asked_in_time asks (number + 1) (drop (suc i) lens)) h
    ∙ ap (asked_in_time asks number) (sym (drop-cons lens i 0 low))
