-- The number of occurrences of an id in a list.
use Rattle.std.proofs.Common.{◌≡◌, ◌≤◌, ℕ, ◌+◌, ◌==◌, false, if◌then◌else◌, List, [], ◌∷◌, ◌++◌, refl, arith, inl, inr}
use Rattle.std.specs.Prelude.{nat_eq, IsPermutation}
use Rattle.std.specs.List.{AllByRecursion, IsDistinct, sum_by}
use Rattle.std.proofs.lemmas.List.Sorted.{sum_by-IsPermutation}
use Rattle.std.proofs.lemmas.List.Sums.{sum_by-cons}
use Rattle.craq_model.specs.Members.{is_member}
use Rattle.craq_causality.proofs.Orders.{IsIn}

abbrev pub once : ℕ → ℕ → ℕ
once id x = if x == id then 1 else 0

abbrev pub count : ℕ → List ℕ → ℕ
count id xs = sum_by (once id) xs

pub count_cons : (id x : ℕ) (xs : List ℕ) → count id (x ∷ xs) ≡ once id x + count id xs
count_cons id x xs = sum_by-cons (once id) x xs

-- a permutation keeps the count
pub count_same : (id : ℕ) (xs ys : List ℕ) → IsPermutation xs ys → count id ys ≡ count id xs
count_same id xs ys p = sum_by-IsPermutation (once id) xs ys p

pub none_counted : (xs : List ℕ) (id : ℕ) → is_member xs id ≡ false → count id xs ≡ 0
unfolding is_member
none_counted [] id h = refl
none_counted (x ∷ xs) id h = grind (arith, h, count_cons id x xs, none_counted xs id)

pub count_push : (id : ℕ) (xs : List ℕ) (x : ℕ) → count id (xs ++ x ∷ []) ≡ count id xs + once id x
count_push id [] x = grind (arith, count_cons id x [])
count_push id (y ∷ xs) x = let h = count_push id xs x in let a = count_cons id y xs in let b = count_cons id y (xs ++ x ∷ []) in omega (arith, h, a, b)

pub is_counted : (xs : List ℕ) (id : ℕ) → IsIn xs id → 1 ≤ count id xs
is_counted [] id i = absurd i
is_counted (x ∷ xs) id (inl e) = grind (arith, e, count_cons id x xs)
is_counted (x ∷ xs) id (inr i) = let h = is_counted xs id i in let a = count_cons id x xs in omega (arith, h, a)

absent : (xs : List ℕ) (id : ℕ) → AllByRecursion (λ y. nat_eq id y ≡ false) xs → count id xs ≡ 0
absent [] id a = refl
absent (x ∷ xs) id a = let h = a.0 in let k = absent xs id a.1 in grind (arith, h, k, count_cons id x xs)

pub distinct_once : (xs : List ℕ) (id : ℕ) → IsDistinct nat_eq xs → count id xs ≤ 1
unfolding IsDistinct
distinct_once [] id d = omega arith
distinct_once (x ∷ xs) id d = let k = absent xs x d.0 in let h = distinct_once xs id d.1 in grind (arith, h, k, count_cons id x xs)

pub none_is_zero : (xs : List ℕ) (high : ℕ) → AllByRecursion (λ id. (1 ≤ id) × (id ≤ high)) xs → count 0 xs ≡ 0
none_is_zero [] high a = refl
none_is_zero (x ∷ xs) high a = let h = a.0.0 in let k = none_is_zero xs high a.1 in grind (arith, h, k, count_cons 0 x xs)
