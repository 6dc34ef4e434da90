-- Loops that search a list.
use Rattle.std.proofs.Common.{◌≡◌, ◌<◌, ◌≤◌, ℕ, zero, suc, ◌+◌, List, [], ◌∷◌, length, take, drop, get_or, Some, sym, subst, ap, arith, inl, inr}
use Rattle.std.specs.Prelude.{slice_get}
use Rattle.std.specs.List.{AllByRecursion}
use Rattle.craq_audit.specs.Lookups.{Found, IsFirstNot}

-- ---- one item has the property

pub found_here : {X : Type 0} (P : X → Type 0) (xs : List X) (i : ℕ) (x : X) → i < length xs → x ≡ get_or xs i x → P x → Found P xs
found_here P [] i x less is p = absurd (omega (arith, less))
found_here P (y ∷ xs) zero x less is p = inl (subst P is p)
found_here P (y ∷ xs) (suc i) x less is p = inr (found_here P xs i x (omega (arith, less)) is p)

later : {X : Type 0} (P : X → Type 0) (xs : List X) (i : ℕ) (x : X) → i < length xs → x ≡ get_or xs i x → ¬ P x → Found P (drop i xs) → Found P (drop (suc i) xs)
later P [] i x less is n f = absurd (omega (arith, less))
later P (y ∷ xs) zero x less is n (inl p) = absurd (n (subst P (sym is) p))
later P (y ∷ xs) zero x less is n (inr f) = f
later P (y ∷ xs) (suc i) x less is n f = later P xs i x (omega (arith, less)) is n f

pub found_next : {X : Type 0} (P : X → Type 0) (xs : List X) (i : ℕ) (x : X) → i < length xs → x ≡ get_or xs i x → ¬ P x → (Found P xs → Found P (drop i xs)) → Found P xs → Found P (drop (i + 1) xs)
found_next P xs i x less is n f h =
    let e : i + 1 ≡ suc i = omega arith in
    rw e (later P xs i x less is n (f h))

pub none_left : {X : Type 0} (P : X → Type 0) (xs : List X) (i : ℕ) → length xs ≤ i → ¬ Found P (drop i xs)
none_left P [] zero h = λ f. f
none_left P [] (suc i) h = λ f. f
none_left P (y ∷ xs) zero h = absurd (omega (arith, h))
none_left P (y ∷ xs) (suc i) h = none_left P xs i (omega (arith, h))

pub not_found : {X : Type 0} (P : X → Type 0) (xs : List X) (i : ℕ) → length xs ≤ i → (Found P xs → Found P (drop i xs)) → ¬ Found P xs
not_found P xs i h f = λ k. none_left P xs i h (f k)

-- ---- all items have the property

pub all_next : {X : Type 0} (P : X → Type 0) (xs : List X) (i : ℕ) (x : X) → i < length xs → x ≡ get_or xs i x → P x → AllByRecursion P (take i xs) → AllByRecursion P (take (i + 1) xs)
all_next P [] i x less is p h = absurd (omega (arith, less))
all_next P (y ∷ xs) zero x less is p h = (subst P is p, tt)
all_next P (y ∷ xs) (suc i) x less is p h =
    let e : suc i + 1 ≡ suc (i + 1) = omega arith in
    rw e (h.0, all_next P xs i x (omega (arith, less)) is p h.1)

pub all_whole : {X : Type 0} (P : X → Type 0) (xs : List X) (i : ℕ) → length xs ≤ i → AllByRecursion P (take i xs) → AllByRecursion P xs
all_whole P [] i less h = tt
all_whole P (y ∷ xs) zero less h = absurd (omega (arith, less))
all_whole P (y ∷ xs) (suc i) less h = (h.0, all_whole P xs i (omega (arith, less)) h.1)

pub not_all : {X : Type 0} (P : X → Type 0) (xs : List X) (i : ℕ) (x : X) → i < length xs → x ≡ get_or xs i x → ¬ P x → ¬ AllByRecursion P xs
not_all P [] i x less is n = absurd (omega (arith, less))
not_all P (y ∷ xs) zero x less is n = λ h. n (subst P (sym is) h.0)
not_all P (y ∷ xs) (suc i) x less is n = λ h. not_all P xs i x (omega (arith, less)) is n h.1

got : {X : Type 0} (xs : List X) (i : ℕ) (x : X) → i < length xs → x ≡ get_or xs i x → slice_get xs i ≡ Some x
got [] i x less is = absurd (omega (arith, less))
got (y ∷ xs) zero x less is = ap Some (sym is)
got (y ∷ xs) (suc i) x less is = got xs i x (omega (arith, less)) is

pub first_not : {X : Type 0} (P : X → Type 0) (xs : List X) (i : ℕ) (x : X) → i < length xs → x ≡ get_or xs i x → ¬ P x → AllByRecursion P (take i xs) → IsFirstNot P xs i
first_not P xs i x less is n h = record { not_so = (x, got xs i x less is, n); earlier = h }
