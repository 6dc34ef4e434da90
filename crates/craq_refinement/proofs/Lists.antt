-- Lists of entries at their positions, and properties of each element.
use Rattle.std.proofs.Common.{◌≡◌, ℕ, zero, suc, ◌+◌, List, [], ◌∷◌, ◌++◌, Some, length, take, slice_get, refl, ap, sym, subst, ◌∙◌, arith, append_assoc, length-append}
use Rattle.std.specs.List.{AllByRecursion}
use Rattle.craq_commands.specs.declared.entry.Entry.{Entry}
use Rattle.craq_protocol.specs.Machine.{entry_at}
use Rattle.craq_refinement.specs.Follows.{IsPlaced}

-- ---- properties of each element

pub all_back : {A : Type 0} (P : A → Type 0) (xs ys : List A) → AllByRecursion P (xs ++ ys) → AllByRecursion P ys
all_back P [] ys a = a
all_back P (x ∷ xs) ys a = all_back P xs ys a.1

pub all_at : {A : Type 0} (P : A → Type 0) (xs : List A) (i : ℕ) (x : A) → slice_get xs i ≡ Some x → AllByRecursion P xs → P x
all_at P [] i x h a = absurd (cc)
all_at P (y ∷ xs) zero x h a = let same : y ≡ x = cc in subst P same a.0
all_at P (y ∷ xs) (suc i) x h a = all_at P xs i x h a.1

-- ---- entries at their positions

pub placed_push : (k : ℕ) (es : List Entry) (e : Entry) → IsPlaced k es → e.position ≡ suc (k + length es) → IsPlaced k (es ++ e ∷ [])
placed_push k [] e p h = (omega arith, tt)
placed_push k (x ∷ xs) e p h = (p.0, placed_push (suc k) xs e p.1 (omega arith))

pub placed_take : (k i : ℕ) (es : List Entry) → IsPlaced k es → IsPlaced k (take i es)
placed_take k zero es p = tt
placed_take k (suc i) [] p = tt
placed_take k (suc i) (x ∷ xs) p = (p.0, placed_take (suc k) i xs p.1)

pub placed_back : (k : ℕ) (front es : List Entry) → IsPlaced k (front ++ es) → IsPlaced (k + length front) es
placed_back k [] es p = let P : ℕ → Type 0 = λ j. IsPlaced j es in let same : k ≡ k + 0 = omega arith in subst P same p
placed_back k (x ∷ front) es p =
    let P : ℕ → Type 0 = λ j. IsPlaced j es in
    let same : suc k + length front ≡ k + suc (length front) = omega arith in
    subst P same (placed_back (suc k) front es p.1)

get_at_length : {A : Type 0} (front : List A) (x : A) (xs : List A) → slice_get (front ++ x ∷ xs) (length front) ≡ Some x
get_at_length [] x xs = refl
get_at_length (y ∷ front) x xs = get_at_length front x xs

pub entry_at_length : {A : Type 0} (front : List A) (x : A) (xs : List A) (place : ℕ) → place ≡ suc (length front) → entry_at (front ++ x ∷ xs) place ≡ Some x
unfolding entry_at
entry_at_length front x xs place e = ap (entry_at (front ++ x ∷ xs)) e ∙ get_at_length front x xs

-- each entry is in the whole history at its position
pub placed_entries : (front es : List Entry) → IsPlaced (length front) es → AllByRecursion (λ (e : Entry). entry_at (front ++ es) e.position ≡ Some e) es
placed_entries front [] p = tt
placed_entries front (x ∷ xs) p =
    let len : length (front ++ x ∷ []) ≡ suc (length front) = omega (arith, length-append front (x ∷ [])) in
    let P : ℕ → Type 0 = λ j. IsPlaced j xs in
    let rest : AllByRecursion (λ (e : Entry). entry_at ((front ++ x ∷ []) ++ xs) e.position ≡ Some e) xs =
    placed_entries (front ++ x ∷ []) xs (subst P (sym len) p.1) in
    let Q : List Entry → Type 0 = λ l. AllByRecursion (λ (e : Entry). entry_at l e.position ≡ Some e) xs in
    (entry_at_length front x xs x.position p.0, subst Q (append_assoc front (x ∷ []) xs) rest)
