-- Windows of kept replies.
use Rattle.std.proofs.Common.{◌≡◌, ℕ, suc, ◌-◌, [], ◌∷◌, length, Some, refl, ap, subst, arith}
use Rattle.std.specs.Prelude.{◌==◌, slice_get}
use Rattle.std.specs.Ordering.{nat_cmp, eq_by_cmp}
use Rattle.std.specs.Cmp.{unsigned_ties}
use Rattle.craq_commands.specs.Kept.{Kept, Window, largest}

-- the code's equality of numbers is the one by which maps are searched
pub same_numbers : (x y : ℕ) → (x == y) ≡ eq_by_cmp nat_cmp x y
same_numbers x y = unsigned_ties x y

-- the last number is the largest
last_is_largest : (w : Window) (n : ℕ) (k : Kept) → length w ≡ suc n → slice_get w n ≡ Some k → largest w ≡ k.0
last_is_largest [] n k e h = absurd (omega (arith, e))
last_is_largest (x ∷ []) n k e h =
    let z : n ≡ 0 = omega (arith, e) in
    let h' : slice_get (x ∷ []) 0 ≡ Some k = subst (λ (m : ℕ). slice_get (x ∷ []) m ≡ Some k) z h in
    let s : x ≡ k = cc in
    ap (λ (j : Kept). j.0) s
last_is_largest (x ∷ y ∷ ks) n k e h =
    let m : ℕ = length ks in
    let z : n ≡ suc m = omega (arith, e) in
    last_is_largest (y ∷ ks) m k refl (subst (λ (i : ℕ). slice_get (x ∷ y ∷ ks) i ≡ Some k) z h)

pub largest_last : (w : Window) (k : Kept) → slice_get w (length w - 1) ≡ Some k → largest w ≡ k.0
largest_last [] k h = cc
largest_last (x ∷ ks) k h =
    let e : length (x ∷ ks) - 1 ≡ length ks = omega arith in
    last_is_largest (x ∷ ks) (length ks) k refl (subst (λ (i : ℕ). slice_get (x ∷ ks) i ≡ Some k) e h)
