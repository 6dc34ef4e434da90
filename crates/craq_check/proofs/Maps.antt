-- A tree's entries are a map by ascending key.
use Rattle.std.proofs.Common.{◌≡◌, ℕ, cond, List, [], ◌∷◌, Some, refl, ap, ◌∙◌}
use Rattle.std.specs.Cmp.{nat_cmp_total, tied_itself}
use Rattle.std.specs.Ordering.{nat_cmp}
use Rattle.std.specs.Map.{lookup}
use Rattle.std.specs.BTreeMap.{is_at, insert_entry}
use Rattle.std.specs.declared.cmp.Ordering.{Ordering}
use Rattle.std.specs.declared.cmp.Ordering.TheVariants.{Less, Equal, Greater}
use Rattle.std.specs.FinMap.Entries.{find, put, by_order}

pub found_is : {K X : Type 0} (R : K → K → Ordering) (k : K) (es : List (K × X)) → lookup (is_at (R k)) es ≡ find R k es
found_is R k [] = refl
found_is R k (e ∷ es) = ap (cond (is_at (R k) e.0) (Some e.1)) (found_is R k es)

later_same : {A : Type 0} (o : Ordering) (a b c d : A) → c ≡ d → by_order o a b c ≡ by_order o a b d
later_same Less a b c d h = refl
later_same Equal a b c d h = refl
later_same Greater a b c d h = h

pub put_is : {K X : Type 0} (R : K → K → Ordering) (k : K) (x : X) (es : List (K × X)) → insert_entry R es k x ≡ put R k x es
put_is R k x [] = refl
put_is R k x (e ∷ es) = later_same (R k e.0) ((k, x) ∷ e ∷ es) ((e.0, x) ∷ es) (e ∷ insert_entry R es k x) (e ∷ put R k x es) (ap (λ (rest : List _). e ∷ rest) (put_is R k x es))

put_over : {X : Type 0} (k : ℕ) (x y : X) (es : List (ℕ × X)) → put nat_cmp k x ((k, y) ∷ es) ≡ (k, x) ∷ es
put_over k x y es = ap (λ (o : Ordering). by_order o ((k, x) ∷ (k, y) ∷ es) ((k, x) ∷ es) ((k, y) ∷ put nat_cmp k x es)) (tied_itself nat_cmp_total k)

-- the second of two values put at one number replaces the first
pub put_again : {X : Type 0} (k : ℕ) (x y : X) (es : List (ℕ × X)) → put nat_cmp k x (put nat_cmp k y es) ≡ put nat_cmp k x es
put_again k x y [] = put_over k x y []
put_again k x y (e ∷ es) =
    let split : (o : Ordering) → nat_cmp k e.0 ≡ o → put nat_cmp k x (by_order o ((k, y) ∷ e ∷ es) ((e.0, y) ∷ es) (e ∷ put nat_cmp k y es)) ≡ by_order o ((k, x) ∷ e ∷ es) ((e.0, x) ∷ es) (e ∷ put nat_cmp k x es) = elim [
      | Less ↦ λ h. put_over k x y (e ∷ es)
      | Equal ↦ λ h. ap (λ (o : Ordering). by_order o ((k, x) ∷ (e.0, y) ∷ es) ((e.0, x) ∷ es) ((e.0, y) ∷ put nat_cmp k x es)) h
      | Greater ↦ λ h. ap (λ (o : Ordering). by_order o ((k, x) ∷ e ∷ put nat_cmp k y es) ((e.0, x) ∷ put nat_cmp k y es) (e ∷ put nat_cmp k x (put nat_cmp k y es))) h ∙ ap (λ (rest : List _). e ∷ rest) (put_again k x y es)
    ] in
    split (nat_cmp k e.0) refl
