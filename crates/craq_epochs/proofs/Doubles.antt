-- Lists of ids without duplicates.
use Rattle.std.proofs.Common.{◌≡◌, ℕ, false, List, [], ◌∷◌, arith, refl}
use Rattle.std.specs.Prelude.{nat_eq}
use Rattle.std.specs.List.{IsDistinct, AllByRecursion}
use Rattle.craq_model.specs.Members.{is_member}
use Rattle.craq_epochs.specs.Doubles.{stands_twice}

none_is : (m : ℕ) (ms : List ℕ) → is_member ms m ≡ false → AllByRecursion (λ k. nat_eq m k ≡ false) ms
unfolding is_member
none_is m [] h = tt
none_is m (k ∷ ks) h = grind (arith, h, none_is m ks)

pub distinct_unless_twice : (ms : List ℕ) → stands_twice ms ≡ false → IsDistinct nat_eq ms
unfolding IsDistinct
distinct_unless_twice [] h = tt
distinct_unless_twice (m ∷ ms) h = grind (arith, h, none_is m ms, distinct_unless_twice ms)

is_none : (m : ℕ) (ms : List ℕ) → AllByRecursion (λ k. nat_eq m k ≡ false) ms → is_member ms m ≡ false
unfolding is_member
is_none m [] h = refl
is_none m (k ∷ ks) h = grind (arith, h.0, is_none m ks h.1)

pub once_where_distinct : (ms : List ℕ) → IsDistinct nat_eq ms → stands_twice ms ≡ false
unfolding IsDistinct
once_where_distinct [] h = refl
once_where_distinct (m ∷ ms) h = grind (arith, is_none m ms h.0, once_where_distinct ms h.1)
