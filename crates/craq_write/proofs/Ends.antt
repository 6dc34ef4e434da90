-- Facts about drop and take at the end of a list.
use Rattle.std.proofs.Common.{◌≡◌, ℕ, zero, suc, ◌+◌, ◌-◌, ◌≤◌, List, [], ◌∷◌, ◌++◌, length, take, drop, refl, ap, arith}
use Rattle.std.proofs.Math.ListN.{drop_of_length-le}
use Rattle.std.proofs.lemmas.List.{drop-append-le}

pub nothing_after_all : {A : Type 0} (base : ℕ) (xs : List A) → drop (base + length xs - base) xs ≡ []
nothing_after_all base xs = drop_of_length-le xs (search arith)

-- items appended at the end come after any prefix
pub more_after : {A : Type 0} (base acknowledged : ℕ) (xs ys : List A) → acknowledged ≤ base + length xs
    → drop (acknowledged - base) (xs ++ ys) ≡ drop (acknowledged - base) xs ++ ys
more_after base acknowledged xs ys h = drop-append-le (acknowledged - base) xs ys (search arith)

-- the empty list has no items after an index
pub none_after : {A : Type 0} (place : ℕ) → drop {A = A} place [] ≡ []
none_after place = drop_of_length-le [] (search arith)

-- a shorter prefix of a prefix
pub take_fewer : {A : Type 0} (m n : ℕ) (xs : List A) → m ≤ n → take m (take n xs) ≡ take m xs
take_fewer zero n xs h = refl
take_fewer (suc m) zero xs h = absurd (omega (arith, h))
take_fewer (suc m) (suc n) [] h = refl
take_fewer (suc m) (suc n) (x ∷ xs) h = ap (λ l. x ∷ l) (take_fewer m n xs (omega (arith, h)))
