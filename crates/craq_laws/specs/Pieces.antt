-- Lists cut from the front into pieces of one size.
use Rattle.std.specs.Prelude.{◌≡◌, ◌≤◌, ⊤, ℕ, List, [], ◌∷◌}

-- each piece except the last has n items, and the last has 1 to n
abbrev pub AreFullButLast : {A : Type 0} → (A → ℕ) → ℕ → List A → Type 0
AreFullButLast count n [] = ⊤
AreFullButLast count n (x ∷ []) = (1 ≤ count x) × (count x ≤ n)
AreFullButLast count n (x ∷ y ∷ ys) = (count x ≡ n) × AreFullButLast count n (y ∷ ys)
