-- The result of a scan of values.
use Rattle.std.specs.Prelude.{ℕ, List, [], ◌∷◌}

-- the last of these values, or `found` if there is none
unfoldable pub last_value : ℕ × List ℕ → List (ℕ × List ℕ) → ℕ × List ℕ
last_value found [] = found
last_value found (v ∷ vs) = last_value v vs
