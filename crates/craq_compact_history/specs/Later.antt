-- The version after a scan of values, and the last byte of a key.
use Rattle.std.specs.Prelude.{ℕ, ◌-◌, List, [], ◌∷◌, length, slice_index}

-- the version of the last of these values, or `version` if there is none
unfoldable pub last_version : ℕ → List (ℕ × List ℕ) → ℕ
last_version version [] = version
last_version version (v ∷ vs) = last_version v.0 vs

-- the last byte of a key
abbrev pub last_byte : List ℕ → ℕ
last_byte bs = slice_index bs (length bs - 1)
