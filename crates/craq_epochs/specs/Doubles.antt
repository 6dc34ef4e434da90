-- Lists of ids with duplicates.
use Rattle.std.specs.Prelude.{ℕ, Bool, false, ◌||◌, List, [], ◌∷◌}
use Rattle.craq_model.specs.Members.{is_member}

-- some id occurs twice
abbrev pub stands_twice : List ℕ → Bool
stands_twice [] = false
stands_twice (m ∷ ms) = is_member ms m || stands_twice ms
