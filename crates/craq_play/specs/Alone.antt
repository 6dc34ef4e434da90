-- A world of one chain.
use Rattle.std.specs.Prelude.{◌≡◌, ℕ, List, [], ◌∷◌}
use Rattle.craq_chain.specs.Chained.{Chained, opened_chain}

-- the first chain of a world
abbrev pub only_chain : List Chained → Chained
only_chain [] = opened_chain 0 []
only_chain (w ∷ ws) = w

-- the world has this chain alone, with id 0
abbrev pub IsAlone : List Chained → Type 0
IsAlone ws = (ws ≡ only_chain ws ∷ []) × ((only_chain ws).chain ≡ 0)
