-- The connections with work left that a thread serves in a round, and those that wait for a later one.
use Rattle.std.specs.Prelude.{◌≡◌, ℕ, Bool, List, ◌++◌, drop, filter, take}

-- the keys of the connections with work left after a round served the first `shares` of these: first those that it did not serve, in
-- their order, then those that it served and that have work left again
abbrev pub left_after : ℕ → (ℕ → Bool) → List ℕ → List ℕ
left_after shares has_work behind = drop shares behind ++ filter has_work (take shares behind)

-- in a round the first `shares` of the connections with work left were served, the others moved up in their order, and more came behind
-- them
abbrev pub MoveUp : ℕ → List ℕ → List ℕ → Type 0
MoveUp shares old new = (more : List ℕ) × (new ≡ drop shares old ++ more)
