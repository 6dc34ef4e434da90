-- Sorted lines.
use Rattle.std.specs.Prelude.{⊤, List, [], ◌∷◌}
use Rattle.craq_seat.specs.Merge.{IsBefore, MergedStep}

-- no line precedes the one before it
abbrev pub AreSorted : List MergedStep → Type 0
AreSorted [] = ⊤
AreSorted (a ∷ []) = ⊤
AreSorted (a ∷ b ∷ ls) = (¬ IsBefore b a) × AreSorted (b ∷ ls)
