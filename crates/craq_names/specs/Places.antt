-- Optional values sorted by key: slots, some of them empty.
use Rattle.std.specs.Prelude.{List, [], ◌∷◌, Option, Some, None}

-- the list with this slot's entry in front; unchanged if the slot is empty
abbrev pub with_filled : {K X : Type 0} → K → Option X → List (K × X) → List (K × X)
with_filled key None others = others
with_filled key (Some x) others = (key, x) ∷ others

-- the entries of the filled slots, where `f` gives the content of each slot
abbrev pub filled : {K V X : Type 0} → (V → Option X) → List (K × V) → List (K × X)
filled f [] = []
filled f (e ∷ es) = with_filled e.0 (f e.1) (filled f es)
