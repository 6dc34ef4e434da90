-- Objects, each with its version and value.
use Rattle.std.specs.Prelude.{ℕ, ◌+◌, List, [], ◌∷◌, unwrap_or}
use Rattle.craq_names.specs.Maps.{at_key, put_key}

-- keys with version and value, sorted by key
abbrev pub Objects : Type 0
Objects = List (List ℕ × (ℕ × List ℕ))

-- the version and value at a key; an absent object has version 0 and no bytes
unfoldable pub object_of : Objects → List ℕ → ℕ × List ℕ
object_of m key = unwrap_or (at_key m key) (0, [])

abbrev pub version_of : Objects → List ℕ → ℕ
version_of m key = (object_of m key).0

abbrev pub value_of : Objects → List ℕ → List ℕ
value_of m key = (object_of m key).1

-- the objects with this version and value at a key
unfoldable pub set_object : Objects → List ℕ → ℕ → List ℕ → Objects
set_object m key version value = put_key m key (version, value)

-- one write: the value, as the next version
abbrev pub written : Objects → List ℕ × List ℕ → Objects
written m w = set_object m w.0 (version_of m w.0 + 1) w.1

-- several writes, one after another
abbrev pub all_written : Objects → List (List ℕ × List ℕ) → Objects
all_written m [] = m
all_written m (w ∷ ws) = all_written (written m w) ws
