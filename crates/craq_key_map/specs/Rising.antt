-- The entries of a map in the order of their keys, one after another.
use Rattle.std.specs.Borrow.{Bor}
use Rattle.std.specs.Prelude.{◌≡◌, ℕ, ◌&&◌, Bool, true, if◌then◌else◌, List, [], ◌∷◌, Option, Some, None}
use Rattle.std.specs.Option.{option_map}
use Rattle.std.specs.Ordering.{is_lt}
use Rattle.std.specs.FinMap.Entries.{where_key}
use Rattle.craq_names.specs.Maps.{key_cmp}
use Rattle.craq_key_map.specs.Mapped.{Mapped as Bucket}

-- the key is greater than the last one, if there is a last one
abbrev pub is_above : Option (List ℕ) → List ℕ → Bool
is_above None key = true
is_above (Some last) key = is_lt (key_cmp last key)

-- the entries whose keys are greater than the last one
abbrev pub entries_above : {T : Type 0} → Option (List ℕ) → Bucket T → Bucket T
entries_above last es = where_key key_cmp (is_above last) es

-- the entry has the lesser key, or there is no other one
abbrev pub is_less : {T : Type 0} → List ℕ × T → Option (List ℕ × T) → Bool
is_less e None = true
is_less e (Some least) = is_lt (key_cmp e.0 least.0)

-- the entry if its key is above the last one and less than the other one's, else the other one
abbrev pub lesser : {T : Type 0} → Option (List ℕ) → Option (List ℕ × T) → List ℕ × T → Option (List ℕ × T)
lesser last least e = if is_above last e.0 && is_less e least then Some e else least

-- the entry with the least key above the last one, of these and another one
abbrev pub least_of : {T : Type 0} → Option (List ℕ) → Option (List ℕ × T) → Bucket T → Option (List ℕ × T)
least_of last least [] = least
least_of last least (e ∷ es) = least_of last (lesser last least e) es

-- the key and the item behind references
abbrev pub lent_pair : {T : Type 0} → Bor (List ℕ) × Bor T → List ℕ × T
lent_pair e = (e.0.now, e.1.now)

-- the entry behind references, if there is one
abbrev pub lent_least : {T : Type 0} → Option (Bor (List ℕ) × Bor T) → Option (List ℕ × T)
lent_least least = option_map lent_pair least

-- the first of the entries above the last one, and those after it; nothing exactly if there is none
abbrev pub IsNext : {T : Type 0} → Bucket T → Option (List ℕ) → Option (List ℕ × T) → Type 0
IsNext es last None = entries_above last es ≡ []
IsNext es last (Some e) = entries_above last es ≡ e ∷ entries_above (Some e.0) es
