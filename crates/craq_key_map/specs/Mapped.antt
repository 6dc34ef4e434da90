-- Items by key, in the order in which their keys came.
use Rattle.std.specs.Prelude.{◌≡◌, ℕ, ◌%◌, List, map, length, Option, Some, slice_get}
use Rattle.std.specs.List.{IsDistinct}
use Rattle.std.specs.Option.{option_map}
use Rattle.std.specs.Ordering.{eq_by_cmp}
use Rattle.std.specs.FinMap.{entries, from_entries}
use Rattle.craq_names.specs.Maps.{at_key, key_cmp}
use Rattle.craq_key_map.specs.declared.sip.Sip.{Sip}
use Rattle.craq_key_map.specs.Hashed.{digest_of}
use Rattle.craq_key_map.specs.Indexed.{Indexed, Knows}

-- keys with their items
abbrev pub Mapped : Type 0 → Type 0
Mapped T = List (List ℕ × T)

abbrev pub keys_in : {T : Type 0} → Mapped T → List (List ℕ)
keys_in m = map (λ e. e.0) m

-- each key is there once
abbrev pub AreDistinct : {T : Type 0} → Mapped T → Type 0
AreDistinct m = IsDistinct (eq_by_cmp key_cmp) (keys_in m)

-- the keys, sorted, each with its item
abbrev pub entries_of : {T : Type 0} → Mapped T → List (List ℕ × T)
entries_of m = entries (from_entries {R = key_cmp} m)

-- all keys of a map with their items, each once, in any order
pub record AreEntries {T : Type 0} (es : Mapped T) (m : Mapped T) : Type 0 where
  pub distinct : AreDistinct es
  pub found : (key : List ℕ) → at_key es key ≡ at_key m key

-- the key at a place
abbrev pub key_of : {T : Type 0} → Mapped T → ℕ → Option (List ℕ)
key_of m place = option_map (λ e. e.0) (slice_get m place)

-- the hash of a key, by the secret bytes
abbrev pub hash_of : Sip → List ℕ → ℕ
hash_of fed key = digest_of fed key % 4294967296

-- each key is there once, and the index has its place
pub record IsMapped {T : Type 0} (m : Mapped T) (count : ℕ) (index : Indexed) (fed : Sip) : Type 0 where
  pub counted : count ≡ length m
  pub distinct : AreDistinct m
  pub found : (place : ℕ) (key : List ℕ) → key_of m place ≡ Some key → Knows index (hash_of fed key) place
