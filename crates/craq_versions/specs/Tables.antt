-- Versions of objects by key, with reserved room.
use Rattle.std.specs.Prelude.{◌≡◌, ℕ, ◌≤◌, false, max, List, [], ◌∷◌, ◌++◌, map, Option, Some, None, slice_get, unwrap_or}
use Rattle.std.specs.Borrow.{Bor}
use Rattle.craq_names.specs.Maps.{at_key, same_bytes}
use Rattle.craq_key_map.specs.Mapped.{Mapped, entries_of, keys_in}
use Rattle.craq_versions.specs.Versions.{Versions, clean_without, versions_from, versions_settled, without_newest}
use Rattle.craq_names.specs.Places.{filled}

-- the versions of one object, and the clean one, 0 if none is clean
pub record Held (V : Type 0) : Type 0 where
  pub versions : List (ℕ × V)
  pub clean : ℕ

pub record Table (V : Type 0) : Type 0 where
  pub objects : List (List ℕ × Held V)  -- the keys with versions, sorted
  pub rooms : List (List ℕ × ℕ)  -- by key, the number of further versions that need no allocation
  pub places : List (List ℕ)  -- the keys with lists, in the order of the lists' places

-- no versions
abbrev pub nothing : {V : Type 0} → Held V
nothing = record { versions = []; clean = 0 }

-- one clean version with its held item
abbrev pub only_clean : {V : Type 0} → ℕ → V → Held V
only_clean version held = record { versions = (version, held) ∷ []; clean = version }

-- the versions of a key
abbrev pub held_at : {V : Type 0} → Table V → List ℕ → Held V
held_at t key = unwrap_or (at_key t.objects key) nothing

-- the number of further versions of a key that need no allocation
abbrev pub room_at : {V : Type 0} → Table V → List ℕ → ℕ
room_at t key = unwrap_or (at_key t.rooms key) 0

-- the key of the list at a place, if there is one
abbrev pub key_at : {V : Type 0} → Table V → ℕ → Option (List ℕ)
key_at t place = slice_get t.places place

-- a key has no list: neither versions nor room
pub record HasNoList {V : Type 0} (t : Table V) (key : List ℕ) : Type 0 where
  pub versions : at_key t.objects key ≡ None
  pub room : room_at t key ≡ 0

-- one more version
abbrev pub pushed : {V : Type 0} → Held V → ℕ → V → Held V
pushed h version held = record h { versions = h.versions ++ (version, held) ∷ [] }

-- this version becomes clean, and the older ones are dropped
abbrev pub settled : {V : Type 0} → Held V → ℕ → Held V
settled h version = record { versions = versions_from h.versions version; clean = max h.clean version }

-- this version becomes clean with this held item, and the older ones are dropped
abbrev pub settled_as : {V : Type 0} → Held V → ℕ → V → Held V
settled_as h version held = record { versions = versions_settled h.versions version held; clean = version }

-- the newest version is removed
abbrev pub popped : {V : Type 0} → Held V → Held V
popped h = record { versions = without_newest h.versions; clean = clean_without h.versions h.clean }

-- no key has less room than before
abbrev pub KeepsRoom : {V : Type 0} → Table V → Table V → Type 0
KeepsRoom s t = (q : List ℕ) → room_at s q ≤ room_at t q

-- no other key has less room than before
abbrev pub KeepsOthersRoom : {V : Type 0} → Table V → Table V → List ℕ → Type 0
KeepsOthersRoom s t key = (q : List ℕ) → same_bytes key q ≡ false → room_at s q ≤ room_at t q

-- a list's versions and its clean version
abbrev pub held_in : {V : Type 0} → Versions V → Held V
held_in l = record { versions = l.versions; clean = l.clean }

abbrev pub unless_empty : {V : Type 0} → List (ℕ × V) → Held V → Option (Held V)
unless_empty [] held = None
unless_empty (v ∷ vs) held = Some held

-- a list's versions, if it has some
abbrev pub shown : {V : Type 0} → Versions V → Option (Held V)
shown l = unless_empty l.versions (held_in l)

abbrev pub Entries : Type 0 → Type 0
Entries V = List (List ℕ × Versions V)

-- the table of these lists, each at its place; a list without versions only reserves room
abbrev pub table_of : {V : Type 0} → Entries V → Table V
table_of {V} es = record { objects = filled shown es; rooms = map (λ (e : List ℕ × Versions V). (e.0, e.1.room)) es; places = keys_in es }

-- the table of a map's lists: by key they are sorted, by place they stand as in the map
abbrev pub table_in : {V : Type 0} → Mapped (Versions V) → Table V
table_in m = record (table_of (entries_of m)) { places = keys_in m }

-- a key with its list's versions
abbrev pub shown_pair : {V : Type 0} → Bor (List ℕ) × Bor (Versions V) → List ℕ × Held V
shown_pair p = (p.0.now, held_in p.1.now)

abbrev pub shown_key : Bor (List ℕ) → List ℕ
shown_key key = key.now
