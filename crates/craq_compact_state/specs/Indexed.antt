-- The index of entries' writes.
use Rattle.std.specs.Prelude.{◌≡◌, ℕ, ◌+◌, ◌-◌, ◌≤◌, if◌then◌else◌, List, [], ◌∷◌, ◌++◌, Some, drop, length, nat_le, slice_get, take}
use Rattle.craq_names.specs.Maps.{same_bytes}
use Rattle.craq_commands.specs.declared.entry.Entry.{Entry}
use Rattle.craq_commands.specs.declared.entry.Write.{Write}
use Rattle.craq_model.specs.Past.{values_after}
use Rattle.craq_log.specs.Suffixed.{Suffixed, length_of}
use Rattle.craq_compact_state.specs.declared.value_locations.ValueLocation.{ValueLocation}
use Rattle.craq_compact_state.specs.declared.value_locations.ValueLocation.TheVariants.{Settled, Written}
use Rattle.craq_compact_state.specs.declared.value_locations.WriteRef.{WriteRef}
use Rattle.craq_compact_state.specs.Placed.{Placed, later_of}

-- the version that a write gives, and its location
abbrev pub version_at : ℕ → ℕ → Write → ℕ × ValueLocation
version_at position index w = (w.version, Written (record { position = position; index = index }))

-- the versions that an entry's writes from an index on give an object, and their locations
unfoldable pub written_in : ℕ → ℕ → List Write → List ℕ → List (ℕ × ValueLocation)
written_in position index [] key = []
written_in position index (w ∷ ws) key = if same_bytes w.key key then version_at position index w ∷ written_in position (index + 1) ws key else written_in position (index + 1) ws key

-- the versions that entries after a position give an object, and their locations
unfoldable pub written_after : ℕ → List Entry → List ℕ → List (ℕ × ValueLocation)
written_after base [] key = []
written_after base (e ∷ es) key = written_in (base + 1) 0 e.writes key ++ written_after (base + 1) es key

-- up to this position entries are indexed while memory suffices: none of at most `few`, else all but the last `unindexed`
abbrev pub most_indexed : ℕ → ℕ → ℕ → List Entry → ℕ
most_indexed few unindexed base entries = if nat_le (length entries) few then base else base + length entries - unindexed

-- each object's later versions are those that the entries up to a position give it
pub record AreIndexed (ps : Placed) (entries : Suffixed) (indexed : ℕ) : Type 0 where
  pub from : entries.base ≤ indexed
  pub to : indexed ≤ length_of entries
  pub later : (key : List ℕ) → later_of ps key ≡ written_after entries.base (take (indexed - entries.base) entries.entries) key

-- from each object's later versions those are dropped that the entries up to the new base give it
abbrev pub LaterAreSettled : Placed → Suffixed → Placed → Suffixed → Type 0
LaterAreSettled ps old qs new = (key : List ℕ) → later_of qs key ≡ drop (length (values_after (take (new.base - old.base) old.entries) key)) (later_of ps key)

-- this version and value are written there, in an entry after `earlier` others
pub record GivesValue (s : Suffixed) (at : WriteRef) (value : ℕ × List ℕ) : Type 0 where
  pub earlier : ℕ
  pub entry : Entry
  pub write : Write
  pub position : at.position ≡ s.base + earlier + 1
  pub its_entry : slice_get s.entries earlier ≡ Some entry
  pub its_write : slice_get entry.writes at.index ≡ Some write
  pub given : value ≡ (write.version, write.value)

abbrev pub StandsThere : Suffixed → ℕ → ValueLocation → ℕ × List ℕ → Type 0
StandsThere s version (Settled bytes) value = (version, bytes) ≡ value
StandsThere s version (Written at) value = (version ≡ value.0) × GivesValue s at value

-- this version has this value at its location
abbrev pub Stands : Suffixed → ℕ × ValueLocation → ℕ × List ℕ → Type 0
Stands s v value = StandsThere s v.0 v.1 value

abbrev pub GivenThere : Suffixed → ℕ → ValueLocation → ℕ × List ℕ → Type 0
GivenThere s version (Settled bytes) value = ⊥
GivenThere s version (Written at) value = (version ≡ value.0) × GivesValue s at value

-- an entry gives this version and value, at this location
abbrev pub IsGiven : Suffixed → ℕ × ValueLocation → ℕ × List ℕ → Type 0
IsGiven s v value = GivenThere s v.0 v.1 value
