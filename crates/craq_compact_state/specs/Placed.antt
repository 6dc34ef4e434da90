-- Objects by key, each with its versions and the locations of their values.
use Rattle.std.specs.Prelude.{◌≡◌, ◌⊎◌, ℕ, ◌-◌, Bool, true, false, T, List, [], ◌∷◌, Option, None, Some, drop, length, take, unwrap_or}
use Rattle.std.specs.FinMap.Entries.{is_sorted}
use Rattle.craq_names.specs.Maps.{key_cmp}
use Rattle.craq_names.specs.Places.{filled}
use Rattle.craq_commands.specs.declared.entry.Write.{Write}
use Rattle.craq_commands.specs.declared.state.State.{State}
use Rattle.craq_commands.specs.Kept.{Window}
use Rattle.craq_commands.specs.Objects.{Objects}
use Rattle.craq_model.specs.Past.{values_in}
use Rattle.craq_versions.specs.Tables.{Held, Table, held_at}
use Rattle.craq_versions.specs.Versions.{newest_of, IsNext}
use Rattle.craq_compact_state.specs.declared.value_locations.ValueLocation.{ValueLocation}
use Rattle.craq_compact_state.specs.declared.value_locations.ValueLocation.TheVariants.{Settled, Written}

-- versions, sorted by key
abbrev pub Placed : Type 0
Placed = Table ValueLocation

-- a version and its value, if it is settled
abbrev pub settled_there : ℕ → ValueLocation → Option (ℕ × List ℕ)
settled_there version (Settled value) = Some (version, value)
settled_there version (Written at) = None

-- the settled version and its value: only the first may be settled
abbrev pub settled_in : List (ℕ × ValueLocation) → Option (ℕ × List ℕ)
settled_in [] = None
settled_in (v ∷ vs) = settled_there v.0 v.1

abbrev pub later_from : ValueLocation → List (ℕ × ValueLocation) → List (ℕ × ValueLocation) → List (ℕ × ValueLocation)
later_from (Settled value) all rest = rest
later_from (Written at) all rest = all

-- the versions after the settled one
abbrev pub later_in : List (ℕ × ValueLocation) → List (ℕ × ValueLocation)
later_in [] = []
later_in (v ∷ vs) = later_from v.1 (v ∷ vs) vs

abbrev pub has_some : List (ℕ × ValueLocation) → Bool
has_some [] = false
has_some (v ∷ vs) = true

abbrev pub shown : Held ValueLocation → Option (ℕ × List ℕ)
shown h = settled_in h.versions

-- the objects of the settled versions
abbrev pub objects_of : Placed → Objects
objects_of t = filled shown t.objects

-- the state of these objects and kept replies
abbrev pub state_at : Objects → List (ℕ × Window) → State
state_at objects kept = record { objects = objects; kept = kept }

-- the settled version, 0 if none is settled
abbrev pub settled_version : List (ℕ × ValueLocation) → ℕ
settled_version vs = (unwrap_or (settled_in vs) (0, [])).0

-- the versions of an object
abbrev pub versions_of : Placed → List ℕ → List (ℕ × ValueLocation)
versions_of t key = (held_at t key).versions

-- the versions of an object after the settled one
abbrev pub later_of : Placed → List ℕ → List (ℕ × ValueLocation)
later_of t key = later_in (versions_of t key)

abbrev pub value_number : Option (ℕ × ValueLocation) → ℕ
value_number None = 0
value_number (Some v) = v.0

-- the newest version, 0 if there is none
abbrev pub newest_version : List (ℕ × ValueLocation) → ℕ
newest_version vs = value_number (newest_of vs)

-- the first version is this one
abbrev pub StartsAt : ℕ → List (ℕ × ValueLocation) → Type 0
StartsAt version [] = ⊥
StartsAt version (v ∷ vs) = v.0 ≡ version

-- the version can be settled: it is the oldest later one or, without later ones, the next after the
-- settled one
abbrev pub SettlesNext : List (ℕ × ValueLocation) → ℕ → Type 0
SettlesNext vs version = StartsAt version (later_in vs) ⊎ ((later_in vs ≡ []) × IsNext version (newest_of vs))

-- the keys are strictly increasing
abbrev pub IsRising : Placed → Type 0
IsRising t = T (is_sorted key_cmp t.objects)

-- the keys are strictly increasing, and each object's settled version is the clean one
pub record IsPlaced (t : Placed) : Type 0 where
  pub rising : IsRising t
  pub clean : (key : List ℕ) → (held_at t key).clean ≡ settled_version (versions_of t key)

-- each object keeps its later versions
abbrev pub KeepsLater : Placed → Placed → Type 0
KeepsLater t u = (key : List ℕ) → later_of u key ≡ later_of t key

-- the number of versions that writes give an object
abbrev pub count_of : List Write → List ℕ → ℕ
count_of ws key = length (values_in ws key)

-- from each object's later versions, as many of the oldest are dropped as these writes give it
abbrev pub LaterWithout : List Write → Placed → Placed → Type 0
LaterWithout ws t u = (key : List ℕ) → later_of u key ≡ drop (count_of ws key) (later_of t key)

-- from each object's later versions, as many of the newest are dropped as these writes give it
abbrev pub LaterTakenBack : List Write → Placed → Placed → Type 0
LaterTakenBack ws t u = (key : List ℕ) → later_of u key ≡ take (length (later_of t key) - count_of ws key) (later_of t key)
