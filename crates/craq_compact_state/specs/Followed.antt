-- Consecutive versions.
use Rattle.std.specs.Prelude.{◌≡◌, ◌⊎◌, ⊤, ℕ, ◌+◌, ◌≤◌, List, [], ◌∷◌}
use Rattle.craq_commands.specs.declared.entry.Entry.{Entry}
use Rattle.craq_commands.specs.declared.state.State.{State}
use Rattle.craq_commands.specs.Objects.{version_of}
use Rattle.craq_model.specs.Past.{values_after}
use Rattle.craq_compact_state.specs.declared.value_locations.ValueLocation.{ValueLocation}
use Rattle.craq_compact_state.specs.Placed.{later_in, newest_version}

-- each version is one above the one before it, and the first one above `version`
abbrev pub AreNext : ℕ → List (ℕ × List ℕ) → Type 0
AreNext version [] = ⊤
AreNext version (v ∷ vs) = (v.0 ≡ version + 1) × AreNext v.0 vs

-- for each object, the entries write its next versions after the state
abbrev pub AreNextVersions : State → List Entry → Type 0
AreNextVersions s es = (key : List ℕ) → AreNext (version_of s.objects key) (values_after es key)

-- the versions start with these
abbrev pub Begins : List (ℕ × List ℕ) → List (ℕ × ValueLocation) → Type 0
Begins [] vs = ⊤
Begins (w ∷ ws) [] = ⊥
Begins (w ∷ ws) (v ∷ vs) = (v.0 ≡ w.0) × Begins ws vs

-- these values can be settled one after another: the object's later versions start with them, or it
-- has none and they follow its settled one
abbrev pub CanApply : List (ℕ × List ℕ) → List (ℕ × ValueLocation) → Type 0
CanApply values vs = Begins values (later_in vs) ⊎ ((later_in vs ≡ []) × (1 ≤ newest_version vs) × AreNext (newest_version vs) values)
