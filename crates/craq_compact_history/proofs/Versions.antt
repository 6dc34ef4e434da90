-- The version of the last of some values.
use Rattle.std.proofs.Common.{◌≡◌, ℕ, List, [], ◌∷◌, refl}
use Rattle.craq_full_history.specs.Scans.{last_value}
use Rattle.craq_compact_history.specs.Later.{last_version}

pub version_of_last : (found : ℕ × List ℕ) (vs : List (ℕ × List ℕ)) → last_version found.0 vs ≡ (last_value found vs).0
unfolding last_value last_version
version_of_last found [] = refl
version_of_last found (v ∷ vs) = version_of_last v vs
