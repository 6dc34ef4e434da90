-- Writes that get their versions one after another.
use Rattle.std.proofs.Common.{◌≡◌, ℕ, ◌+◌, List, [], ◌∷◌, ◌++◌, map, subst, append_assoc}
use Rattle.craq_commands.specs.declared.entry.Write.{Write}
use Rattle.craq_commands.specs.Objects.{Objects, version_of}
use Rattle.craq_model.specs.Asks.{versioned_write}

pub one_more : (m : Objects) (made grown : List Write) (all rest left : List (List ℕ × List ℕ)) (key value : List ℕ) (version : ℕ) → made ++ map (versioned_write m) rest ≡ map (versioned_write m) all
    → rest ≡ (key, value) ∷ left → version ≡ version_of m key + 1 → grown ≡ made ++ record { key = key; version = version; value = value } ∷ [] → grown ++ map (versioned_write m) left ≡ map (versioned_write m) all
one_more m made grown all rest left key value version h e v g =
    rw (g, v, append_assoc) (subst (λ (ws : List (List ℕ × List ℕ)). made ++ map (versioned_write m) ws ≡ map (versioned_write m) all) e h)
