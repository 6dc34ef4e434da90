-- A world of one chain.
use Rattle.std.proofs.Common.{ℕ, List, [], ◌∷◌, arith}
use Rattle.craq_model.specs.Members.{IsMembership}
use Rattle.craq_world.specs.Worlds.{AreChains}

-- one membership is enough for a world
pub one_chain : (members : List ℕ) → IsMembership members → AreChains (members ∷ [])
one_chain members is = record { some = omega arith; few = omega arith; memberships = (is, tt) }
