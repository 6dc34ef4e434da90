-- A node satisfies the invariant before its first step.
use Rattle.std.proofs.Common.{◌≤◌, ℕ, List, arith}
use Rattle.craq_names.specs.Limits.{greatest_count}
use Rattle.craq_names.specs.declared.name.NodeName.{NodeName}
use Rattle.craq_names.proofs.Lists.{all_like}
use Rattle.craq_model.specs.Members.{IsMembership}
use Rattle.craq_model.specs.Plain.{opening_member, opening_joined}
use Rattle.craq_node_invariant.specs.Sound.{IsSound}

pub member_is_sound : (name : NodeName) (members : List ℕ) → 1 ≤ name.node → IsMembership members → IsSound (opening_member name members)
member_is_sound name members own m = grind (arith, all_like (λ (id : ℕ). (1 ≤ id) × (id ≤ greatest_count)) (λ (id : ℕ). 1 ≤ id) members (λ id h. h.0) m.ids)

pub joined_is_sound : (name : NodeName) → 1 ≤ name.node → IsSound (opening_joined name)
joined_is_sound name own = grind arith
