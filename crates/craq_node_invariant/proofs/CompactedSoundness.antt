-- The remembered part of a sound node is a sound node.
use Rattle.std.proofs.Common.{◌≡◌, ◌≤◌, ℕ, ◌+◌, ◌-◌, Bool, true, false, drop, subst, arith}
use Rattle.craq_names.proofs.Lists.{all_drop}
use Rattle.craq_model.specs.Plain.{Plain, clean}
use Rattle.craq_model.specs.Encodable.{IsEncodableEntry}
use Rattle.craq_node_invariant.specs.Sound.{AreInRow, IsSound}
use Rattle.craq_node_invariant.proofs.Applicable.{applicable_drop}
use Rattle.craq_node_invariant.proofs.Rows.{row_drop}
use Rattle.craq_node_invariant.proofs.States.{clean_is}
use Rattle.craq_node_invariant.specs.Compacted.{remembered}

next_after : (base acknowledged : ℕ) → base ≤ acknowledged → base + 1 + (acknowledged - base) ≡ acknowledged + 1
next_after base acknowledged h = omega (arith, h)

compacted_is : (p : Plain) → IsSound p → IsSound (remembered true p)
unfolding clean
compacted_is p s =
    let m : ℕ = p.past.acknowledged - p.past.base in
    let P : ℕ → Type 0 = λ n. AreInRow n (drop m p.past.entries) in
    grind (
      arith,
      clean_is p s,
      all_drop IsEncodableEntry m p.past.entries s.entries,
      subst P (next_after p.past.base p.past.acknowledged s.based) (row_drop (p.past.base + 1) m p.past.entries s.placed),
      applicable_drop p.past.base_state m p.past.entries s.applicable,
    )

pub remembered_is : (forgets : Bool) (p : Plain) → IsSound p → IsSound (remembered forgets p)
remembered_is true p s = compacted_is p s
remembered_is false p s = s
