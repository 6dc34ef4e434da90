-- A new chain of 1 to 8 nodes follows the definitions.
use Rattle.std.proofs.Common.{◌≡◌, ◌≤◌, ◌<◌, ◌++◌, ℕ, zero, suc, false, eqb, List, [], ◌∷◌, length, refl, arith, length-append}
use Rattle.std.specs.Prelude.{nat_eq}
use Rattle.std.specs.List.{AllByRecursion, IsDistinct}
use Rattle.std.proofs.lemmas.Bool.{ne_eqb}
use Rattle.craq_names.specs.Limits.{greatest_count}
use Rattle.craq_names.proofs.Lists.{all_append}
use Rattle.craq_model.specs.Members.{IsMembership}
use Rattle.craq_runs.specs.Typed.{IsTypedRunOf}
use Rattle.craq_play.specs.Played.{first_ids, script_opening}

as_many : (n : ℕ) → length (first_ids n) ≡ n
as_many zero = refl
as_many (suc n) = let fewer = as_many n in omega (arith, length-append (first_ids n) (suc n ∷ []))

all_below : (n m : ℕ) → n < m → AllByRecursion (λ id. id < m) (first_ids n)
all_below zero m h = tt
all_below (suc n) m h = all_append (λ id. id < m) (first_ids n) (suc n ∷ []) (all_below n m (omega arith)) (h, tt)

all_ids : (n : ℕ) → n ≤ greatest_count → AllByRecursion (λ id. (1 ≤ id) × (id ≤ greatest_count)) (first_ids n)
all_ids zero h = tt
all_ids (suc n) h = all_append (λ id. (1 ≤ id) × (id ≤ greatest_count)) (first_ids n) (suc n ∷ []) (all_ids n (omega arith)) ((omega arith, h), tt)

distinct_with : (ids : List ℕ) (id : ℕ) → IsDistinct nat_eq ids → AllByRecursion (λ other. other < id) ids → IsDistinct nat_eq (ids ++ id ∷ [])
unfolding IsDistinct
distinct_with [] id h below = (tt, tt)
distinct_with (other ∷ ids) id h below =
    let apart : eqb other id ≡ false = ne_eqb other id (λ e. omega (arith, e, below.0)) in
    (all_append (λ x. nat_eq other x ≡ false) ids (id ∷ []) h.0 (apart, tt), distinct_with ids id h.1 below.1)

all_distinct : (n : ℕ) → IsDistinct nat_eq (first_ids n)
unfolding IsDistinct
all_distinct zero = tt
all_distinct (suc n) = distinct_with (first_ids n) (suc n) (all_distinct n) (all_below n (suc n) (omega arith))

pub opening_runs : (nodes : ℕ) → 1 ≤ nodes → nodes ≤ 8 → IsTypedRunOf (script_opening nodes).chain (script_opening nodes).run
opening_runs nodes some few =
    let many = as_many nodes in
    let members : IsMembership (first_ids nodes) = record { some = omega (arith, many); few = omega (arith, many); ids = all_ids nodes (omega arith); distinct = all_distinct nodes } in
    record { run_of = record { members = members; moves = tt }; typed = tt }
