-- The opening of a chain.
use Rattle.std.proofs.Common.{◌≡◌, ⊎_elim, ℕ, ◌==◌, true, false, cond, List, [], ◌∷◌, map, Option, Some, refl, ap, sym, subst, ◌∙◌, arith, nat_eq}
use Rattle.std.proofs.lemmas.Bool.{cond_both, cond-true, false_from_ne_true, both_ways, eq-eqb, eqb-true}
use Rattle.std.specs.List.{AllByRecursion, IsDistinct}
use Rattle.craq_model.specs.Plain.{Plain, id_of, opening_member}
use Rattle.craq_protocol.specs.Members as protocol
use Rattle.craq_protocol.specs.Members.{is_member, membership_of}
use Rattle.craq_protocol.specs.Machine.{initial_state}
use Rattle.craq_protocol.proofs.Lists.{is_member_cases, is_member_here, is_member_there, is_member_none}
use Rattle.craq_runs.specs.Chain.{node_at, opening_chain}
use Rattle.craq_refinement.specs.Follows.{seen_of, NodeFollows, Follows}

opened : (chain : ℕ) (members ids : List ℕ) (id : ℕ) (p : Plain) → node_at (map (λ id. opening_member (record { chain = chain; node = id }) members) ids) id ≡ Some p
    → (opening_member (record { chain = chain; node = id }) members ≡ p) × (is_member ids id ≡ true)
unfolding node_at
opened chain members [] id p h = absurd (cc)
opened chain members (m ∷ ids) id p h =
    let q : ℕ → Plain = λ id. opening_member (record { chain = chain; node = id }) members in
    let rest : Option Plain = node_at (map q ids) id in
    cond_both (m == id) (Some (q m)) rest (λ (o : Option Plain). o ≡ Some p → (q id ≡ p) × (is_member (m ∷ ids) id ≡ true))
    (λ e i.
    let same : m ≡ id = eqb-true m id e in
    let here : q m ≡ p = cc in
    let P : ℕ → Type 0 = λ j. is_member (m ∷ ids) j ≡ true in
    (ap q (sym same) ∙ here, subst P same (is_member_here m ids)))
    (λ e i. let r : (q id ≡ p) × (is_member ids id ≡ true) = opened chain members ids id p i in (r.0, is_member_there m ids id r.1))
    h

ids_opened : (chain : ℕ) (members ids : List ℕ) → ids ≡ map id_of (map (λ id. opening_member (record { chain = chain; node = id }) members) ids)
ids_opened chain members [] = refl
ids_opened chain members (m ∷ ids) = ap (λ l. m ∷ l) (ids_opened chain members ids)

member_follows : (chain : ℕ) (members : List ℕ) (id : ℕ) → is_member members id ≡ true → NodeFollows (initial_state members) (seen_of (opening_member (record { chain = chain; node = id }) members))
unfolding membership_of
member_follows chain members id m =
    let one : cond (is_member members id) 1 0 ≡ 1 = cond-true (is_member members id) 1 0 m in
    record {
      running = m;
      epoch = one;
      members = ap (membership_of (members ∷ [])) one;
      ready = m;
      history = record { front = []; whole = refl; count = refl; after = refl };
      placed = tt;
      acknowledged = refl;
      based = omega arith;
      floor = refl;
      gathering = tt;
    }

pub opening_follows : (chain : ℕ) (members : List ℕ) → Follows (opening_chain chain members) (initial_state members)
unfolding membership_of
opening_follows chain members = record {
  epoch = refl;
  members = refl;
  joined = ids_opened chain members members;
  nodes = λ id p h.
      let a : (opening_member (record { chain = chain; node = id }) members ≡ p) × (is_member members id ≡ true) = opened chain members members id p h in
      let P : Plain → Type 0 = λ p. NodeFollows (initial_state members) (seen_of p) in
      subst P a.0 (member_follows chain members id a.1);
  messages = tt;
}

absent : (m : ℕ) (ms : List ℕ) → AllByRecursion (λ k. nat_eq m k ≡ false) ms → is_member ms m ≡ false
absent m [] a = false_from_ne_true (is_member [] m) (λ h. is_member_none m h)
absent m (k ∷ ms) a =
    false_from_ne_true (is_member (k ∷ ms) m)
    (λ h. ⊎_elim (λ e. both_ways (nat_eq m k) a.0 (eq-eqb m k (sym e))) (λ i. both_ways (is_member ms m) (absent m ms a.1) i) (is_member_cases k ms m h))

pub distinct_members : (ms : List ℕ) → IsDistinct nat_eq ms → protocol.IsDistinct ms
unfolding IsDistinct
distinct_members [] d = tt
distinct_members (m ∷ ms) d = (absent m ms d.0, distinct_members ms d.1)
