-- A chain before any move.
use Rattle.std.proofs.Common.{◌≡◌, ◌≤◌, ◌<◌, ℕ, zero, suc, true, List, [], ◌∷◌, ◌++◌, length, map, get_or, refl, sym, ap, subst, arith, eq-eqb}
use Rattle.std.specs.List.{AllZip, AllByRecursion}
use Rattle.craq_names.specs.Limits.{greatest_count}
use Rattle.craq_model.specs.Members.{IsMembership, is_member}
use Rattle.craq_model.specs.Plain.{Plain, id_of, opening_member}
use Rattle.craq_epochs.specs.Mastered.{Mastered}
use Rattle.craq_epochs.specs.Mastered as mastered
use Rattle.craq_chain.specs.Chained.{openings, opened_chain}
use Rattle.craq_chain.specs.Standing.{IsStanding}

ids_of : (chain : ℕ) (all ids : List ℕ) → map id_of (openings chain all ids) ≡ ids
ids_of chain all [] = refl
ids_of chain all (id ∷ ids) = ap (λ xs. id ∷ xs) (ids_of chain all ids)

named : (chain : ℕ) (all ids : List ℕ) → AllByRecursion (λ (p : Plain). p.name.chain ≡ chain) (openings chain all ids)
named chain all [] = tt
named chain all (id ∷ ids) = (refl, named chain all ids)

pub openings_push : (chain : ℕ) (all ids : List ℕ) (id : ℕ) → openings chain all (ids ++ id ∷ []) ≡ openings chain all ids ++ opening_member (record { chain = chain; node = id }) all ∷ []
openings_push chain all [] id = refl
openings_push chain all (i ∷ ids) id = ap (λ ps. opening_member (record { chain = chain; node = i }) all ∷ ps) (openings_push chain all ids id)

-- each id of a membership is at least 1
pub id_from_one : (ids : List ℕ) (i : ℕ) → AllByRecursion (λ id. (1 ≤ id) × (id ≤ greatest_count)) ids → i < length ids → 1 ≤ get_or ids i 0
id_from_one [] i h w = absurd (omega (arith, w))
id_from_one (id ∷ ids) zero h w = h.0.0
id_from_one (id ∷ ids) (suc i) h w = id_from_one ids i h.1 (omega (arith, w))

pub own_member : (ids : List ℕ) (i : ℕ) → i < length ids → is_member ids (get_or ids i 0) ≡ true
unfolding is_member
own_member [] i w = absurd (omega (arith, w))
own_member (id ∷ ids) zero w = rw (eq-eqb id id refl) refl
own_member (id ∷ ids) (suc i) w = let later = own_member ids i (omega (arith, w)) in grind arith

-- the parts before any move
pub opening_stands : {C : Type 0} (R : C → Plain → Type 0) (cs : List C) (m : Mastered) (chain : ℕ) (members : List ℕ) → m ≡ mastered.opened_master chain members → IsMembership members → AllZip R cs (openings chain members members) → IsStanding R cs m [] (opened_chain chain members)
opening_stands R cs m chain members is h nodes =
    record {
      parts = record { nodes = nodes; master = subst (λ xs. m ≡ record { chain = chain; epoch = 1; members = members; used = xs }) (sym (ids_of chain members members)) is; names = named chain members members };
      run = record { run_of = record { members = h; moves = tt }; typed = tt };
      counts = refl;
      messages = refl;
      moves = refl;
      spelled = tt;
    }
