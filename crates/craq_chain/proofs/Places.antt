-- The places of nodes among those of a chain.
use Rattle.std.proofs.Common.{◌≡◌, ◌≤◌, ◌<◌, ◌+◌, ◌==◌, ℕ, zero, suc, true, false, List, [], ◌∷◌, ◌++◌, length, set, drop, slice_index_or, Some, None, refl, sym, subst, arith}
use Rattle.std.specs.Prelude.{is_some}
use Rattle.std.proofs.lemmas.Bool.{eqb-true}
use Rattle.std.specs.List.{AllZip}
use Rattle.craq_model.specs.Plain.{Plain, id_of}
use Rattle.craq_runs.specs.Chain.{node_at, set_node}
use Rattle.craq_chain.specs.Parts.{place_from}

-- the node in a place, and the nodes after it
pub record Here {C : Type 0} (R : C → Plain → Type 0) (ps : List Plain) (i : ℕ) (c : C) : Type 0 where
  pub node : Plain
  pub stands : R c node
  pub rest : drop i ps ≡ node ∷ drop (suc i) ps

pub node_here : {C : Type 0} (R : C → Plain → Type 0) (cs : List C) (ps : List Plain) (i : ℕ) (c : C) → AllZip R cs ps → i < length cs → c ≡ slice_index_or cs i c → Here R ps i c
node_here R [] [] i c h m is = absurd (omega (arith, m))
node_here R (x ∷ cs) (p ∷ ps) zero c h m is = record { node = p; stands = subst (λ y. R y p) (sym is) h.0; rest = refl }
node_here R (x ∷ cs) (p ∷ ps) (suc i) c h m is =
    let s = node_here R cs ps i c h.1 (omega (arith, m)) is in
    record { node = s.node; stands = s.stands; rest = s.rest }
node_here R [] (p ∷ ps) i c h m is = absurd h
node_here R (x ∷ cs) [] i c h m is = absurd h

-- past the last core there is no node
pub none_left : {C : Type 0} (R : C → Plain → Type 0) (cs : List C) (ps : List Plain) → AllZip R cs ps → drop (length cs) ps ≡ []
none_left R [] [] h = refl
none_left R (x ∷ cs) (p ∷ ps) h = none_left R cs ps h.1
none_left R [] (p ∷ ps) h = absurd h
none_left R (x ∷ cs) [] h = absurd h

-- no place: no node
pub no_node : (k : ℕ) (ps : List Plain) (id : ℕ) → place_from k ps id ≡ None → node_at ps id ≡ None
unfolding node_at
no_node k [] id h = refl
no_node k (p ∷ ps) id h = grind (arith, no_node (k + 1) ps id)

-- a place: a node
pub place_known : (k j : ℕ) (ps : List Plain) (id : ℕ) → place_from k ps id ≡ Some j → is_some (node_at ps id) ≡ true
unfolding node_at
place_known k j [] id h = cc
place_known k j (p ∷ ps) id h = grind (arith, place_known (k + 1) j ps id)

-- the search goes on, or ends here
pub place_goes_on : (k : ℕ) (ps : List Plain) (p : Plain) (id : ℕ) → drop k ps ≡ p ∷ drop (suc k) ps → (id_of p == id) ≡ false → place_from k (drop k ps) id ≡ place_from (k + 1) (drop (k + 1) ps) id
place_goes_on k ps p id e f =
    let next : suc k ≡ k + 1 = omega arith in
    subst (λ n. place_from k (drop k ps) id ≡ place_from (k + 1) (drop n ps) id) next (rw (e, f) refl)

pub place_ends : (k : ℕ) (ps : List Plain) (p : Plain) (id : ℕ) → drop k ps ≡ p ∷ drop (suc k) ps → (id_of p == id) ≡ true → place_from k (drop k ps) id ≡ Some k
place_ends k ps p id e f = rw (e, f) refl

pub place_none : (k : ℕ) (ps : List Plain) (id : ℕ) → drop k ps ≡ [] → place_from k (drop k ps) id ≡ None
place_none k ps id e = rw e refl

-- a place is not before the first
not_before : (k j : ℕ) (ps : List Plain) (id : ℕ) → place_from k ps id ≡ Some j → k ≤ j
not_before k j [] id h = cc
not_before k j (p ∷ ps) id h = grind (arith, not_before (k + 1) j ps id)

pub place_within : (k j : ℕ) (ps : List Plain) (id : ℕ) → place_from k ps id ≡ Some j → j < k + length ps
place_within k j [] id h = cc
place_within k j (p ∷ ps) id h = grind (arith, place_within (k + 1) j ps id)

first_place : (k : ℕ) (p : Plain) (ps : List Plain) (id : ℕ) → place_from k (p ∷ ps) id ≡ Some k → (id_of p == id) ≡ true
first_place k p ps id h = grind (arith, not_before (k + 1) k ps id)

later_place : (k i : ℕ) (p : Plain) (ps : List Plain) (id : ℕ) → place_from k (p ∷ ps) id ≡ Some (k + suc i) → ((id_of p == id) ≡ false) × (place_from (k + 1) ps id ≡ Some (k + 1 + i))
later_place k i p ps id h = grind arith

-- the node of a place
pub record Stands {C : Type 0} (R : C → Plain → Type 0) (cs : List C) (ps : List Plain) (id i : ℕ) (c : C) : Type 0 where
  pub node : Plain
  pub stands : R c node
  pub own : id_of node ≡ id
  pub at : node_at ps id ≡ Some node
  pub stays : (d : C) → R d node → AllZip R (set cs i d) ps
  pub goes : (d : C) (q : Plain) → R d q → id_of q ≡ id → AllZip R (set cs i d) (set_node ps q)

pub stands_at : {C : Type 0} (R : C → Plain → Type 0) (cs : List C) (ps : List Plain) (id k i : ℕ) (c : C) → AllZip R cs ps → place_from k ps id ≡ Some (k + i) → i < length cs → c ≡ slice_index_or cs i c → Stands R cs ps id i c
unfolding node_at set_node
stands_at R [] [] id k i c h e m is = absurd (omega (arith, m))
stands_at R (x ∷ cs) (p ∷ ps) id k zero c h e m is =
    let z : k + 0 ≡ k = omega arith in
    let here : (id_of p == id) ≡ true = first_place k p ps id (subst (λ n. place_from k (p ∷ ps) id ≡ Some n) z e) in
    record {
      node = p;
      stands = subst (λ y. R y p) (sym is) h.0;
      own = eqb-true (id_of p) id here;
      at = rw here refl;
      stays = λ d r. (r, h.1);
      goes = λ d q r w. let same : (id_of p == id_of q) ≡ true = rw w here in rw same (r, h.1);
    }
stands_at R (x ∷ cs) (p ∷ ps) id k (suc i) c h e m is =
    let other = later_place k i p ps id e in
    let s = stands_at R cs ps id (k + 1) i c h.1 other.1 (omega (arith, m)) is in
    record {
      node = s.node;
      stands = s.stands;
      own = s.own;
      at = rw other.0 s.at;
      stays = λ d r. (h.0, s.stays d r);
      goes = λ d q r w. let same : (id_of p == id_of q) ≡ false = rw w other.0 in rw same (h.0, s.goes d q r w);
    }
stands_at R [] (p ∷ ps) id k i c h e m is = absurd h
stands_at R (x ∷ cs) [] id k i c h e m is = absurd h

-- one more at the end
pub zip_push : {A B : Type 0} (R : A → B → Type 0) (xs : List A) (ys : List B) (x : A) (y : B) → AllZip R xs ys → R x y → AllZip R (xs ++ x ∷ []) (ys ++ y ∷ [])
zip_push R [] [] x y h r = (r, tt)
zip_push R (a ∷ xs) (b ∷ ys) x y h r = (h.0, zip_push R xs ys x y h.1 r)
zip_push R [] (b ∷ ys) x y h r = absurd h
zip_push R (a ∷ xs) [] x y h r = absurd h
