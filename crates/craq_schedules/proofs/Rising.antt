-- Relates ids inserted one after another to the ascending ids of the running nodes.
use Rattle.std.proofs.Common.{◌≡◌, ◌+◌, ◌++◌, ◌<◌, ◌≤◌, ℕ, zero, suc, Bool, true, false, not, if◌then◌else◌, Option, None, Some, is_some, List, [], ◌∷◌, map, length, get_or, filter, drop, take, slice_index_or, refl, sym, ap, subst, arith, append-nil, ◌∙◌}
use Rattle.std.specs.List.{AllZip}
use Rattle.std.proofs.lemmas.Bool.Decides.{nat_tests}
use Rattle.std.proofs.lemmas.List.{map-append}
use Rattle.std.proofs.lemmas.List.Elements.{filter-append}
use Rattle.craq_names.specs.declared.name.NodeName.{NodeName}
use Rattle.craq_model.specs.Plain.{Plain, id_of}
use Rattle.craq_schedules.specs.Drawn.{rising, running_ids, with_id}

-- an id goes before the first that is greater
pub before_greater : (id : ℕ) (ids : List ℕ) (i : ℕ) → i < length ids → id < get_or ids i 0 → with_id id (drop i ids) ≡ id ∷ drop i ids
before_greater id [] i h less = absurd (omega (arith, h))
before_greater id (other ∷ ids) zero h less = grind (arith, nat_tests)
before_greater id (other ∷ ids) (suc i) h less = before_greater id ids i (omega (arith, h)) less

pub after_lower : (id : ℕ) (ids : List ℕ) (i : ℕ) → i < length ids → get_or ids i 0 ≤ id → take i ids ++ with_id id (drop i ids) ≡ take (suc i) ids ++ with_id id (drop (suc i) ids)
after_lower id [] i h lower = absurd (omega (arith, h))
after_lower id (other ∷ ids) zero h lower = grind (arith, nat_tests)
after_lower id (other ∷ ids) (suc i) h lower = ap (λ rest. other ∷ rest) (after_lower id ids i (omega (arith, h)) lower)

-- two ids may be inserted in either order
swapped : (a b : ℕ) (ids : List ℕ) → with_id a (with_id b ids) ≡ with_id b (with_id a ids)
swapped a b [] = grind (arith, nat_tests)
swapped a b (id ∷ ids) = grind (arith, nat_tests, swapped a b ids)

-- one more id at the end
rising_more : (ids : List ℕ) (id : ℕ) → rising (ids ++ id ∷ []) ≡ with_id id (rising ids)
rising_more [] id = refl
rising_more (other ∷ ids) id = ap (λ rest. with_id other rest) (rising_more ids id) ∙ swapped other id (rising ids)

pub one_running : (ps : List Plain) (p : Plain) → p.running ≡ true → running_ids (ps ++ p ∷ []) ≡ with_id (id_of p) (running_ids ps)
one_running ps p h =
    let kept : filter (λ (q : Plain). q.running) (ps ++ p ∷ []) ≡ filter (λ (q : Plain). q.running) ps ++ p ∷ [] = rw (filter-append, h) refl in
    ap (λ qs. rising (map id_of qs)) kept ∙ ap rising (map-append id_of (filter (λ (q : Plain). q.running) ps) (p ∷ [])) ∙ rising_more (map id_of (filter (λ (q : Plain). q.running) ps)) (id_of p)

pub one_stopped : (ps : List Plain) (p : Plain) → p.running ≡ false → running_ids (ps ++ p ∷ []) ≡ running_ids ps
one_stopped ps p h =
    let kept : filter (λ (q : Plain). q.running) (ps ++ p ∷ []) ≡ filter (λ (q : Plain). q.running) ps = rw (filter-append, h) (append-nil _) in
    ap (λ qs. rising (map id_of qs)) kept

-- the node that a core represents comes right after those before it
pub record Here {C : Type 0} (R : C → Plain → Type 0) (ps : List Plain) (i : ℕ) (c : C) : Type 0 where
  pub node : Plain
  pub stands : R c node
  pub more : take (i + 1) ps ≡ take i ps ++ node ∷ []

pub node_here : {C : Type 0} (R : C → Plain → Type 0) (cs : List C) (ps : List Plain) (i : ℕ) (c : C) → AllZip R cs ps → i < length cs → c ≡ slice_index_or cs i c → Here R ps i c
node_here R [] [] i c h m is = absurd (omega (arith, m))
node_here R (x ∷ cs) (p ∷ ps) zero c h m is = record { node = p; stands = subst (λ y. R y p) (sym is) h.0; more = refl }
node_here R (x ∷ cs) (p ∷ ps) (suc i) c h m is =
    let s = node_here R cs ps i c h.1 (omega (arith, m)) is in
    let e : suc i + 1 ≡ suc (i + 1) = omega arith in
    record { node = s.node; stands = s.stands; more = rw e (ap (λ rest. p ∷ rest) s.more) }
node_here R [] (p ∷ ps) i c h m is = absurd h
node_here R (x ∷ cs) [] i c h m is = absurd h

-- after the last core, every node has been seen
pub all_here : {C : Type 0} (R : C → Plain → Type 0) (cs : List C) (ps : List Plain) → AllZip R cs ps → take (length cs) ps ≡ ps
all_here R [] [] h = refl
all_here R (x ∷ cs) (p ∷ ps) h = ap (λ rest. p ∷ rest) (all_here R cs ps h.1)
all_here R [] (p ∷ ps) h = absurd h
all_here R (x ∷ cs) [] h = absurd h

-- there is no receipt exactly if the node runs
pub receipt_tells : (running missing : Bool) (name : NodeName) (receipt : Option NodeName) → receipt ≡ (if running then None else Some name) → is_some receipt ≡ not missing → missing ≡ running
receipt_tells true true name receipt e f = refl
receipt_tells true false name receipt e f = let h : false ≡ true = ap is_some (sym e) ∙ f in cc
receipt_tells false true name receipt e f = let h : true ≡ false = ap is_some (sym e) ∙ f in cc
receipt_tells false false name receipt e f = refl
