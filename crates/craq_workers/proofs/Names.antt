-- The chains of a store have the names of its plan, and masters of its members.
use Rattle.std.proofs.Common.{◌≡◌, ◌≤◌, ◌<◌, ◌⊎◌, ℕ, zero, suc, ◌+◌, List, [], ◌∷◌, ◌++◌, map, drop, length, get_or, Option, None, Some, Ok, Err, inl, inr, sym, ap, subst, ◌∙◌, append_assoc}
use Rattle.std.specs.Prelude.{slice_get}
use Rattle.std.specs.List.{AllByRecursion}
use Rattle.std.specs.Option.{ok_or}
use Rattle.std.proofs.lemmas.List.{append-nil, drop_all, drop_more, map-append}
use Rattle.std.proofs.lemmas.Option.{get_or_from_slice_get, slice_get_cases, slice_get_within}
use Rattle.craq_names.specs.declared.refusal.Refusal.{Refusal}
use Rattle.craq_names.specs.declared.refusal.Refusal.TheVariants.{UnknownChain}
use Rattle.craq_place.specs.Place.{chain_at}
use Rattle.craq_model.specs.Members.{IsMembership}
use Rattle.craq_place.specs.Plan.{Chain, IsChain, IsPlan}
use Rattle.craq_epochs.specs.Mastered.{Mastered, opened_master}
use Rattle.craq_workers.specs.Stores.{masters_of}

-- the names of chains of a plan
abbrev pub names : List Chain → List (List ℕ)
names p = map (λ (c : Chain). c.0) p

found : (o : Option Chain) (x : Chain) → ok_or o UnknownChain ≡ Ok x → o ≡ Some x
found None x e = absurd cc
found (Some y) x e = cc

-- the chains of a plan begin with this one from its id on
pub begins : (p : List Chain) (id : ℕ) (x : Chain) → chain_at p id ≡ Ok x → drop id p ≡ x ∷ drop (id + 1) p
begins p id x e =
    let at = found (slice_get p id) x e in
    drop_more p id x (slice_get_within p id x at) ∙ ap (λ (y : Chain). y ∷ drop (id + 1) p) (get_or_from_slice_get p id x x at)

-- the values of some chains, and that of one more
pub reported_more : {A B : Type 0} (old new : List A) (c : A) (f : A → B) (rest all : List B) → new ≡ old ++ c ∷ [] → map f old ++ f c ∷ rest ≡ all → map f new ++ rest ≡ all
reported_more {A} {B} old new c f rest all same h =
    ap (λ (z : List A). map f z ++ rest) same ∙ ap (λ (z : List B). z ++ rest) (map-append f old (c ∷ [])) ∙ append_assoc (map f old) (f c ∷ []) rest ∙ h

-- one chain more
pub next_named : {A : Type 0} (old new : List A) (c : A) (f : A → List ℕ) (p : List Chain) (id : ℕ) (x : Chain)
    → map f old ++ names (drop id p) ≡ names p → chain_at p id ≡ Ok x → f c ≡ x.0 → new ≡ old ++ c ∷ [] → map f new ++ names (drop (id + 1) p) ≡ names p
next_named old new c f p id x h e named same =
    let rest = names (drop (id + 1) p) in
    reported_more old new c f rest (names p) same
    (ap (λ (z : List ℕ). map f old ++ (z ∷ rest)) named ∙ ap (λ (z : List Chain). map f old ++ names z) (sym (begins p id x e)) ∙ h)

pub next_mastered : {A : Type 0} (old new : List A) (c : A) (f : A → Mastered) (p : List Chain) (id : ℕ) (x : Chain)
    → map f old ++ masters_of id (drop id p) ≡ masters_of 0 p → chain_at p id ≡ Ok x → f c ≡ opened_master id x.1 → new ≡ old ++ c ∷ [] → map f new ++ masters_of (id + 1) (drop (id + 1) p) ≡ masters_of 0 p
next_mastered old new c f p id x h e mastered same =
    let rest = masters_of (id + 1) (drop (id + 1) p) in
    reported_more old new c f rest (masters_of 0 p) same
    (ap (λ (z : Mastered). map f old ++ (z ∷ rest)) mastered ∙ ap (λ (z : List Chain). map f old ++ masters_of id z) (sym (begins p id x e)) ∙ h)

-- no chain more
pub all_named : {A : Type 0} (cs : List A) (f : A → List ℕ) (p : List Chain) (id : ℕ) → map f cs ++ names (drop id p) ≡ names p → length p ≤ id → map f cs ≡ names p
all_named cs f p id h le = sym (append-nil (map f cs)) ∙ ap (λ (z : List Chain). map f cs ++ names z) (sym (drop_all id p le)) ∙ h

pub all_mastered : {A : Type 0} (cs : List A) (f : A → Mastered) (p : List Chain) (id : ℕ) → map f cs ++ masters_of id (drop id p) ≡ masters_of 0 p → length p ≤ id → map f cs ≡ masters_of 0 p
all_mastered cs f p id h le = sym (append-nil (map f cs)) ∙ ap (λ (z : List Chain). map f cs ++ masters_of id z) (sym (drop_all id p le)) ∙ h

past : (o : Option Chain) (x : Chain) (e : Refusal) → o ≡ Some x → ok_or o UnknownChain ≡ Err e → ⊥
past None x e is isnt = cc
past (Some y) x e is isnt = cc

ends : (p : List Chain) (id : ℕ) (e : Refusal) → chain_at p id ≡ Err e → ((x : Chain) × (id < length p) × (slice_get p id ≡ Some x) × (get_or p id x ≡ x)) ⊎ ((length p ≤ id) × (slice_get p id ≡ None)) → length p ≤ id
ends p id e isnt (inl h) = absurd (past (slice_get p id) h.0 e h.2 isnt)
ends p id e isnt (inr h) = h.0

-- there is no chain of this id
pub none_left : (p : List Chain) (id : ℕ) (e : Refusal) → chain_at p id ≡ Err e → length p ≤ id
none_left p id e isnt = ends p id e isnt (slice_get_cases p id).1

in_each : (P : Chain → Type 0) (xs : List Chain) (i : ℕ) (x : Chain) → AllByRecursion P xs → slice_get xs i ≡ Some x → P x
in_each P [] i x a h = absurd cc
in_each P (y ∷ ys) zero x a h = let e : y ≡ x = cc in subst P e a.0
in_each P (y ∷ ys) (suc i) x a h = in_each P ys i x a.1 h

-- the members of a plan's chain are a membership
pub membership_at : (p : List Chain) (id : ℕ) (x : Chain) → IsPlan p → chain_at p id ≡ Ok x → IsMembership x.1
membership_at p id x plan e = let c : IsChain x = in_each IsChain p id x plan.each (found (slice_get p id) x e) in c.nodes
