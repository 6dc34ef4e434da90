-- A core takes a step, and the chain takes its node's step.
use Rattle.std.proofs.Common.{◌≡◌, ◌<◌, ◌+◌, ◌==◌, ℕ, Bool, true, false, if◌then◌else◌, List, [], ◌∷◌, ◌++◌, length, set, slice_index_or, Some, None, Result, Ok, Err, refl, ap, subst, arith, ◌∙◌, inl, inr}
use Rattle.std.specs.Prelude.{IsSome}
use Rattle.std.specs.List.{AllByRecursion, AllZip}
use Rattle.craq_names.specs.declared.refusal.Refusal.{Refusal}
use Rattle.craq_names.specs.declared.refusal.Refusal.TheVariants.{WrongNode}
use Rattle.craq_model.specs.declared.ask.Event.{Event}
use Rattle.craq_model.specs.declared.step.Step.{Step}
use Rattle.craq_model.specs.Plain.{Plain, id_of}
use Rattle.craq_epochs.specs.Mastered.{Mastered}
use Rattle.craq_node.specs.Represented.{StepAnswers}
use Rattle.craq_laws.proofs.Kept.{name_kept}
use Rattle.craq_laws.proofs.Nodes.{ids_stay}
use Rattle.craq_runs.specs.Chain.{Chain, node_at, set_node, node_progress}
use Rattle.craq_chain.specs.Parts.{AreParts, Moves, place_from}
use Rattle.craq_chain.proofs.Places.{stands_at, no_node}

by_test : {A : Type 0} (b : Bool) (Q : A → Type 0) (x y : A) → Q x → Q y → Q (if b then x else y)
by_test true Q x y h k = h
by_test false Q x y h k = k

-- each node is of this chain
abbrev pub AreOf : ℕ → List Plain → Type 0
AreOf chain ps = AllByRecursion (λ (p : Plain). p.name.chain ≡ chain) ps

pub set_names : (chain : ℕ) (ps : List Plain) (q : Plain) → AreOf chain ps → q.name.chain ≡ chain → AreOf chain (set_node ps q)
unfolding set_node
set_names chain [] q h e = tt
set_names chain (p ∷ ps) q h e = by_test (id_of p == id_of q) (AreOf chain) (q ∷ ps) (p ∷ set_node ps q) (e, h.1) (h.0, set_names chain ps q h.1 e)

-- so the node of an id is
pub own_name : (chain id : ℕ) (ps : List Plain) (q : Plain) → AreOf chain ps → node_at ps id ≡ Some q → q.name.chain ≡ chain
unfolding node_at
own_name chain id [] q h e = cc
own_name chain id (p ∷ ps) q h e = let t = h.0 in grind (arith, own_name chain id ps q h.1)

pub names_push : (chain : ℕ) (ps : List Plain) (q : Plain) → AreOf chain ps → q.name.chain ≡ chain → AreOf chain (ps ++ q ∷ [])
names_push chain [] q h e = (e, tt)
names_push chain (p ∷ ps) q h e = (h.0, names_push chain ps q h.1 e)

-- the core of a place took its step
pub stepped : {C : Type 0} (R : C → Plain → Type 0) (cs : List C) (m : Mastered) (c : Chain) (id i : ℕ) (event : Event) (core d : C) (r : Result Step Refusal) → AreParts R cs m c → place_from 0 c.nodes id ≡ Some i → i < length cs → core ≡ slice_index_or cs i core → ((p : Plain) → R core p → StepAnswers (R d) p event r) → Moves (AreParts R (set cs i d) m) c (IsSome (node_at c.nodes id)) r (node_progress c (node_at c.nodes id) event)
stepped R cs m c id i event core d (Ok step) h e w is a =
    let s = stands_at R cs c.nodes id 0 i core h.nodes (subst (λ n. place_from 0 c.nodes id ≡ Some n) (let z : i ≡ 0 + i = omega arith in z) e) w is in
    let t = a s.node s.stands in
    let same : t.0.name ≡ s.node.name = name_kept s.node t.0 event step t.1 in
    let chained : s.node.name.chain ≡ c.chain = own_name c.chain id c.nodes s.node h.names s.at in (
      record c { nodes = set_node c.nodes t.0 },
      rw (s.at, t.1) refl,
      record {
        nodes = s.goes d t.0 t.2 (ap (λ n. n.node) same ∙ s.own);
        master = rw (ids_stay c.nodes t.0) h.master;
        names = set_names c.chain c.nodes t.0 h.names (ap (λ n. n.chain) same ∙ chained);
      },
    )
stepped R cs m c id i event core d (Err e) h at w is a =
    let s = stands_at R cs c.nodes id 0 i core h.nodes (subst (λ n. place_from 0 c.nodes id ≡ Some n) (let z : i ≡ 0 + i = omega arith in z) at) w is in
    let t = a s.node s.stands in (
      elim t.0 [ inl memory ↦ inl (memory.0, rw s.at refl) | inr wanted ↦ inr (rw (s.at, wanted) refl) ],
      record { nodes = s.stays d t.1; master = h.master; names = h.names },
    )

-- if no core has the id, no node has it
pub unknown : {C : Type 0} (R : C → Plain → Type 0) (cs : List C) (m : Mastered) (c : Chain) (id : ℕ) (event : Event) → AreParts R cs m c → place_from 0 c.nodes id ≡ None → Moves (AreParts R cs m) c (IsSome (node_at c.nodes id)) (Err WrongNode) (node_progress c (node_at c.nodes id) event)
unknown R cs m c id event h e = (inr (rw (no_node 0 c.nodes id e) refl), h)

-- the core of a place stands for the node of its id
pub seen_core : {C : Type 0} (R : C → Plain → Type 0) (cs : List C) (ps : List Plain) (id i : ℕ) (core : C) → AllZip R cs ps → place_from 0 ps id ≡ Some i → i < length cs → core ≡ slice_index_or cs i core → (p : Plain) × (node_at ps id ≡ Some p) × R core p
seen_core R cs ps id i core h e w is =
    let s = stands_at R cs ps id 0 i core h (subst (λ n. place_from 0 ps id ≡ Some n) (let z : i ≡ 0 + i = omega arith in z) e) w is in
    (s.node, s.at, s.stands)
