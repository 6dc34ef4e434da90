-- A property of each node of a chain, move by move.
use Rattle.std.proofs.Common.{◌≡◌, ◌≢◌, ⊎_elim, ℕ, ◌==◌, List, [], ◌∷◌, ◌++◌, Some, Result, Ok, Err, refl, sym, subst}
use Rattle.std.specs.List.{AllByRecursion}
use Rattle.craq_names.specs.declared.name.NodeName.{NodeName}
use Rattle.craq_names.specs.declared.refusal.Refusal.{Refusal}
use Rattle.craq_names.proofs.Lists.{all_append, all_each, all_map}
use Rattle.craq_model.specs.Plain.{Plain, id_of, opening_joined, opening_member}
use Rattle.craq_runs.specs.declared.run.Move.{Move}
use Rattle.craq_runs.specs.Chain.{Chain, Progress, chain_step, node_at, opening_chain, set_node}
use Rattle.craq_runs.specs.Runs.{after_move, progressed}
use Rattle.craq_updates.proofs.Places.{AtMaster, AtNode, OneMore, happens_at}
use Rattle.craq_recovery.proofs.Finding.{found_of}
use Rattle.craq_recovery.proofs.Lines.{by_test}

module _ (P : Plain → Type 0) where
  abbrev pub Each : List Plain → Type 0
  Each ps = AllByRecursion P ps

  pub each_at : (ps : List Plain) (id : ℕ) (p : Plain) → Each ps → node_at ps id ≡ Some p → P p
  unfolding node_at
  each_at ps id p a at = found_of P (λ (q : Plain). id_of q == id) p ps at a

  pub each_set : (ps : List Plain) (q : Plain) → Each ps → P q → Each (set_node ps q)
  unfolding set_node
  each_set [] q a h = tt
  each_set (p ∷ ps) q a h = by_test (id_of p == id_of q) Each (q ∷ ps) (p ∷ set_node ps q) (h, a.1) (a.0, each_set ps q a.1 h)

  pub each_pushed : (ps : List Plain) (q : Plain) → Each ps → P q → Each (ps ++ q ∷ [])
  each_pushed ps q a h = all_append P ps (q ∷ []) a (h, tt)

  pub each_opening : (chain : ℕ) (members : List ℕ) → ((id : ℕ) → P (opening_member (record { chain = chain; node = id }) members)) → Each (opening_chain chain members).nodes
  each_opening chain members a =
      let opening : ℕ → Plain = λ id. opening_member (record { chain = chain; node = id }) members in
      all_map P opening members (all_each (λ id. P (opening id)) members a)

  -- the property holds after a move, if it stays true of the move's node and is true of one that
  -- joins
  pub each_moved : (c : Chain) (m : Move) → Each c.nodes → ((x : Progress) (a : AtNode c m x) → P a.was → P a.transition.0) → ((name : NodeName) → name.node ≢ 0 → P (opening_joined name)) → Each (after_move c m).nodes
  each_moved c m all stays joins = moved (chain_step c m) refl
    where
      moved : (r : Result Progress Refusal) → chain_step c m ≡ r → Each (progressed c r).nodes
      moved (Err e) does = all
      moved (Ok x) does =
          let Q : Progress → Type 0 = λ y. Each y.0.nodes in
          let R : List Plain → Type 0 = λ l. Each l in
          ⊎_elim
          (λ (a : AtNode c m x). subst Q (sym a.is) (each_set c.nodes a.transition.0 all (stays x a (each_at c.nodes _ a.was all a.at))))
          (λ (a : AtMaster c m x).
          ⊎_elim
          (λ (same : x.0.nodes ≡ c.nodes). subst R (sym same) all)
          (λ (o : OneMore c.nodes x.0.nodes). let name : NodeName = record { chain = o.chain; node = o.new } in subst R (sym o.is) (each_pushed c.nodes (opening_joined name) all (joins name o.some)))
          a.nodes)
          (happens_at c m x does)
