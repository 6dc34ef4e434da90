-- A tick changes no node.
use Rattle.std.proofs.Common.{◌≡◌, ⊎_elim, ℕ, ◌==◌, Option, Some, None, Result, Ok, Err, refl, sym, subst, ◌∙◌}
use Rattle.std.proofs.lemmas.Bool.{cases_eq}
use Rattle.std.specs.Prelude.{⊤}
use Rattle.craq_names.specs.declared.refusal.Refusal.{Refusal}
use Rattle.craq_names.specs.declared.refusal.Refusal.TheVariants as refusals
use Rattle.craq_model.specs.declared.ask.Event.TheVariants as events
use Rattle.craq_model.specs.Node.{node_step, outs_fit, within_counts}
use Rattle.craq_model.specs.Plain.{Plain, id_of}
use Rattle.craq_model.specs.Sends.{tick_sends}
use Rattle.craq_model.specs.Settle.{Transition, transition_with}
use Rattle.craq_runs.specs.declared.run.Move.TheVariants.{Tick}
use Rattle.craq_runs.specs.Chain.{Chain, Progress, chain_step, config_progress, counted_progress, node_at, node_progress, numbers_left, set_node, tick_progress, transition_progress}
use Rattle.craq_runs.specs.Runs.{after_move, progressed}
use Rattle.craq_laws.proofs.Nodes.{node_here, node_elsewhere, node_id}
use Rattle.craq_recovery.proofs.Lines.{by_test}

abbrev KeepsNodes : Chain → Result Progress Refusal → Type 0
KeepsNodes c (Ok x) = (id : ℕ) → node_at x.0.nodes id ≡ node_at c.nodes id
KeepsNodes c (Err e) = ⊤

same_again : (c : Chain) (p : Plain) (id : ℕ) → node_at c.nodes (id_of p) ≡ Some p → node_at (set_node c.nodes p) id ≡ node_at c.nodes id
same_again c p id at =
    ⊎_elim
    (λ (e : id ≡ id_of p).
    let P : ℕ → Type 0 = λ i. node_at (set_node c.nodes p) i ≡ node_at c.nodes i in
    subst P (sym e) (node_here c.nodes p p at ∙ sym at))
    (λ ne. node_elsewhere c.nodes p id ne)
    (cases_eq id (id_of p))

node_keeps : (c : Chain) (k : ℕ) (o : Option Plain) → node_at c.nodes k ≡ o → KeepsNodes c (node_progress c o events.Tick)
unfolding node_step
node_keeps c k None at = tt
node_keeps c k (Some p) at =
    let t : Transition = transition_with p (tick_sends p) in
    let N : ℕ → Type 0 = λ i. node_at c.nodes i ≡ Some p in
    let there : node_at c.nodes (id_of p) ≡ Some p = subst N (sym (node_id c.nodes k p at)) at in
    let Q : Result Transition Refusal → Type 0 = λ r. KeepsNodes c (transition_progress c r) in
    by_test p.running Q (within_counts (Ok t)) (Err refusals.Stopped) (by_test (outs_fit (tick_sends p)) Q (Ok t) (Err refusals.Exhausted) (λ id. same_again c p id there) tt) tt

counted_keeps : (c : Chain) (r : Result Progress Refusal) → KeepsNodes c r → (id : ℕ) → node_at (progressed c (counted_progress c r)).nodes id ≡ node_at c.nodes id
counted_keeps c (Err e) h id = refl
counted_keeps c (Ok x) h id = by_test (numbers_left c x.1) (λ (r : Result Progress Refusal). node_at (progressed c r).nodes id ≡ node_at c.nodes id) _ (Err refusals.Exhausted) (h id) refl

pub tick_keeps : (c : Chain) (k id : ℕ) → node_at (after_move c (Tick k)).nodes id ≡ node_at c.nodes id
unfolding chain_step
tick_keeps c k id =
    counted_keeps c (tick_progress c k)
    (by_test (k == 0) (KeepsNodes c) (Ok (config_progress c)) (node_progress c (node_at c.nodes k) events.Tick) (λ i. refl) (node_keeps c k (node_at c.nodes k) refl))
    id
