-- Refusals that are passed on, and running out of memory.
use Rattle.std.proofs.Common.{◌≡◌, Ok, Err, Result, sym, ap, subst, ◌∙◌, inl, inr}
use Rattle.std.specs.Result.{IsErr, IsErrAnd}
use Rattle.craq_names.specs.Order.{RefusesWhere}
use Rattle.craq_names.specs.declared.refusal.Refusal.{Refusal}
use Rattle.craq_names.specs.declared.refusal.Refusal.TheVariants.{Memory}
use Rattle.craq_model.specs.declared.step.Step.{Step}
use Rattle.craq_runs.specs.Chain.{Chain, Progress}
use Rattle.craq_chain.specs.Parts.{Moves}

-- a refusal is passed on
pub passed_on : (now : Chain → Type 0) (old : Chain) (can : Type 0) (r : Result Step Refusal) (e : Refusal) (wanted : Result Progress Refusal) → (x : Refusal) × (r ≡ Err x) × (x ≡ e) → RefusesWhere can e wanted → now old → Moves now old can r wanted
passed_on now old can r e wanted p h n = subst (λ s. Moves now old can s wanted) (sym (p.1 ∙ ap Err p.2)) (h, n)

-- memory runs out where it can
pub lacks : (now : Chain → Type 0) (old : Chain) (can : Type 0) (r : Result Step Refusal) (wanted : Result Progress Refusal) → IsErr r × IsErrAnd r (λ e. e ≡ Memory) → can → now old → Moves now old can r wanted
lacks now old can (Ok step) wanted h k n = let no = h.0 in cc
lacks now old can (Err e) wanted h k n = (inl (h.1, k), n)

-- where it can under one condition, it can under a weaker one
pub weaker : (now : Chain → Type 0) (old : Chain) (can more : Type 0) (r : Result Step Refusal) (wanted : Result Progress Refusal) → (can → more) → Moves now old can r wanted → Moves now old more r wanted
weaker now old can more (Ok step) wanted f h = h
weaker now old can more (Err e) wanted f h = (elim h.0 [ inl memory ↦ inl (memory.0, f memory.1) | inr w ↦ inr w ], h.1)
