-- The explanation of a run, in each chain in which the run can happen.
use Rattle.std.proofs.Common.{◌≡◌, ℕ, List, length, Some, None, Result, Ok, Err, IfOk, ap, sym, subst, ◌∙◌}
use Rattle.craq_runs.specs.declared.explanation.Explanation.{Explanation}
use Rattle.craq_runs.specs.declared.run.Run.{Run}
use Rattle.craq_runs.specs.declared.run.Taken.{Taken}
use Rattle.craq_runs.specs.Explain.{explain}
use Rattle.craq_runs.specs.Runs.{IsRun, IsRunOf}
use Rattle.craq_runs.specs.Typed.{AreOfType, IsTypedRunOf}
use Rattle.craq_runs.specs.Valid.{IsValid}
use Rattle.craq_world.specs.Named.{named_in, unasked}
use Rattle.craq_world.proofs.Named.{named_is}
use Rattle.craq_world.proofs.Unasked.{unasked_is}

-- the moves are those of the run, and of their types
pub record AreMoves (run : Run) (ts : List Taken) : Type 0 where
  pub are : ts ≡ run.moves
  pub typed : AreOfType ts

typed_run : (run : Run) (ts : List Taken) → AreMoves run ts → (chain : ℕ) → IsRunOf chain run → IsTypedRunOf chain run
typed_run run ts m chain i = record { run_of = i; typed = subst AreOfType m.are m.typed }

-- the explanation chosen in each chain
abbrev pub IsChosen : Run → Explanation → Type 0
IsChosen run e = (chain : ℕ) → IsRunOf chain run → e ≡ explain chain run

pub the_chain : (run : Run) (ts : List Taken) (x : ℕ) → AreMoves run ts → Some x ≡ named_in ts → (chain : ℕ) → IsRunOf chain run → x ≡ chain
the_chain run ts x m named chain i = named_is chain run x i (subst AreOfType m.are m.typed) (ap named_in (sym m.are) ∙ sym named)

pub can_happen : (run : Run) (ts : List Taken) (x : ℕ) → AreMoves run ts → Some x ≡ named_in ts → IsRun run → IsRunOf x run
can_happen run ts x m named r = let P : ℕ → Type 0 = λ c. IsRunOf c run in subst P (sym (the_chain run ts x m named r.0 r.1)) r.1

pub chosen_there : {E : Type 0} (o : Result Explanation E) (run : Run) (ts : List Taken) (x : ℕ) → AreMoves run ts → Some x ≡ named_in ts → IfOk o (λ e. e ≡ explain x run) → IfOk o (IsChosen run)
chosen_there (Ok e) run ts x m named is = λ chain i. is ∙ ap (λ (c : ℕ). explain c run) (the_chain run ts x m named chain i)
chosen_there (Err e) run ts x m named is = tt

pub chosen_anywhere : {E : Type 0} (o : Result Explanation E) (run : Run) (ts : List Taken) → AreMoves run ts → None ≡ named_in ts → IfOk o (λ e. e ≡ unasked (length ts)) → IfOk o (IsChosen run)
chosen_anywhere (Ok e) run ts m none is =
    λ chain i. is ∙ (ap (λ (l : List Taken). unasked (length l)) m.are ∙ sym (unasked_is chain run (typed_run run ts m chain i) (ap named_in (sym m.are) ∙ sym none)))
chosen_anywhere (Err e) run ts m none is = tt

pub chosen_holds : {E : Type 0} (o : Result Explanation E) (run : Run) (ts : List Taken) → AreMoves run ts → IsRun run → ((chain : ℕ) (run : Run) → IsTypedRunOf chain run → IsValid run (explain chain run)) → IfOk o (IsChosen run) → IfOk o (λ e. IsValid run e)
chosen_holds (Ok e) run ts m r holds chosen = let P : Explanation → Type 0 = λ e. IsValid run e in subst P (sym (chosen r.0 r.1)) (holds r.0 run (typed_run run ts m r.0 r.1))
chosen_holds (Err e) run ts m r holds chosen = tt
