-- A run that goes on by the moves of rounds.
use Rattle.std.proofs.Common.{◌≡◌, List, [], ◌∷◌, ◌++◌, ℕ, Result, Ok, Err, refl, ap, sym, subst, ◌∙◌}
use Rattle.std.specs.List.{AllByRecursion}
use Rattle.craq_names.specs.declared.refusal.Refusal.{Refusal}
use Rattle.craq_laws.proofs.Nodes.{goes_on, after_push, typed_push}
use Rattle.craq_runs.specs.declared.run.Move.{Move}
use Rattle.craq_runs.specs.declared.run.Move.TheVariants as moves
use Rattle.craq_runs.specs.declared.run.Run.{Run}
use Rattle.craq_runs.specs.declared.run.Taken.{Taken}
use Rattle.craq_runs.specs.Chain.{Chain, Progress, chain_step, opening_chain}
use Rattle.craq_runs.specs.Runs.{Takes, after_move, progressed}
use Rattle.craq_runs.specs.Typed.{IsMoveOfType, IsTypedRunOf}
use Rattle.craq_recovery.specs.Recovered.{chain_after_moves}
use Rattle.craq_recovery.specs.Rounds.{after_moves_by}
use Rattle.craq_recovery.proofs.Onward.{IsTravel}

-- some run of the chain of this id leads there
pub record IsReachedBy (chain : ℕ) (d : Chain) : Type 0 where
  pub run : Run
  pub typed : IsTypedRunOf chain run
  pub leads : chain_after_moves chain run ≡ d

pub reached_here : (chain : ℕ) (run : Run) → IsTypedRunOf chain run → IsReachedBy chain (chain_after_moves chain run)
reached_here chain run t = record { run = run; typed = t; leads = refl }

travel_type : (m : Move) → IsTravel m → IsMoveOfType m
travel_type (moves.Ask node ask) t = absurd t
travel_type (moves.Deliver number) t = tt
travel_type (moves.Tick node) t = tt
travel_type (moves.Stop node) t = tt
travel_type (moves.Remove node) t = tt
travel_type (moves.Join node) t = tt

goes_further : (chain : ℕ) (run : Run) (m : Move) → IsTypedRunOf chain run → IsTravel m → (r : Result Progress Refusal) → chain_step (chain_after_moves chain run) m ≡ r
    → IsReachedBy chain (progressed (chain_after_moves chain run) r)
goes_further chain run m i t (Err e) is = reached_here chain run i
goes_further chain run m i t (Ok x) is =
    let taken : Taken = record { chosen = m; step = x.1 } in
    let longer : Run = record { members = run.members; moves = run.moves ++ taken ∷ [] } in
    let T : Result Progress Refusal → Type 0 = λ r. Takes r x.1 in
    record {
      run = longer;
      typed = record {
        run_of = record { members = i.run_of.members; moves = goes_on (opening_chain chain run.members) run.moves taken i.run_of.moves (subst T (sym is) refl) };
        typed = typed_push run.moves taken i.typed (travel_type m t);
      };
      leads = after_push (opening_chain chain run.members) run.moves taken ∙ ap (progressed (chain_after_moves chain run)) is;
    }

pub reached_move : (chain : ℕ) (d : Chain) (m : Move) → IsTravel m → IsReachedBy chain d → IsReachedBy chain (after_move d m)
reached_move chain d m t r =
    let P : Chain → Type 0 = λ c. IsReachedBy chain (after_move c m) in
    subst P r.leads (goes_further chain r.run m r.typed t (chain_step (chain_after_moves chain r.run) m) refl)

pub reached_moves : (chain : ℕ) (ms : List Move) (d : Chain) → AllByRecursion IsTravel ms → IsReachedBy chain d → IsReachedBy chain (after_moves_by after_move d ms)
reached_moves chain [] d a r = r
reached_moves chain (m ∷ ms) d a r = reached_moves chain ms (after_move d m) a.1 (reached_move chain d m a.0 r)
