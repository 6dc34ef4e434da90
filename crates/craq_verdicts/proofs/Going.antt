-- A chain that takes the moves of scripts keeps a run that follows the definitions.
use Rattle.std.proofs.Common.{◌≡◌, ◌+◌, ℕ, zero, suc, true, false, cond, List, [], ◌∷◌, length, Option, Some, None, Result, Ok, Err, refl, sym, subst}
use Rattle.std.specs.Prelude.{◌==◌, nat_le, IfOk}
use Rattle.craq_names.specs.declared.refusal.Refusal.{Refusal}
use Rattle.craq_runs.specs.Chain.{Progress, chain_step, opening_chain}
use Rattle.craq_runs.specs.Runs.{Takes}
use Rattle.craq_runs.specs.Typed.{IsMoveOfType, IsTypedRunOf}
use Rattle.craq_runs.specs.declared.run.Move.{Move}
use Rattle.craq_runs.specs.declared.run.Move.TheVariants as moves
use Rattle.craq_runs.specs.declared.run.Taken.{Taken}
use Rattle.craq_laws.proofs.Nodes as nodes
use Rattle.craq_chain.specs.Chained.{Chained, after_taking, chain_of_run, moved, with_move}
use Rattle.craq_script.specs.declared.line.ScriptLine.{ScriptLine}
use Rattle.craq_play.specs.Moves.{move_of}
use Rattle.craq_play.specs.Played.{after_line, after_one, goes_on}
use Rattle.craq_schedules.specs.Drawn.{after_choices, after_next, next_of}
use Rattle.craq_schedules.specs.Stopped.{after_removal, count_taken, delivered, most_deliveries, up_to, without_node}
use Rattle.craq_verdicts.proofs.Asking.{MoveFits, line_fits}

-- the chain's run follows the definitions
abbrev pub HasRun : Chained → Type 0
HasRun w = IsTypedRunOf w.chain w.run

-- one more move
runs_with : (w : Chained) (t : Taken) → HasRun w → IsMoveOfType t.chosen → Takes (chain_step (chain_of_run w) t.chosen) t.step → HasRun (with_move w t)
runs_with w t h fits takes =
    record {
      run_of = record { members = h.run_of.members; moves = nodes.goes_on (opening_chain w.chain w.run.members) w.run.moves t h.run_of.moves takes };
      typed = nodes.typed_push w.run.moves t h.typed fits;
    }

moved_runs : (w : Chained) (m : Move) (r : Result Progress Refusal) → chain_step (chain_of_run w) m ≡ r → IsMoveOfType m → HasRun w → IfOk (moved w m r) HasRun
moved_runs w m (Ok x) is fits h = runs_with w (record { chosen = m; step = x.1 }) h fits (subst (λ (r : Result Progress Refusal). Takes r x.1) (sym is) refl)
moved_runs w m (Err e) is fits h = tt

taking_runs : (w : Chained) (m : Move) → IsMoveOfType m → HasRun w → IfOk (after_taking w m) HasRun
taking_runs w m fits h = moved_runs w m (chain_step (chain_of_run w) m) refl fits h

-- a move that is taken or refused
goes_on_runs : (w : Chained) (r : Result Chained Refusal) → HasRun w → IfOk r HasRun → HasRun (goes_on w r)
goes_on_runs w (Ok next) h k = k
goes_on_runs w (Err e) h k = h

one_runs : (w : Chained) (m : Move) → IsMoveOfType m → HasRun w → HasRun (after_one w m)
one_runs w m fits h = goes_on_runs w (after_taking w m) h (taking_runs w m fits h)

line_runs : (w : Chained) (r : Result (Option Move) Refusal) → IfOk r MoveFits → HasRun w → HasRun (after_line w r)
line_runs w (Ok (Some m)) fits h = one_runs w m fits h
line_runs w (Ok None) fits h = h
line_runs w (Err e) fits h = h

-- ---- the choices of a schedule

next_runs : (w : Chained) (rest : Chained → List ScriptLine → Chained) (o : Option (ScriptLine × List ScriptLine)) → ((v : Chained) (lines : List ScriptLine) → HasRun v → HasRun (rest v lines)) → HasRun w → HasRun (after_next w rest o)
next_runs w rest None f h = h
next_runs w rest (Some next) f h = f (after_line w (move_of next.0)) next.1 (line_runs w (move_of next.0) (line_fits next.0) h)

pub choices_run : (choices : List ℕ) (w : Chained) (lines : List ScriptLine) → HasRun w → HasRun (after_choices choices w lines)
choices_run [] w lines h = h
choices_run (choice ∷ choices) w lines h = next_runs w (after_choices choices) (next_of (chain_of_run w) lines choice) (choices_run choices) h

-- ---- a stop after `cut` moves

pub up_to_runs : (cut : ℕ) (w : Chained) (lines : List ScriptLine) → HasRun w → HasRun (up_to cut w lines)
up_to_runs cut w [] h = h
up_to_runs cut w (line ∷ lines) h =
    elim (count_taken w == cut) as (λ b. HasRun (cond b w (up_to cut (after_line w (move_of line)) lines))) [
      | true ↦ h
      | false ↦ up_to_runs cut (after_line w (move_of line)) lines (line_runs w (move_of line) (line_fits line) h)
    ]

delivered_runs : (most earlier : ℕ) (w : Chained) → HasRun w → HasRun (delivered most earlier w)
unfolding delivered
delivered_runs zero earlier w h = h
delivered_runs (suc most) earlier w h =
    elim (nat_le (length (chain_of_run w).messages) earlier) as (λ b. HasRun (cond b w (delivered most (earlier + 1) (after_one w (moves.Deliver (earlier + 1)))))) [
      | true ↦ h
      | false ↦ delivered_runs most (earlier + 1) (after_one w (moves.Deliver (earlier + 1))) (one_runs w (moves.Deliver (earlier + 1)) tt h)
    ]

removal_runs : (w : Chained) (r : Result Chained Refusal) → HasRun w → IfOk r HasRun → HasRun (after_removal w r)
removal_runs w (Ok next) h k = delivered_runs most_deliveries (length (chain_of_run w).messages) next k
removal_runs w (Err e) h k = h

pub without_runs : (w : Chained) (node : ℕ) → HasRun w → HasRun (without_node w node)
without_runs w node h =
    let v : Chained = after_one w (moves.Stop node) in
    let k : HasRun v = one_runs w (moves.Stop node) tt h in
    removal_runs v (after_taking v (moves.Remove node)) k (taking_runs v (moves.Remove node) tt k)
