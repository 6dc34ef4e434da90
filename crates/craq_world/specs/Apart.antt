-- One chain of a world apart from the others.
use Rattle.std.specs.Prelude.{◌≢◌, ℕ, ◌==◌, ◌&&◌, if◌then◌else◌, List, [], ◌∷◌, map, is_ok, Result, Err}
use Rattle.std.specs.List.{AllByRecursion}
use Rattle.std.specs.Result.{result_unwrap_or}
use Rattle.craq_names.specs.declared.refusal.Refusal.{Refusal}
use Rattle.craq_names.specs.declared.refusal.Refusal.TheVariants.{Memory}
use Rattle.craq_runs.specs.declared.run.Move.{Move}
use Rattle.craq_runs.specs.declared.run.Run.{Run}
use Rattle.craq_runs.specs.declared.run.Taken.{Taken}
use Rattle.craq_chain.specs.Chained.{Chained, after_taking}
use Rattle.craq_world.specs.Worlds.{RunsTo, opened_from}

-- the moves for the chain of this id, in order
abbrev pub moves_of : ℕ → List (ℕ × Move) → List Move
moves_of id [] = []
moves_of id (m ∷ ms) = if m.0 == id then m.1 ∷ moves_of id ms else moves_of id ms

-- the moves that were taken, by their results
abbrev pub taken_of : ℕ → List (ℕ × Move) → List (Result ℕ Refusal) → List Move
taken_of id [] rs = []
taken_of id (m ∷ ms) [] = []
taken_of id (m ∷ ms) (r ∷ rs) = if (m.0 == id) && is_ok r then m.1 ∷ taken_of id ms rs else taken_of id ms rs

-- a chain after these moves; a refused one changes nothing
abbrev pub running_chain_after : Chained → List Move → Chained
running_chain_after w [] = w
running_chain_after w (m ∷ ms) = running_chain_after (result_unwrap_or (after_taking w m) w) ms

-- the moves that a run took, in order
abbrev pub chosen_in : Run → List Move
chosen_in run = map (λ (t : Taken). t.chosen) run.moves

-- a world that was opened with chains of these members, and then took or refused these moves, with
-- these results
pub record Execution : Type 0 where
  pub lists : List (List ℕ)
  pub moves : List (ℕ × Move)
  pub results : List (Result ℕ Refusal)
  pub chains : List Chained  -- afterwards
  pub ran : RunsTo (opened_from 0 lists) moves results chains

-- the moves for a chain, and those that were taken
abbrev pub given_to : Execution → ℕ → List Move
given_to e id = moves_of id e.moves

-- the moves that a chain took
abbrev pub taken_by : Execution → ℕ → List Move
taken_by e id = taken_of id e.moves e.results

-- no move was refused as out of memory
abbrev pub HadMemory : Execution → Type 0
HadMemory e = AllByRecursion (λ r. r ≢ Err Memory) e.results
