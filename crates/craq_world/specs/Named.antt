-- The chain that a run's requests name, and the explanation of a run without a request.
use Rattle.std.specs.Prelude.{ℕ, List, [], ◌∷◌, replicate, Option, Some, None}
use Rattle.craq_commands.specs.Evaluation.{chain_of_first}
use Rattle.craq_model.specs.Asks.{asked_objects}
use Rattle.craq_runs.specs.declared.explanation.Explanation.{Explanation}
use Rattle.craq_runs.specs.declared.run.Move.{Move}
use Rattle.craq_runs.specs.declared.run.Move.TheVariants.{Ask, Deliver, Tick, Stop, Remove, Join}
use Rattle.craq_runs.specs.declared.run.Taken.{Taken}

-- the chain that a move's request names, if the move is one; else this
abbrev pub named_first : Move → Option ℕ → Option ℕ
named_first (Ask node ask) later = Some (chain_of_first (asked_objects ask))
named_first (Deliver number) later = later
named_first (Tick node) later = later
named_first (Stop node) later = later
named_first (Remove node) later = later
named_first (Join node) later = later

-- the chain that the first request names
abbrev pub named_in : List Taken → Option ℕ
named_in [] = None
named_in (t ∷ ts) = named_first t.chosen (named_in ts)

-- nothing is committed after each of `count` moves, and nothing is answered
abbrev pub unasked : ℕ → Explanation
unasked count = record { asks = []; lens = replicate count 0; places = [] }
