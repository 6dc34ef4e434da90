-- Runs whose values are within the limits of their types.
use Rattle.std.specs.Prelude.{ℕ, ⊤, List, [], ◌∷◌}
use Rattle.craq_commands.specs.Transaction.{IsWithinLimits}
use Rattle.craq_commands.specs.declared.command.Command.{Command}
use Rattle.craq_commands.specs.declared.command.Command.TheVariants.{Put, TestAndSet, Append, Prepend, Increment, Decrement, Mini}
use Rattle.craq_model.specs.declared.ask.Ask.{Ask}
use Rattle.craq_model.specs.declared.ask.Ask.TheVariants as asks
use Rattle.craq_runs.specs.declared.run.Move.{Move}
use Rattle.craq_runs.specs.declared.run.Move.TheVariants as moves
use Rattle.craq_runs.specs.declared.run.Run.{Run}
use Rattle.craq_runs.specs.declared.run.Taken.{Taken}
use Rattle.craq_runs.specs.Runs.{IsRunOf}

-- the command's transaction is within the limits of its type
abbrev pub IsOfType : Command → Type 0
IsOfType (Put object value) = ⊤
IsOfType (TestAndSet object expect value) = ⊤
IsOfType (Append object value) = ⊤
IsOfType (Prepend object value) = ⊤
IsOfType (Increment object by) = ⊤
IsOfType (Decrement object by) = ⊤
IsOfType (Mini t) = IsWithinLimits t

abbrev pub IsAskOfType : Ask → Type 0
IsAskOfType (asks.Update u) = IsOfType u.command
IsAskOfType (asks.Read mode object) = ⊤

abbrev pub IsMoveOfType : Move → Type 0
IsMoveOfType (moves.Ask node ask) = IsAskOfType ask
IsMoveOfType (moves.Deliver number) = ⊤
IsMoveOfType (moves.Tick node) = ⊤
IsMoveOfType (moves.Stop node) = ⊤
IsMoveOfType (moves.Remove node) = ⊤
IsMoveOfType (moves.Join node) = ⊤

abbrev pub AreOfType : List Taken → Type 0
AreOfType [] = ⊤
AreOfType (t ∷ ts) = IsMoveOfType t.chosen × AreOfType ts

-- the run is possible in the chain with this id, and each transaction in it is within the limits of
-- its type
pub record IsTypedRunOf (chain : ℕ) (run : Run) : Type 0 where
  pub run_of : IsRunOf chain run
  pub typed : AreOfType run.moves
