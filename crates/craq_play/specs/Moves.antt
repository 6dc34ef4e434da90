-- Gives the move of a script line.
use Rattle.std.specs.Prelude.{ℕ, ◌==◌, Option, Some, None, Result, Ok, Err, if◌then◌else◌}
use Rattle.craq_names.specs.declared.refusal.Refusal.{Refusal}
use Rattle.craq_names.specs.declared.refusal.Refusal.TheVariants as refusals
use Rattle.craq_commands.specs.Evaluation.{chain_of_first}
use Rattle.craq_model.specs.declared.ask.Ask.{Ask}
use Rattle.craq_model.specs.Asks.{asked_objects}
use Rattle.craq_runs.specs.declared.run.Move.{Move}
use Rattle.craq_runs.specs.declared.run.Move.TheVariants as moves
use Rattle.craq_script.specs.declared.line.ScriptLine.{ScriptLine}
use Rattle.craq_script.specs.declared.line.ScriptLine.TheVariants as lines
use Rattle.craq_script.specs.Asked.{asked_update, read_of}

-- a request to a node; only chain 0 exists
abbrev pub asked_move : ℕ → Result Ask Refusal → Result (Option Move) Refusal
asked_move node (Err refusal) = Err refusal
asked_move node (Ok ask) =
    if chain_of_first (asked_objects ask) == 0 then Ok (Some (moves.Ask node ask)) else Err refusals.UnknownChain

-- the move of a line, or the refusal before the chain sees it; `explain` is not a move
unfoldable pub move_of : ScriptLine → Result (Option Move) Refusal
move_of (lines.Update update) = asked_move update.node (asked_update update)
move_of (lines.Read node mode object) = asked_move node (read_of mode object)
move_of (lines.Deliver message) = Ok (Some (moves.Deliver message))
move_of (lines.Tick node) = Ok (Some (moves.Tick node))
move_of (lines.Stop node) = Ok (Some (moves.Stop node))
move_of (lines.Remove node) = Ok (Some (moves.Remove node))
move_of (lines.Join node) = Ok (Some (moves.Join node))
move_of lines.Explain = Ok None
