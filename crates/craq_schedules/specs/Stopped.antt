-- Defines the text printed when a node stops after each move of a script.
use Rattle.std.specs.Prelude.{ℕ, zero, suc, ◌+◌, ◌==◌, nat_le, Bool, if◌then◌else◌, List, [], ◌∷◌, ◌++◌, length, codes, Result, Ok, Err}
use Rattle.std.specs.Fmt.{decimal}
use Rattle.craq_names.specs.declared.refusal.Refusal.{Refusal}
use Rattle.craq_names.specs.declared.refusal.Refusal.TheVariants as refusals
use Rattle.craq_runs.specs.declared.explanation.Explanation.{Explanation}
use Rattle.craq_runs.specs.declared.run.Move.TheVariants as moves
use Rattle.craq_runs.specs.declared.run.Run.{Run}
use Rattle.craq_runs.specs.Explain.{explain}
use Rattle.craq_chain.specs.Chained.{Chained, after_taking, chain_of_run}
use Rattle.craq_script.specs.declared.line.ScriptLine.{ScriptLine}
use Rattle.craq_script.specs.Texts.{script_of}
use Rattle.craq_play.specs.Moves.{move_of}
use Rattle.craq_play.specs.Played.{after_line, after_one, script_opening}
use Rattle.craq_schedules.specs.Verdicts.{answer_on, of_lines, verdict_text}

-- the number of moves that were taken
abbrev pub count_taken : Chained → ℕ
count_taken w = length w.run.moves

-- the chain after lines
abbrev pub after_lines : Chained → List ScriptLine → Chained
after_lines w [] = w
after_lines w (line ∷ lines) = after_lines (after_line w (move_of line)) lines

-- the chain after the lines of a script, or the number of the first line outside the grammar
abbrev pub chain_of_lines : ℕ → Result (List ScriptLine) ℕ → Result Chained Refusal
chain_of_lines nodes (Ok lines) = Ok (after_lines (script_opening nodes) lines)
chain_of_lines nodes (Err line) = Err (refusals.BadScript line)

-- a new chain of `nodes` nodes after a script
abbrev pub replayed_chain : ℕ → List ℕ → Result Chained Refusal
replayed_chain nodes script = chain_of_lines nodes (script_of script)

-- the chain after lines, until the run has `cut` moves
abbrev pub up_to : ℕ → Chained → List ScriptLine → Chained
up_to cut w [] = w
up_to cut w (line ∷ lines) = if count_taken w == cut then w else up_to cut (after_line w (move_of line)) lines

-- the messages after the first `earlier` arrive, in the order sent, each once, until none is left
-- or `most` have arrived
unfoldable pub delivered : ℕ → ℕ → Chained → Chained
delivered zero earlier w = w
delivered (suc most) earlier w =
    if nat_le (length (chain_of_run w).messages) earlier then w
    else delivered most (earlier + 1) (after_one w (moves.Deliver (earlier + 1)))

-- the largest number of messages that arrive after a removal
unfoldable pub most_deliveries : ℕ
most_deliveries = 10000

-- the messages sent from a removal on arrive; none if it was refused
abbrev pub after_removal : Chained → Result Chained Refusal → Chained
after_removal w (Err refusal) = w
after_removal w (Ok next) = delivered most_deliveries (length (chain_of_run w).messages) next

abbrev pub after_removing : Chained → ℕ → Chained
after_removing w node = after_removal w (after_taking w (moves.Remove node))

-- the chain after a node stopped and was removed
abbrev pub without_node : Chained → ℕ → Chained
without_node w node = after_removing (after_one w (moves.Stop node)) node

-- the number of committed updates
abbrev pub count_committed : Chained → ℕ
count_committed w = length (explain w.chain w.run).asks

-- the line of a cut
abbrev pub cut_line : ℕ → ℕ → Bool → List ℕ
cut_line cut count valid = codes "cut " ++ decimal cut ++ codes " committed " ++ decimal count ++ codes " " ++ verdict_text valid

-- the line of a cut for the chain at its end, with the verdict that `holds` returns
abbrev pub end_line : (Run → Explanation → Bool) → ℕ → Chained → List ℕ
end_line holds cut w = cut_line cut (count_committed w) (answer_on holds w)

-- the text for one cut: the node stops after `cut` moves of the lines, on a new chain of `nodes`
-- nodes
abbrev pub cut_text : (Run → Explanation → Bool) → ℕ → ℕ → List ScriptLine → ℕ → List ℕ
cut_text holds nodes node lines cut = end_line holds cut (without_node (up_to cut (script_opening nodes) lines) node)

-- the text of the first cuts, beginning with cut 0, before any move
abbrev pub cuts_text : (Run → Explanation → Bool) → ℕ → ℕ → List ScriptLine → ℕ → List ℕ
cuts_text holds nodes node lines zero = []
cuts_text holds nodes node lines (suc cut) = cuts_text holds nodes node lines cut ++ cut_text holds nodes node lines cut

-- the text of every cut, from before any move to after all moves that are taken
abbrev pub stops_text : (Run → Explanation → Bool) → ℕ → ℕ → List ScriptLine → List ℕ
stops_text holds nodes node lines = cuts_text holds nodes node lines (count_taken (after_lines (script_opening nodes) lines) + 1)

-- the text of every cut of a script, or the number of the first line outside the grammar
abbrev pub stopped : (Run → Explanation → Bool) → ℕ → ℕ → List ℕ → Result (List ℕ) Refusal
stopped holds nodes node script = of_lines (stops_text holds nodes node) (script_of script)
