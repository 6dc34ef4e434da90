-- Defines the text printed for a script: the run of its lines, by the definitions of a chain.
use Rattle.std.specs.Prelude.{◌≡◌, ◌⊎◌, ℕ, zero, suc, List, [], ◌∷◌, ◌++◌, map, length, codes, Option, Some, None, Result, Ok, Err}
use Rattle.craq_names.specs.declared.refusal.Refusal.{Refusal}
use Rattle.craq_names.specs.declared.refusal.Refusal.TheVariants as refusals
use Rattle.craq_runs.specs.declared.explanation.Explanation.{Explanation}
use Rattle.craq_runs.specs.declared.run.Move.{Move}
use Rattle.craq_runs.specs.Chain.{Chain, Progress, chain_step}
use Rattle.craq_runs.specs.Explain.{explain}
use Rattle.craq_chain.specs.Chained.{Chained, after_taking, chain_of_run, mover, opened_chain}
use Rattle.craq_play.specs.Explained.{explanation_text}
use Rattle.craq_script.specs.declared.line.ScriptLine.{ScriptLine}
use Rattle.craq_script.specs.Texts.{script_of}
use Rattle.craq_script.specs.Printed.{refusal_text}
use Rattle.craq_play.specs.Printed.{step_text}
use Rattle.craq_play.specs.Moves.{move_of}

-- a taken move prints its step, a refused move its refusal
abbrev pub progress_text : Chain → Move → Result Progress Refusal → List ℕ
progress_text c m (Ok x) = step_text (mover c m) (length c.messages) x.1
progress_text c m (Err refusal) = refusal_text refusal

abbrev pub move_text : Chained → Move → List ℕ
move_text w m = progress_text (chain_of_run w) m (chain_step (chain_of_run w) m)

-- the line of a linearization witness
abbrev pub explanation_line : Explanation → List ℕ
explanation_line e = explanation_text e ++ codes "\n"

-- the text printed for a line
abbrev pub line_text : Chained → Result (Option Move) Refusal → List ℕ
line_text w (Err refusal) = refusal_text refusal
line_text w (Ok None) = explanation_line (explain w.chain w.run)
line_text w (Ok (Some m)) = move_text w m

-- the chain after a move that was taken or refused
abbrev pub goes_on : Chained → Result Chained Refusal → Chained
goes_on w (Ok next) = next
goes_on w (Err refusal) = w

abbrev pub after_one : Chained → Move → Chained
after_one w m = goes_on w (after_taking w m)

-- the chain after a line
abbrev pub after_line : Chained → Result (Option Move) Refusal → Chained
after_line w (Err refusal) = w
after_line w (Ok None) = w
after_line w (Ok (Some m)) = after_one w m

-- the text printed for lines, one after another
abbrev pub lines_text : Chained → List ScriptLine → List ℕ
lines_text w [] = []
lines_text w (line ∷ lines) = line_text w (move_of line) ++ lines_text (after_line w (move_of line)) lines

-- the ids from 1 to n
abbrev pub first_ids : ℕ → List ℕ
first_ids zero = []
first_ids (suc n) = first_ids n ++ suc n ∷ []

-- chain 0 of the nodes 1 to `nodes`, with 1 as the head, before any move
abbrev pub script_opening : ℕ → Chained
script_opening nodes = opened_chain 0 (first_ids nodes)

-- the text printed for lines played on a new chain of `nodes` nodes
abbrev pub played_text : ℕ → List ScriptLine → List ℕ
played_text nodes lines = lines_text (script_opening nodes) lines

-- the text printed for a script's lines, or the number of the first line outside the grammar
abbrev pub printed : ℕ → Result (List ScriptLine) ℕ → Result (List ℕ) Refusal
printed nodes (Ok lines) = Ok (played_text nodes lines)
printed nodes (Err line) = Err (refusals.BadScript line)

-- the text printed for a script played on a new chain of `nodes` nodes
abbrev pub played : ℕ → List ℕ → Result (List ℕ) Refusal
played nodes script = printed nodes (script_of script)

-- the result is this text, or the script's refusal, or out of memory
abbrev pub Plays : {S : Type 0} → (S → List ℕ) → Result S Refusal → Result (List ℕ) Refusal → Type 0
Plays bytes (Ok text) wanted = wanted ≡ Ok (bytes text)
Plays bytes (Err e) wanted = (e ≡ refusals.Memory) ⊎ (wanted ≡ Err e)
