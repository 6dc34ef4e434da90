-- Defines the text printed for a drawn schedule of a script.
use Rattle.std.specs.Prelude.{◌≡◌, ℕ, Bool, ◌%◌, nat_lt, if◌then◌else◌, List, [], ◌∷◌, ◌++◌, map, length, Option, Some, None, Result, slice_get}
use Rattle.std.specs.List.{filter, range_with_len}
use Rattle.craq_names.specs.declared.refusal.Refusal.{Refusal}
use Rattle.craq_model.specs.Plain.{Plain, id_of}
use Rattle.craq_runs.specs.declared.explanation.Explanation.{Explanation}
use Rattle.craq_runs.specs.declared.run.Run.{Run}
use Rattle.craq_runs.specs.Chain.{Chain}
use Rattle.craq_chain.specs.Chained.{Chained, chain_of_run}
use Rattle.craq_script.specs.declared.line.ScriptLine.{ScriptLine}
use Rattle.craq_script.specs.declared.line.ScriptLine.TheVariants as lines
use Rattle.craq_script.specs.Texts.{script_of}
use Rattle.craq_play.specs.Moves.{move_of}
use Rattle.craq_play.specs.Played.{after_line, line_text, script_opening}
use Rattle.craq_schedules.specs.Verdicts.{answer_on, of_lines, verdict_text}

-- ascending ids with one more id
abbrev pub with_id : ℕ → List ℕ → List ℕ
with_id id [] = id ∷ []
with_id id (other ∷ others) = if nat_lt id other then id ∷ other ∷ others else other ∷ with_id id others

-- the ids in ascending order
abbrev pub rising : List ℕ → List ℕ
rising [] = []
rising (id ∷ ids) = with_id id (rising ids)

-- the ids of the running nodes, in ascending order
abbrev pub running_ids : List Plain → List ℕ
running_ids nodes = rising (map id_of (filter (λ (p : Plain). p.running) nodes))

-- the events enabled after `sent` messages, with these nodes running: the arrival of each message,
-- and a tick of each node
abbrev pub events : ℕ → List ℕ → List ScriptLine
events sent running = map lines.Deliver (range_with_len 1 sent) ++ map lines.Tick running

-- all that is enabled next, each with the lines of the script left after it: the next line, if one
-- is left, and the events
abbrev pub offers : List ScriptLine → List ScriptLine → List (ScriptLine × List ScriptLine)
offers [] happening = map (λ event. (event, [])) happening
offers (line ∷ lines) happening = (line, lines) ∷ map (λ event. (event, line ∷ lines)) happening

-- the element that a choice selects, counted from 0; none of an empty list
abbrev pub picked : {X : Type 0} → List X → ℕ → Option X
picked offered choice = slice_get offered (choice % length offered)

abbrev pub next_of : Chain → List ScriptLine → ℕ → Option (ScriptLine × List ScriptLine)
next_of c lines choice = picked (offers lines (events (length c.messages) (running_ids c.nodes))) choice

-- the text of the selected element, followed by that of the rest of the schedule
abbrev pub next_text : Chained → (Chained → List ScriptLine → List ℕ) → Option (ScriptLine × List ScriptLine) → List ℕ
next_text w rest None = []
next_text w rest (Some next) = line_text w (move_of next.0) ++ rest (after_line w (move_of next.0)) next.1

-- the selected element was played: the chain after it, the text with its output, and the lines left
abbrev pub IsPlayed : Chained → Chained → List ℕ → List ℕ → Option (ScriptLine × List ScriptLine) → Option (List ScriptLine) → Type 0
IsPlayed old new before after None left = (left ≡ None) × (new ≡ old) × (after ≡ before)
IsPlayed old new before after (Some next) left =
    (left ≡ Some next.1) × (new ≡ after_line old (move_of next.0)) × (after ≡ before ++ line_text old (move_of next.0))

-- the text of the choices, one after another
abbrev pub choices_text : List ℕ → Chained → List ScriptLine → List ℕ
choices_text [] w lines = []
choices_text (choice ∷ choices) w lines = next_text w (choices_text choices) (next_of (chain_of_run w) lines choice)

-- the chain after the selected element and the rest of the schedule
abbrev pub after_next : Chained → (Chained → List ScriptLine → Chained) → Option (ScriptLine × List ScriptLine) → Chained
after_next w rest None = w
after_next w rest (Some next) = rest (after_line w (move_of next.0)) next.1

-- the chain after the choices
abbrev pub after_choices : List ℕ → Chained → List ScriptLine → Chained
after_choices [] w lines = w
after_choices (choice ∷ choices) w lines = after_next w (after_choices choices) (next_of (chain_of_run w) lines choice)

-- the text of a schedule on a new chain of `nodes` nodes: that of the choices, and then the verdict
-- that `holds` returns
abbrev pub drawn_text : (Run → Explanation → Bool) → ℕ → List ℕ → List ScriptLine → List ℕ
drawn_text holds nodes choices lines =
    choices_text choices (script_opening nodes) lines ++ verdict_text (answer_on holds (after_choices choices (script_opening nodes) lines))

-- the text of a script's schedule, or the number of the first line outside the grammar
abbrev pub drawn : (Run → Explanation → Bool) → ℕ → List ℕ → List ℕ → Result (List ℕ) Refusal
drawn holds nodes choices script = of_lines (drawn_text holds nodes choices) (script_of script)
