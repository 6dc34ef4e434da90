-- Defines the verdict printed on a linearization witness, and the text of a script or its bad line.
use Rattle.std.specs.Prelude.{◌≡◌, ◌↔◌, ℕ, Bool, true, if◌then◌else◌, List, ◌++◌, codes, Result, Ok, Err}
use Rattle.craq_names.specs.declared.refusal.Refusal.{Refusal}
use Rattle.craq_names.specs.declared.refusal.Refusal.TheVariants as refusals
use Rattle.craq_runs.specs.declared.explanation.Explanation.{Explanation}
use Rattle.craq_runs.specs.declared.run.Run.{Run}
use Rattle.craq_runs.specs.Explain.{explain}
use Rattle.craq_runs.specs.Seen.{seen}
use Rattle.craq_runs.specs.Valid.{IsChecked}
use Rattle.craq_chain.specs.Chained.{Chained}
use Rattle.craq_script.specs.declared.line.ScriptLine.{ScriptLine}

-- `holds` answers as `check` does: true exactly if every checked property of the witness holds of
-- the run
abbrev pub AnswersAsCheck : (Run → Explanation → Bool) → Type 0
AnswersAsCheck holds = (run : Run) (explanation : Explanation) → (holds run explanation ≡ true) ↔ IsChecked (seen run) explanation

-- the answer of `holds` on the linearization witness of the chain's run
abbrev pub answer_on : (Run → Explanation → Bool) → Chained → Bool
answer_on holds w = holds w.run (explain w.chain w.run)

-- the line of a verdict
abbrev pub verdict_text : Bool → List ℕ
verdict_text valid = codes "valid " ++ (if valid then codes "true" else codes "false") ++ codes "\n"

-- the text of the lines of a script, or the number of the first line outside the grammar
abbrev pub of_lines : (List ScriptLine → List ℕ) → Result (List ScriptLine) ℕ → Result (List ℕ) Refusal
of_lines text (Ok lines) = Ok (text lines)
of_lines text (Err line) = Err (refusals.BadScript line)
