-- `check` accepts the linearization witness of every run.
use Rattle.std.proofs.Common.{◌≡◌, Bool, true}
use Rattle.craq_runs.specs.Explain.{explain}
use Rattle.craq_runs.specs.declared.explanation.Explanation.{Explanation}
use Rattle.craq_runs.specs.declared.run.Run.{Run}
use Rattle.craq_strong_answers.proofs.Strong.{checked}
use Rattle.craq_chain.specs.Chained.{Chained}
use Rattle.craq_schedules.specs.Verdicts.{AnswersAsCheck, answer_on}
use Rattle.craq_verdicts.proofs.Going.{HasRun}

pub is_true : (holds : Run → Explanation → Bool) (w : Chained) → AnswersAsCheck holds → HasRun w → answer_on holds w ≡ true
is_true holds w answers h = (answers w.run (explain w.chain w.run)).1 (checked w.chain w.run h)
