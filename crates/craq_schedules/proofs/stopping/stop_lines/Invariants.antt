use Rattle.std.proofs.Common.{◌≡◌, Bool, string_bytes}
use Rattle.craq_runs.specs.declared.explanation.Explanation.{Explanation}
use Rattle.craq_runs.specs.declared.run.Run.{Run}
use Rattle.craq_schedules.specs.Stopped.{cuts_text}
use Rattle.craq_schedules.specs.Verdicts.{AnswersAsCheck}
use Rattle.craq_schedules.proofs.stopping.stop_lines.Given as goal

abbrev pub invariant-loop-cut : goal.invariant-loop-cut
invariant-loop-cut g l = (holds : Run → Explanation → Bool) → AnswersAsCheck holds → string_bytes l.text ≡ cuts_text holds l.nodes l.node l.lines l.cut
