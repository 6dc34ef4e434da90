use Rattle.std.proofs.Common.{◌++◌, ap}
use Rattle.craq_play.specs.Played.{script_opening}
use Rattle.craq_schedules.specs.Drawn.{after_choices, choices_text}
use Rattle.craq_schedules.specs.Stopped.{count_committed, cut_line, up_to, without_node}
use Rattle.craq_schedules.specs.Verdicts.{verdict_text}
use Rattle.craq_verdicts.proofs.Going.{choices_run, up_to_runs, without_runs}
use Rattle.craq_verdicts.proofs.Opening.{opening_runs}
use Rattle.craq_verdicts.proofs.Verdicts.{is_true}
use Rattle.craq_verdicts.proofs.every_verdict_is_valid.Goals as goal

pub returns-clause-run : goal.returns-clause-run
returns-clause-run c = λ holds w answers h. is_true holds w answers h

pub returns-clause-drawn : goal.returns-clause-drawn
returns-clause-drawn c = λ holds nodes choices lines answers some few.
    let end = after_choices choices (script_opening nodes) lines in
    ap (λ b. choices_text choices (script_opening nodes) lines ++ verdict_text b) (is_true holds end answers (choices_run choices (script_opening nodes) lines (opening_runs nodes some few)))

pub returns-clause-stopped : goal.returns-clause-stopped
returns-clause-stopped c = λ holds nodes node lines cut answers some few.
    let end = without_node (up_to cut (script_opening nodes) lines) node in
    ap (λ b. cut_line cut (count_committed end) b) (is_true holds end answers (without_runs (up_to cut (script_opening nodes) lines) node (up_to_runs cut (script_opening nodes) lines (opening_runs nodes some few))))
