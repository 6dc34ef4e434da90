use Rattle.craq_runs.specs.Seen.{seen}
use Rattle.craq_check.specs.Tests.{is_checked}
use Rattle.craq_check.proofs.Checked.{decides}
use Rattle.craq_verdicts.proofs.some_test_answers_as_check.Goals as goal

pub returns : goal.returns
returns c = (λ run explanation. is_checked (seen run) explanation, λ run explanation. decides (seen run) explanation)
