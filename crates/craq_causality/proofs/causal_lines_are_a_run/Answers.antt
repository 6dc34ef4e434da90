use Rattle.craq_causality.proofs.Start.{is_run, is_typed_run}
use Rattle.craq_causality.proofs.causal_lines_are_a_run.Goals as goal

pub returns-clause-run : goal.returns-clause-run
returns-clause-run c = is_run

pub returns-clause-typed : goal.returns-clause-typed
returns-clause-typed c = is_typed_run
