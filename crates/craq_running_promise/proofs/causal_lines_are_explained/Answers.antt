use Rattle.craq_seat.specs.Merge.{run_of}
use Rattle.craq_causality.proofs.Start.{is_typed_run}
use Rattle.craq_promise.proofs.Promised.{explained}
use Rattle.craq_running_promise.proofs.causal_lines_are_explained.Goals as goal

pub returns : goal.returns
returns c = λ chain members lines a typed few. explained chain (run_of members lines) (is_typed_run chain members lines a typed few)
