use Rattle.craq_examples.proofs.Holds.{is_run, is_valid}
use Rattle.craq_examples.proofs.clean_and_dirty_reads_hold.Goals as goal

pub returns : goal.returns
returns c = record { run = is_run; valid = is_valid }
