use Rattle.craq_merge.proofs.Positions.{no_older}
use Rattle.craq_merge.proofs.later_answers_are_no_older.Goals as goal

pub returns : goal.returns
returns c = no_older
