use Rattle.std.proofs.Common.{◌∙◌}
use Rattle.craq_compact_state.proofs.Placing.{absent_here, indexed_here}
use Rattle.craq_compact_state.proofs.objects.object_in.Goals as goal

pub returns-in-Some-clause-object : goal.returns-in-Some-clause-object
returns-in-Some-clause-object c = c.settled_object.ensures.object ∙ indexed_here c.args.table.now c.args.key.now c.in-Some.list.now c.requires.rising c.in-Some.ensures

pub returns-in-None-clause-object : goal.returns-in-None-clause-object
returns-in-None-clause-object c = rw c.new.ensures (absent_here c.args.table.now c.args.key.now c.requires.rising c.in-None.ensures)
