use Rattle.craq_compact_state.proofs.Clean.{placed_first}
use Rattle.craq_compact_state.proofs.Placing.{later_first, objects_first}
use Rattle.craq_compact_state.proofs.Results.{ok_then}
use Rattle.craq_compact_state.proofs.objects.put_object.Goals as goal

pub returns-clause-objects : goal.returns-clause-objects
returns-clause-objects c = ok_then c.put_clean.result (λ is. objects_first c.args.table.now c.put_clean.new.self c.args.key c.args.version c.args.value c.requires.placed.rising is) c.put_clean.ensures.ok

pub returns-clause-later : goal.returns-clause-later
returns-clause-later c = ok_then c.put_clean.result (λ is. later_first c.args.table.now c.put_clean.new.self c.args.key c.args.version c.args.value is) c.put_clean.ensures.ok

pub returns-clause-placed : goal.returns-clause-placed
returns-clause-placed c = ok_then c.put_clean.result (λ is. placed_first c.args.table.now c.put_clean.new.self c.args.key c.args.version c.args.value is c.requires.placed) c.put_clean.ensures.ok
