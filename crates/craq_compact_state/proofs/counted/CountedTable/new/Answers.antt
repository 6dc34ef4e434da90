use Rattle.std.proofs.Common.{[], refl}
use Rattle.craq_compact_state.specs.Placed.{objects_of}
use Rattle.craq_compact_state.proofs.Bytes.{objects_counted}
use Rattle.craq_compact_state.proofs.Placing.{new_is_empty}
use Rattle.craq_compact_state.proofs.counted.CountedTable.new.Goals as goal

pub returns-clause-counted : goal.returns-clause-counted
returns-clause-counted c = objects_counted 0 [] (objects_of c.new.result) [] refl (new_is_empty c.new.result c.new.ensures).0 refl
