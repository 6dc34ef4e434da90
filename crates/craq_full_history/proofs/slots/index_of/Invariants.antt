use Rattle.std.proofs.Common.{◌≡◌, drop}
use Rattle.craq_names.specs.Maps.{at_number}
use Rattle.craq_full_history.proofs.slots.index_of.Given as goal

-- no visited slot has the number
abbrev pub invariant-loop-slot : goal.invariant-loop-slot
invariant-loop-slot l = at_number (drop l.slot-index l.slots) l.number ≡ at_number l.slots l.number
