use Rattle.std.proofs.Common.{◌≡◌, drop}
use Rattle.craq_names.specs.Maps.{at_number}
use Rattle.craq_write.proofs.gathering.is_held.Given as goal

-- no visited part has the number
abbrev pub invariant-loop-held : goal.invariant-loop-held
invariant-loop-held l = at_number (drop l.held-index l.parts) l.number ≡ at_number l.parts l.number
