use Rattle.std.proofs.Common.{◌≡◌, drop}
use Rattle.craq_names.specs.Maps.{at_key}
use Rattle.craq_full_history.proofs.lookups.object_in.Given as goal

-- no visited object has the key
abbrev pub invariant-loop-name : goal.invariant-loop-name
invariant-loop-name l = at_key (drop l.name-index l.objects) l.key ≡ at_key l.objects l.key
