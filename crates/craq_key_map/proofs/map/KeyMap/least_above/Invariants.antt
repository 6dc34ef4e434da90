use Rattle.std.proofs.Common.{◌≡◌, None, take}
use Rattle.std.specs.Option.{option_copied}
use Rattle.craq_key_map.specs.Rising.{least_of, lent_least}
use Rattle.craq_key_map.proofs.map.KeyMap.least_above.Given as goal

-- the least of the entries before the place
abbrev pub invariant-loop-place : goal.invariant-loop-place
invariant-loop-place g l = lent_least l.least ≡ least_of (option_copied l.last) None (take l.place l.self)
