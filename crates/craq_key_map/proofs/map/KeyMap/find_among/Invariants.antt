use Rattle.std.proofs.Common.{◌≢◌, ℕ, Some, take}
use Rattle.std.specs.List.{Contains}
use Rattle.craq_key_map.specs.Mapped.{key_of}
use Rattle.craq_key_map.proofs.map.KeyMap.find_among.Given as goal

-- no slot before the index has the key
abbrev pub invariant-loop-index : goal.invariant-loop-index
invariant-loop-index g l = (place : ℕ) → Contains (take l.index l.slots) (record { hash = l.hash; place = place }) → key_of l.self place ≢ Some l.key
