use Rattle.std.proofs.Common.{◌≡◌, ◌/◌, length}
use Rattle.craq_key_map.specs.Hashed.{absorbed}
use Rattle.craq_key_map.proofs.sip.digest.Given as goal

-- the state so far and the bytes that are left make the whole state
abbrev pub invariant-loop-left : goal.invariant-loop-left
invariant-loop-left l = absorbed (length l.left / 8) l.state (length l.bytes) l.left ≡ absorbed (length l.bytes / 8) l.start (length l.bytes) l.bytes

abbrev pub decreases-loop-left : goal.decreases-loop-left
decreases-loop-left l = length l.left
