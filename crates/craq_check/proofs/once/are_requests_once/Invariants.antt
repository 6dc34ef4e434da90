use Rattle.std.proofs.Common.{◌≡◌, ℕ, map, take}
use Rattle.std.specs.List.{list_any}
use Rattle.std.specs.HashSet.{contains}
use Rattle.craq_check.specs.Tests.{same_pair}
use Rattle.craq_check.proofs.Distinct.{request_name}
use Rattle.craq_check.proofs.once.are_requests_once.Given as goal

-- the set has the clients and numbers so far
abbrev pub invariant-loop-seen : goal.invariant-loop-seen
invariant-loop-seen l = (q : ℕ × ℕ) → contains same_pair l.requests q ≡ list_any (same_pair q) (map request_name (take l.seen-index l.updates))
