use Rattle.std.proofs.Common.{◌≡◌, ℕ, map, take}
use Rattle.std.specs.List.{list_any}
use Rattle.std.specs.HashSet.{contains}
use Rattle.craq_runs.specs.Valid.{answer_name}
use Rattle.craq_check.specs.Tests.{same_pair}
use Rattle.craq_check.proofs.once.are_names_once.Given as goal

-- the set has the names so far
abbrev pub invariant-loop-answer : goal.invariant-loop-answer
invariant-loop-answer l = (q : ℕ × ℕ) → contains same_pair l.names q ≡ list_any (same_pair q) (map answer_name (take l.answer-index l.answers))
