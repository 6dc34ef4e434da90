use Rattle.std.proofs.Common.{◌≡◌}
use Rattle.craq_check.specs.Tests.{found_in, strong_by}
use Rattle.craq_check.proofs.lookups.strong_answers.Given as goal

-- the strong replies so far
abbrev pub invariant-loop-answer : goal.invariant-loop-answer
invariant-loop-answer l = l.strong.items ≡ strong_by (found_in l.asks) l.yielded
