use Rattle.std.proofs.Common.{◌≡◌, drop}
use Rattle.craq_check.specs.Tests.{found_in, are_in_time}
use Rattle.craq_check.proofs.strong.are_in_time.Given as goal

-- each place so far was reached in time
abbrev pub invariant-loop-answer : goal.invariant-loop-answer
invariant-loop-answer l = are_in_time (found_in l.asks) l.lens (drop l.answer-index l.answers) l.rest ≡ are_in_time (found_in l.asks) l.lens l.answers l.places
