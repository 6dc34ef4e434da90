use Rattle.std.proofs.Common.{◌≡◌, ◌++◌, drop}
use Rattle.craq_check.specs.Tests.{placed}
use Rattle.craq_check.proofs.strong.claims_of.Given as goal

-- the claims so far, and then those of the rest
abbrev pub invariant-loop-answer : goal.invariant-loop-answer
invariant-loop-answer l = l.claims.items ++ placed (drop l.answer-index l.answers) l.rest ≡ placed l.answers l.places
