use Rattle.std.proofs.Common.{inl, inr}
use Rattle.craq_part_tests.proofs.lists.can_settle_as.Goals as goal

pub returns-then-holds : goal.returns-then-holds
returns-then-holds c = λ _. inl (c.holds.ensures c.if-holds.true)

pub returns : goal.returns
returns c = λ is. inr (c.is_next.ensures is)
