use Rattle.std.proofs.Common.{arith}
use Rattle.std.proofs.lemmas.Bool.Decides.{nat_tests}
use Rattle.craq_place.proofs.Places.{same_count}
use Rattle.craq_place.proofs.plan.is_full.Goals as goal

pub returns : goal.returns
returns c = let count = same_count c.args.chains.now.entries in grind (arith, nat_tests, count, c.len.ensures.len)
