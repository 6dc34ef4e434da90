use Rattle.std.proofs.Common.{◌≡◌, ap, arith, drop, length, []}
use Rattle.craq_causality.proofs.Numbers.{all_sent}
use Rattle.craq_audit.proofs.Counted.{past_end}
use Rattle.craq_audit.proofs.numbers.sums_of.Goals as goal

pub returns-clause-fits : goal.returns-clause-fits
returns-clause-fits c =
    let none : drop c.loop-line.line-index c.args.lines.now ≡ [] = past_end c.args.lines.now c.loop-line.line-index c.loop-line-test.false in
    let zero : length (all_sent (drop c.loop-line.line-index c.args.lines.now)) ≡ 0 = ap (λ ls. length (all_sent ls)) none in
    let all = c.loop-line.invariant.all in
    let few = c.loop-line.invariant.few in
    omega (arith, zero, all, few)
