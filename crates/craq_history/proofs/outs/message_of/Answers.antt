use Rattle.std.proofs.Common.{◌<◌, ◌≤◌, ◌≡◌, length, ap, arith}
use Rattle.craq_history.proofs.Running.{batch_body, entry_body, empty_body}
use Rattle.craq_history.proofs.outs.message_of.Goals as goal

pub returns-then-as_slice-gt1 : goal.returns-then-as_slice-gt1
returns-then-as_slice-gt1 c =
    let some : 1 < length c.args.run.items = omega (arith, ap length c.as_slice.ensures.value) in
    rw c.of.ensures (batch_body c.args.run.items some c.requires)

pub returns-in-Some : goal.returns-in-Some
returns-in-Some c =
    let few : length c.args.run.items ≤ 1 = omega (arith, ap length c.as_slice.ensures.value) in
    entry_body c.args.run.items c.pop.new.self.items c.in-Some.entry c.in-Some.ensures.items few

pub returns : goal.returns
returns c =
    let none : length c.args.run.items ≡ 0 = omega (arith, c.args.run.ok.0, c.in-None.ensures.cases.0) in
    empty_body c.args.run.items none
