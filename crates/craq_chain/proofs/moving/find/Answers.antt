use Rattle.std.proofs.Common.{◌≡◌, ◌==◌, false, Some, arith, sym, ap, ◌∙◌}
use Rattle.craq_runs.specs.Chain.{message_at}
use Rattle.craq_chain.proofs.Finding.{found_asked, found_receiver, found_stopped, found_ticking}
use Rattle.craq_chain.proofs.moving.find.Goals as goal

pub returns-in-Ask : goal.returns-in-Ask
returns-in-Ask g c = λ m d h k. found_asked d c.args.chosen.now c.in-Ask.node _ c.find_node.result c.in-Ask.is (c.find_node.ensures m d h)

pub returns-in-Some : goal.returns-in-Some
returns-in-Some g c = λ m d h k.
    let at : Some c.in-Some.message.now ≡ message_at d.messages c.in-Deliver.number = c.in-Some.ensures ∙ ap (λ ms. message_at ms c.in-Deliver.number) (sym k) in
    found_receiver d c.args.chosen.now c.in-Deliver.number c.in-Some.message.now c.find_node-in-Some.result c.in-Deliver.is (sym at) (c.find_node-in-Some.ensures m d h)

pub returns-in-Tick : goal.returns-in-Tick
returns-in-Tick g c = λ m d h k.
    let other : (c.in-Tick.node == 0) ≡ false = grind arith in
    found_ticking d c.args.chosen.now c.in-Tick.node c.find_node-in-Tick.result c.in-Tick.is other (c.find_node-in-Tick.ensures m d h)

pub returns-in-Stop : goal.returns-in-Stop
returns-in-Stop g c = λ m d h k. found_stopped d c.args.chosen.now c.in-Stop.node c.find_node-in-Stop.result c.in-Stop.is (c.find_node-in-Stop.ensures m d h)
