use Rattle.std.proofs.Common.{ap, ◌∙◌}
use Rattle.craq_schedules.specs.Stopped.{up_to, without_node}
use Rattle.craq_schedules.proofs.stopping.print_cut.Goals as goal

pub returns : goal.returns
returns g c = λ holds answers.
    let end = c.in_ok-stop_and_remove.ensures ∙ ap (λ w. without_node w c.args.node) (c.in_ok-take_up_to.ensures ∙ ap (λ w. up_to c.args.cut w c.args.lines.now) c.in_ok-chain.ensures) in
    rw (← end, ← c.in_ok-verdict_of.ensures.valid holds answers, ← c.in_ok-verdict_of.ensures.committed) c.print_line.ensures
