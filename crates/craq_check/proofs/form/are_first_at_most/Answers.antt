use Rattle.std.proofs.Common.{◌≤◌, ◌∙◌, drop, sym, ap, arith}
use Rattle.std.specs.Prelude.{nat_le}
use Rattle.std.specs.List.{list_all}
use Rattle.craq_check.proofs.InTime.{rest_passes, fewer_pass}
use Rattle.craq_check.proofs.form.are_first_at_most.Goals as goal

pub returns-then-count-looked : goal.returns-then-count-looked
returns-then-count-looked c = sym (fewer_pass (λ a. nat_le a c.args.number) c.args.asks.now c.args.looked c.args.count c.requires c.if-count-looked.true)

pub returns : goal.returns
returns c =
    let more : c.args.looked ≤ c.args.count = omega (arith, c.if-count-looked.false) in
    c.are_at_most.ensures
    ∙ ap (list_all (λ a. nat_le a c.args.number)) (c.all_but.ensures ∙ ap (drop c.args.looked) c.first_of.ensures)
    ∙ rest_passes (λ a. nat_le a c.args.number) c.args.asks.now c.args.looked c.args.count c.requires more
