use Rattle.std.proofs.Common.{sym, ap, ◌∙◌}
use Rattle.std.specs.Option.{option_or}
use Rattle.std.specs.BTreeMap.{is_at}
use Rattle.craq_explain.specs.Firsts.{name_cmp, number_if}
use Rattle.craq_explain.proofs.Noting.{asked_push, asked_stay}
use Rattle.craq_explain.proofs.asks.note_ask.Goals as goal

pub returns-in-None : goal.returns-in-None
returns-in-None c = λ asks tells q. rw (c.in-Ask.is, c.in-None.is) (tells q ∙ sym (asked_stay asks c.args.number c.in-Ask.node c.in-Ask.ask q))

pub returns-in_ok-put_first-in-Some : goal.returns-in_ok-put_first-in-Some
returns-in_ok-put_first-in-Some c = λ asks tells q.
    let node = c.in-Ask.node in
    let ticket = c.in-Some.ticket in
    let number = c.args.number in
    rw (c.in-Ask.is, c.in-Some.is) (c.in_ok-put_first-in-Some.ensures q ∙ ap (λ x. option_or x (number_if (is_at (name_cmp (node, ticket)) q) number)) (tells q) ∙ sym (asked_push asks number node ticket c.in-Ask.ask q))
