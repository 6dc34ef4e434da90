use Rattle.std.proofs.Common.{sym, ap, ◌∙◌}
use Rattle.std.specs.Option.{option_or}
use Rattle.std.specs.BTreeMap.{is_at}
use Rattle.craq_explain.specs.Firsts.{name_cmp, number_if}
use Rattle.craq_explain.specs.Tables.{pending_of}
use Rattle.craq_explain.proofs.Noting.{pending_push}
use Rattle.craq_explain.proofs.asks.note_pending.Goals as goal

pub returns-in_ok-put_first-in-Some : goal.returns-in_ok-put_first-in-Some
returns-in_ok-put_first-in-Some c = λ places tells q.
    let p = c.in-Some.place in
    rw c.in-Some.is (c.in_ok-put_first-in-Some.ensures q ∙ ap (λ x. option_or x (number_if (is_at (name_cmp (p.node, p.ticket)) q) c.get.result)) (tells q) ∙ ap (λ n. option_or (pending_of places q) (number_if (is_at (name_cmp (p.node, p.ticket)) q) n)) c.get.ensures ∙ sym (pending_push places p q))
