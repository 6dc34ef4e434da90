use Rattle.std.proofs.Common.{◌≡◌, List, ◌∙◌, ap}
use Rattle.craq_runs.specs.Seen.{Asked, seen, asks_from, ask_with}
use Rattle.craq_check.specs.Tests.{AskOf, found_in, is_checked_by, is_checked}
use Rattle.craq_check.proofs.verdict.is_checked.Goals as goal

pub returns : goal.returns
unfolding is_checked
returns c =
    let lent : c.as_slice-lent.result.now ≡ asks_from 1 c.args.run.now.moves = c.as_slice-lent.ensures.value ∙ c.in_ok-asks.ensures ∙ ap (asks_from 1) c.as_slice-moves.ensures in
    let found : found_in c.in_ok-index.index ≡ ask_with c.as_slice-lent.result.now = λ i node ticket. c.in_ok-index.ensures node ticket i in
    c.in_ok-met.ensures
    ∙ ap (λ (ask_at : AskOf). is_checked_by ask_at (seen c.args.run.now) c.args.explanation.now) (found ∙ ap (λ (asks : List Asked). ask_with asks) lent)
