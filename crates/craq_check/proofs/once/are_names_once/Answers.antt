use Rattle.std.proofs.Common.{length, map, ap, ◌∙◌}
use Rattle.std.specs.Prelude.{◌==◌, List}
use Rattle.std.specs.List.{list_any}
use Rattle.std.proofs.lemmas.List.{take_all}
use Rattle.craq_runs.specs.Seen.{Answered}
use Rattle.craq_runs.specs.Valid.{answer_name}
use Rattle.craq_check.specs.Tests.{same_pair}
use Rattle.craq_check.proofs.Distinct.{names_once}
use Rattle.craq_check.proofs.once.are_names_once.Goals as goal

pub returns : goal.returns
returns c =
    ap (λ n. n == length c.args.answers.now) c.len.ensures.len
    ∙ names_once c.loop-answer.names c.args.answers.now
    (λ q. c.loop-answer.invariant q ∙ ap (λ (xs : List Answered). list_any (same_pair q) (map answer_name xs)) (take_all c.loop-answer.answer-index c.args.answers.now c.loop-answer-test.false))
    c.len.ensures.unique
