use Rattle.std.proofs.Common.{length, map, ap, ◌∙◌}
use Rattle.std.specs.Prelude.{◌==◌, List}
use Rattle.std.specs.List.{list_any}
use Rattle.std.proofs.lemmas.List.{take_all}
use Rattle.craq_commands.specs.declared.command.Update.{Update}
use Rattle.craq_check.specs.Tests.{same_pair}
use Rattle.craq_check.proofs.Distinct.{request_name, requests_once}
use Rattle.craq_check.proofs.once.are_requests_once.Goals as goal

pub returns : goal.returns
returns c =
    ap (λ n. n == length c.args.updates.now) c.len.ensures.len
    ∙ requests_once c.loop-seen.requests c.args.updates.now
    (λ q. c.loop-seen.invariant q ∙ ap (λ (xs : List Update). list_any (same_pair q) (map request_name xs)) (take_all c.loop-seen.seen-index c.args.updates.now c.loop-seen-test.false))
    c.len.ensures.unique
