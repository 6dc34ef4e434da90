use Rattle.std.proofs.Common.{List, ◌∙◌, ap}
use Rattle.craq_commands.specs.SingleCopy.{opening_state}
use Rattle.craq_check.specs.Tests.{Placed, found_in, are_said}
use Rattle.craq_check.proofs.Placed.{said_in_any_order}
use Rattle.craq_check.proofs.strong.are_said.Goals as goal

pub returns : goal.returns
returns c =
    c.in_ok-said.ensures
    ∙ ap (λ (xs : List Placed). are_said (found_in c.args.asks.now) xs opening_state 0 c.args.updates.now) c.as_slice.ensures.value
    ∙ said_in_any_order (found_in c.args.asks.now) c.in_ok-claims.claims.items c.in_order-sorted.result.items opening_state 0 c.args.updates.now c.in_order-sorted.ensures.same
    ∙ ap (λ (xs : List Placed). are_said (found_in c.args.asks.now) xs opening_state 0 c.args.updates.now) c.in_ok-claims.ensures
