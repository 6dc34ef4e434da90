use Rattle.std.proofs.Common.{◌≡◌, ◌<◌, ℕ, List, length, take, get_or, ◌∙◌, ap}
use Rattle.std.specs.Ordering.{nat_cmp}
use Rattle.std.specs.Cmp.{nat_cmp_total}
use Rattle.craq_names.specs.Maps.{put_number}
use Rattle.craq_commands.specs.Kept.{Window}
use Rattle.craq_compact_state.proofs.Lists.{put_next}
use Rattle.craq_compact_state.proofs.held.replies_placed.Goals as goal

pub loop-client-preserved : goal.loop-client-preserved
loop-client-preserved c =
    let i = c.loop-client.client-index in
    let all = c.args.kept in
    let k = c.loop-client-item.result in
    let is : k ≡ get_or all i k = rw c.as_slice-client-items.ensures at c.loop-client-item.is in
    let below : i < length all = rw c.as_slice-client-items.ensures at c.loop-client-test.true in
    c.in_ok-put.ensures.ok
    ∙ ap (λ (l : List (ℕ × Window)). put_number l k.0 c.in_ok-copies_of.field-0.items) c.loop-client.invariant
    ∙ ap (λ (w : Window). put_number (take i all) k.0 w) (c.in_ok-copies_of.ensures ∙ c.as_slice.ensures.value)
    ∙ put_next nat_cmp nat_cmp_total all i k below is c.requires.rising
