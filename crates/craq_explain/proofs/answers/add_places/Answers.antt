use Rattle.std.proofs.Common.{◌≡◌, ◌<◌, ◌≤◌, ◌+◌, length, get_or, drop, subst}
use Rattle.craq_runs.specs.Explain.{places_of}
use Rattle.craq_runs.specs.Seen.{answers_in, asks_from}
use Rattle.craq_full_history.specs.contracts.history.FullHistoryHistory.TheImpl.{past-value}
use Rattle.craq_explain.specs.Shown.{places_in, plain_in}
use Rattle.craq_explain.proofs.Places.{all_put, carried}
use Rattle.craq_explain.proofs.answers.add_places.Goals as goal

pub loop-out-preserved : goal.loop-out-preserved
loop-out-preserved c = λ number pending entries tables.
    let e = c.as_slice-out-items.ensures in
    let os = c.args.replayed.now.taken.now.step.outs in
    let i = c.loop-out.out-index in
    let out = c.out-item.result in
    let h : i < length os = subst (λ xs. i < length xs) e c.loop-out-test.true in
    let is : out ≡ get_or os i out = subst (λ xs. out ≡ get_or xs i out) e c.out-item.is in
    carried (λ xs. places_of (asks_from 1 c.args.moves.now) pending entries (plain_in past-value.it c.args.stands) c.args.replayed.now.word (answers_in number c.args.replayed.now.node xs)) os i out c.loop-out.places.items (places_in c.in_ok-place.place) c.put_place.new.places.items _ h is (c.in_ok-place.ensures number (drop (i + 1) os) pending entries tables) c.in_ok-put_place.ensures (c.loop-out.invariant number pending entries tables)

pub returns : goal.returns
returns c = λ number pending entries tables.
    let os = c.args.replayed.now.taken.now.step.outs in
    let i = c.loop-out.out-index in
    let h : length os ≤ i = subst (λ xs. length xs ≤ i) c.as_slice-out-items.ensures c.loop-out-test.false in
    all_put (asks_from 1 c.args.moves.now) pending entries (plain_in past-value.it c.args.stands) c.args.replayed.now.word number c.args.replayed.now.node os i c.loop-out.places.items _ h (c.loop-out.invariant number pending entries tables)
