use Rattle.std.proofs.Common.{◌≡◌, ◌++◌, ◌-◌, ◌+◌, ◌<◌, ◌≤◌, ℕ, List, [], drop, map, take, unwrap_or, sym, ap, subst, arith, ◌∙◌}
use Rattle.std.specs.List.{AllZip}
use Rattle.craq_model.specs.Past.{newest_within, values_after}
use Rattle.craq_compact_state.specs.declared.value_locations.ValueLocation.{ValueLocation}
use Rattle.craq_compact_state.specs.Indexed.{GivesValue}
use Rattle.craq_compact_state.specs.Placed.{settled_in}
use Rattle.craq_compact_state.proofs.Found.{above_bound, place_next, places_in, refs_given, refs_in, settled_given, values_split, within_bound, within_ends, within_next, written_given}
use Rattle.craq_compact_state.proofs.lookups.within_list.Goals as goal

pub loop-index-init : goal.loop-index-init
loop-index-init c =
    let key = c.args.key.now in
    let all = c.args.entries.now.entries in
    let bound : ℕ = c.args.version + c.args.above in
    let n : ℕ = c.args.indexed - c.args.entries.now.base in
    let vs = values_after (take n all) key in
    let first : ℕ × List ℕ = unwrap_or (settled_in c.args.list.now.versions) (0, []) in
    record {
      goes_on = (vs, refs_given c.args.entries.now c.args.list.now.versions vs c.requires.later, ap (λ (o : ℕ × List ℕ). newest_within bound o (vs ++ values_after (drop n all) key)) c.settled_object-last.ensures.object ∙ ap (λ (l : List (ℕ × List ℕ)). newest_within bound first l) (values_split n all key));
      short = c.settled_object-last.ensures.short;
    }

pub returns-then-saturating_sub-above-clause-object : goal.returns-then-saturating_sub-above-clause-object
returns-then-saturating_sub-above-clause-object c =
    let on = c.loop-index.invariant.goes_on in
    let first = written_given c.args.entries.now c.held.result.now c.in-Written.at (drop c.loop-index.index (places_in c.args.list.now.versions)) (drop (c.loop-index.index + 1) (places_in c.args.list.now.versions)) on.0 c.in-Written.is (place_next c.args.list.now.versions c.loop-index.index c.held.result.now (omega (arith, c.loop-index-test.true, c.len-index-end.ensures)) c.held.ensures) on.1 in
    let same = c.written-next.ensures.object first.0 first.3 in
    let more : List (ℕ × List ℕ) = values_after (drop (c.args.indexed - c.args.entries.now.base) c.args.entries.now.entries) c.args.key.now in
    let its : c.saturating_sub.result ≡ first.0.0 - c.args.version = c.saturating_sub.ensures ∙ ap (λ (n : ℕ). n - c.args.version) (c.get.ensures ∙ ap (λ (x : ℕ × List ℕ). x.0) same) in
    let above : c.args.above < first.0.0 - c.args.version = subst (λ (n : ℕ). c.args.above < n) its c.if-saturating_sub-above.true in
    within_ends (c.args.version + c.args.above) (c.loop-index.last, c.loop-index.bytes.now) first.0 _ on.0 first.1 more first.2 (above_bound first.0.0 c.args.version c.args.above above) on.2

pub loop-index-preserved : goal.loop-index-preserved
loop-index-preserved c =
    let on = c.loop-index.invariant.goes_on in
    let first = written_given c.args.entries.now c.held.result.now c.in-Written.at (drop c.loop-index.index (places_in c.args.list.now.versions)) (drop (c.loop-index.index + 1) (places_in c.args.list.now.versions)) on.0 c.in-Written.is (place_next c.args.list.now.versions c.loop-index.index c.held.result.now (omega (arith, c.loop-index-test.true, c.len-index-end.ensures)) c.held.ensures) on.1 in
    let same = c.written-next.ensures.object first.0 first.3 in
    let more : List (ℕ × List ℕ) = values_after (drop (c.args.indexed - c.args.entries.now.base) c.args.entries.now.entries) c.args.key.now in
    let its : c.saturating_sub.result ≡ first.0.0 - c.args.version = c.saturating_sub.ensures ∙ ap (λ (n : ℕ). n - c.args.version) (c.get.ensures ∙ ap (λ (x : ℕ × List ℕ). x.0) same) in
    let within : first.0.0 - c.args.version ≤ c.args.above = subst (λ (n : ℕ). n ≤ c.args.above) its c.if-saturating_sub-above.false in
    record {
      goes_on = (first.1, first.4, within_next (c.args.version + c.args.above) (c.loop-index.last, c.loop-index.bytes.now) first.0 (c.written-next.result.0, c.written-next.result.1.now) _ on.0 first.1 more first.2 (within_bound first.0.0 c.args.version c.args.above within) same on.2);
      short = c.written-next.ensures.short;
    }
