use Rattle.std.proofs.Common.{◌∙◌, inr, refl, sym, ap, map, drop, length, leb, List, [], rules, ◌+◌, string_bytes}
use Rattle.std.proofs.lemmas.Result.{err_from_is_err_and}
use Rattle.std.proofs.lemmas.Bool.{or_left, or_right, or_from}
use Rattle.toml.specs.View.{view, items_of}
use Rattle.craq_place.specs.Chains.{chains_of}
use Rattle.craq_place.specs.Plan.{Chain}
use Rattle.craq_place.specs.Reading.{chains_from, has_name}
use Rattle.craq_place.proofs.Places.{goes_on, is_full, stops, ends}
use Rattle.craq_place.proofs.plan.read_chains.Goals as goal

pub returns-in_err-name : goal.returns-in_err-name
returns-in_err-name c =
    let p = err_from_is_err_and c.from_residual.result c.from_residual.ensures.1 in
    rw (p.1, p.2) (stops c.in_err-name.field-0.0 (chains_of c.loop-value.chains.entries) c.args.items.now c.loop-value.value-index c.value-item.result (chains_from [] (items_of (map view c.args.items.now))) (search rules) c.value-item.is c.in_err-name.ensures c.loop-value.invariant)

pub returns-then-has_chain : goal.returns-then-has_chain
returns-then-has_chain c =
    let there = or_left (has_name (string_bytes c.in_ok-name.name) (chains_of c.loop-value.chains.entries)) (leb 64 (length (chains_of c.loop-value.chains.entries))) (search rules) in
    inr (refl, c.loop-value.invariant ∙ is_full (chains_of c.loop-value.chains.entries) (string_bytes c.in_ok-name.name, c.in_ok-name.nodes) c.args.items.now c.loop-value.value-index c.value-item.result (search rules) c.value-item.is c.in_ok-name.ensures there)

pub returns-then-is_full : goal.returns-then-is_full
returns-then-is_full c =
    let full = or_right (has_name (string_bytes c.in_ok-name.name) (chains_of c.loop-value.chains.entries)) (leb 64 (length (chains_of c.loop-value.chains.entries))) (search rules) in
    inr (refl, c.loop-value.invariant ∙ is_full (chains_of c.loop-value.chains.entries) (string_bytes c.in_ok-name.name, c.in_ok-name.nodes) c.args.items.now c.loop-value.value-index c.value-item.result (search rules) c.value-item.is c.in_ok-name.ensures full)

pub loop-value-preserved : goal.loop-value-preserved
loop-value-preserved c =
    let free = or_from (has_name (string_bytes c.in_ok-name.name) (chains_of c.loop-value.chains.entries)) (leb 64 (length (chains_of c.loop-value.chains.entries))) (search rules) (search rules) in
    c.loop-value.invariant ∙ goes_on (chains_of c.loop-value.chains.entries) (string_bytes c.in_ok-name.name, c.in_ok-name.nodes) c.args.items.now c.loop-value.value-index c.value-item.result (search rules) c.value-item.is c.in_ok-name.ensures free
    ∙ ap (λ (cs : List Chain). chains_from cs (items_of (map view (drop (c.loop-value.value-index + 1) c.args.items.now)))) (sym c.in_ok-put_chain.ensures)

pub returns : goal.returns
returns c = c.loop-value.invariant ∙ ends (chains_of c.loop-value.chains.entries) c.args.items.now c.loop-value.value-index (search rules)
