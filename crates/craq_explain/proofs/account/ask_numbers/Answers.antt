use Rattle.std.proofs.Common.{◌≤◌, ℕ, length, map, ap, subst, ◌∙◌}
use Rattle.std.specs.Prelude.{unwrap_or}
use Rattle.std.specs.BTreeMap.{get}
use Rattle.std.proofs.lemmas.List.{take_all}
use Rattle.craq_explain.specs.Firsts.{name_cmp}
use Rattle.craq_explain.proofs.Noting.{all_numbered}
use Rattle.craq_explain.proofs.account.ask_numbers.Goals as goal

pub returns : goal.returns
returns c = λ asks pending entries tables.
    let t = c.args.tables.now in
    let i = c.loop-node.node-index in
    let h : length t.committed.origins.items ≤ i = subst (λ xs. length xs ≤ i) c.origins-node-items.ensures c.loop-node-test.false in
    c.loop-node.invariant
    ∙ ap (map (λ (name : ℕ × ℕ). unwrap_or (get name_cmp t.asked name) 0)) (take_all i t.committed.origins.items h ∙ tables.committed.origins)
    ∙ all_numbered asks t.asked entries tables.asked
