use Rattle.std.proofs.Common.{◌≡◌, ℕ, map, take}
use Rattle.std.specs.Prelude.{unwrap_or}
use Rattle.std.specs.BTreeMap.{get}
use Rattle.craq_explain.specs.Firsts.{name_cmp}
use Rattle.craq_explain.proofs.account.ask_numbers.Given as goal

abbrev pub invariant-loop-node : goal.invariant-loop-node
invariant-loop-node l = l.numbers.items ≡ map (λ (name : ℕ × ℕ). unwrap_or (get name_cmp l.tables.asked name) 0) (take l.node-index l.tables.committed.origins.items)
