use Rattle.std.proofs.Common.{◌≡◌, ◌+◌, map, drop}
use Rattle.craq_cli.specs.Verbs.{items_from}
use Rattle.craq_cli.proofs.Items.{behind}
use Rattle.craq_cli.proofs.verbs.items_of.Given as goal

-- the items so far and those of the words that are left
abbrev pub invariant-loop-index : goal.invariant-loop-index
invariant-loop-index l =
    behind l.items.items (items_from l.fn.context (l.index + 1) (map (λ w. w.now) (drop l.index l.words))) ≡ items_from l.fn.context 1 (map (λ w. w.now) l.fn.words)
