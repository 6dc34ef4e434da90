use Rattle.std.proofs.Common.{◌≡◌, ◌++◌, map, drop, option_map}
use Rattle.craq_script.specs.Grammar.{items_of}
use Rattle.craq_script.proofs.reading.items_of.Given as goal

-- the items so far, followed by those of the remaining words, are all items
abbrev pub invariant-loop-word : goal.invariant-loop-word
invariant-loop-word l = option_map (λ more. l.items.items ++ more) (items_of (map (λ w. w.now) (drop l.word-index l.words))) ≡ items_of (map (λ w. w.now) l.fn.words)
