use Rattle.std.proofs.Common.{◌≡◌, ◌==◌, ◌++◌, not, length, map, drop}
use Rattle.std.specs.List.{filter}
use Rattle.craq_script.proofs.text.words_among.Given as goal

-- the words so far, followed by those of the remaining parts, are all words
abbrev pub invariant-loop-part : goal.invariant-loop-part
invariant-loop-part l =
    map (λ x. x.now) l.words.items ++ filter (λ word. not (length word == 0)) (map (λ x. x.now) (drop l.part-index l.parts))
    ≡ filter (λ word. not (length word == 0)) (map (λ x. x.now) l.fn.parts)
