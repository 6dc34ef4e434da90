use Rattle.std.proofs.Common.{◌≡◌, ◌+◌, map, drop}
use Rattle.craq_script.specs.Texts.{lines_from}
use Rattle.craq_script.proofs.Texts.{behind}
use Rattle.craq_script.proofs.text.lines_of.Given as goal

-- the lines so far, followed by those of the remaining texts, are all lines
abbrev pub invariant-loop-index : goal.invariant-loop-index
invariant-loop-index l =
    behind l.lines.items (lines_from (l.index + 1) (map (λ x. x.now) (drop l.index l.texts))) ≡ lines_from 1 (map (λ x. x.now) l.fn.texts)
