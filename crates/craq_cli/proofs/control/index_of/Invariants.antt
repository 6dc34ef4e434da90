use Rattle.std.proofs.Common.{◌≡◌, map, drop}
use Rattle.craq_cli.specs.ControlNode.{index_from}
use Rattle.craq_cli.proofs.control.index_of.Given as goal

-- the first of the names that are left is the first of all
abbrev pub invariant-loop-index : goal.invariant-loop-index
invariant-loop-index l =
    index_from l.index l.word (map (λ n. n.now) (drop l.index l.names)) ≡ index_from 0 l.word (map (λ n. n.now) l.names)
