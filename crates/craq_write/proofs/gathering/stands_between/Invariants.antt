use Rattle.std.proofs.Common.{◌≡◌, drop}
use Rattle.std.specs.List.{list_all}
use Rattle.craq_write.specs.Gathered.{is_beside}
use Rattle.craq_write.proofs.gathering.stands_between.Given as goal

-- each visited part is on its side
abbrev pub invariant-loop-number : goal.invariant-loop-number
invariant-loop-number l = list_all (is_beside l.part) (drop l.number-index l.parts) ≡ list_all (is_beside l.part) l.parts
