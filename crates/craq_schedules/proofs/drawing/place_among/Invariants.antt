use Rattle.std.proofs.Common.{◌≡◌, ◌++◌, take, drop}
use Rattle.craq_schedules.specs.Drawn.{with_id}
use Rattle.craq_schedules.proofs.drawing.place_among.Given as goal

-- the id goes after those that were passed
abbrev pub invariant-loop-place : goal.invariant-loop-place
invariant-loop-place l = take l.place l.ids ++ with_id l.id (drop l.place l.ids) ≡ with_id l.id l.ids
