use Rattle.std.proofs.Common.{◌≡◌, List, take}
use Rattle.std.specs.List.{AllZip}
use Rattle.craq_model.specs.Plain.{Plain}
use Rattle.craq_schedules.specs.Drawn.{running_ids}
use Rattle.craq_schedules.proofs.drawing.running_of.Given as goal

abbrev pub invariant-loop-core : goal.invariant-loop-core
invariant-loop-core g l = (ps : List Plain) → AllZip g.C.Core.represents l.cores ps → l.ids.items ≡ running_ids (take l.core-index ps)
