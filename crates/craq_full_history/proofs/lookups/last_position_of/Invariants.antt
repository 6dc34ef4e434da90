use Rattle.std.proofs.Common.{◌≡◌, drop}
use Rattle.craq_model.specs.Past.{last_position}
use Rattle.craq_full_history.proofs.lookups.last_position_of.Given as goal

-- a scan of the rest from the position found so far gives the result
abbrev pub invariant-loop-entry : goal.invariant-loop-entry
invariant-loop-entry l = last_position l.client l.position (drop l.entry-index l.entries) ≡ last_position l.client l.base l.entries
