use Rattle.std.proofs.Common.{◌≡◌, [], drop}
use Rattle.craq_model.specs.Past.{values_in}
use Rattle.craq_compact_state.proofs.lookups.last_written.Given as goal

-- the visited writes give the object no version
abbrev pub invariant-loop-index : goal.invariant-loop-index
invariant-loop-index l = values_in (drop l.index l.writes) l.key ≡ []
