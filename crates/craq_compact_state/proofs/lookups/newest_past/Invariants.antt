use Rattle.std.proofs.Common.{◌≡◌, [], drop}
use Rattle.craq_model.specs.Past.{values_after}
use Rattle.craq_compact_state.proofs.lookups.newest_past.Given as goal

-- the visited entries give the object no version
abbrev pub invariant-loop-index : goal.invariant-loop-index
invariant-loop-index l = values_after (drop l.index l.entries) l.key ≡ []
