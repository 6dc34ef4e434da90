use Rattle.std.proofs.Common.{◌≡◌, drop}
use Rattle.craq_commands.specs.SingleCopy.{after_entries}
use Rattle.craq_full_history.proofs.states.state_after.Given as goal

-- the rest, applied to the state so far, gives the result
abbrev pub invariant-loop-entry : goal.invariant-loop-entry
invariant-loop-entry l = after_entries (record { objects = l.objects.items; kept = l.kept.items }) (drop l.entry-index l.entries) ≡ after_entries l.state l.entries
