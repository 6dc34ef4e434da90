use Rattle.std.proofs.Common.{◌≡◌, ◌≤◌, ◌+◌, ◌-◌, ◌^◌, drop, min}
use Rattle.craq_compact_history.specs.Counted.{new_objects}
use Rattle.craq_compact_history.proofs.history.count_new.Given as goal

-- the count so far and that of the entries that are left is that of all
abbrev pub invariant-loop-entry : goal.invariant-loop-entry
invariant-loop-entry l = (l.count ≤ 2 ^ 64 - 1) × (min (l.count + new_objects (drop l.entry-index l.entries)) (2 ^ 64 - 1) ≡ min (new_objects l.entries) (2 ^ 64 - 1))
