use Rattle.std.proofs.Common.{◌≡◌, length}
use Rattle.craq_names.specs.Places.{filled}
use Rattle.craq_versions.specs.Tables.{shown}
use Rattle.craq_versions.proofs.iterators.ObjectsIterator.next.Given as goal

-- no visited list has versions
abbrev pub invariant-loop-key : goal.invariant-loop-key
invariant-loop-key g l = filled shown l.self-inside.lists ≡ filled shown l.initial.self-inside.lists

abbrev pub decreases-loop-key : goal.decreases-loop-key
decreases-loop-key g l = length l.self-inside.lists
