use Rattle.std.proofs.Common.{◌≡◌, ◌++◌}
use Rattle.craq_names.specs.Places.{filled}
use Rattle.craq_compact_state.specs.Placed.{shown}
use Rattle.craq_compact_state.proofs.objects.copy_settled.Given as goal

-- the copies and the settled objects that remain are all settled objects
abbrev pub invariant-loop-key : goal.invariant-loop-key
invariant-loop-key l = l.copies.items ++ filled shown l.key-iterator ≡ filled shown l.fn.objects
