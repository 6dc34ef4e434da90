use Rattle.std.proofs.Common.{◌≡◌, ◌++◌}
use Rattle.craq_names.specs.Places.{filled}
use Rattle.craq_replies.specs.Replies.{shown}
use Rattle.craq_replies.proofs.places.copies.Given as goal

-- the copies and the replies of the remaining slots are all kept replies
abbrev pub invariant-loop-client : goal.invariant-loop-client
invariant-loop-client l = l.kept.items ++ filled shown l.client-iterator ≡ filled shown l.places.entries
