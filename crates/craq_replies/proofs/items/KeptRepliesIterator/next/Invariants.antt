use Rattle.std.proofs.Common.{◌≡◌, length}
use Rattle.craq_names.specs.Places.{filled}
use Rattle.craq_replies.specs.Replies.{shown}
use Rattle.craq_replies.proofs.items.KeptRepliesIterator.next.Given as goal

-- no visited slot has replies
abbrev pub invariant-loop-client : goal.invariant-loop-client
invariant-loop-client l = filled shown l.self-inside.places ≡ filled shown l.initial.self-inside.places

abbrev pub decreases-loop-client : goal.decreases-loop-client
decreases-loop-client l = length l.self-inside.places
