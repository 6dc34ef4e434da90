use Rattle.std.specs.Prelude.{⊤, length}
use Rattle.craq_running_chain.proofs.shared.Shared.post.Given as goal

abbrev pub invariant-loop-outgoing : goal.invariant-loop-outgoing
invariant-loop-outgoing g l = ⊤

-- one message is left less
abbrev pub decreases-loop-outgoing : goal.decreases-loop-outgoing
decreases-loop-outgoing g l = length l.messages.sent
