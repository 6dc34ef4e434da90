use Rattle.std.proofs.Common.{ℕ, ◌<◌, take}
use Rattle.std.specs.List.{AllByRecursion}
use Rattle.craq_commands.specs.declared.reply.Reply.{Reply}
use Rattle.craq_replies.proofs.held.are_before.Given as goal

-- each visited reply is to a smaller number
abbrev pub invariant-loop-kept : goal.invariant-loop-kept
invariant-loop-kept l = AllByRecursion (λ (k : ℕ × Reply). k.0 < l.number) (take l.kept-index l.replies)
