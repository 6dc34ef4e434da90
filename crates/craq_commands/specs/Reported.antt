-- The single copy's reply to a client's request number.
use Rattle.std.specs.Prelude.{Option, Some, None}
use Rattle.craq_commands.specs.declared.reply.Reply.{Reply}
use Rattle.craq_commands.specs.declared.reply.Reply.TheVariants as replies
use Rattle.craq_commands.specs.declared.window.RequestStatus.{RequestStatus}
use Rattle.craq_commands.specs.declared.window.RequestStatus.TheVariants.{New, Kept, Stale}

-- the reply to return, if there is one
abbrev pub given_reply : RequestStatus → Option Reply
given_reply New = None
given_reply (Kept reply) = Some reply.now
given_reply (Stale last) = Some (replies.Stale last)
