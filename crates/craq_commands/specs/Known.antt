-- The status of a client's request number. It separates a number whose kept reply is itself `Stale`
-- from a number below a full window.
use Rattle.std.specs.Prelude.{ℕ, if◌then◌else◌, Option, Some, None}
use Rattle.craq_names.specs.Maps.{at_number}
use Rattle.craq_commands.specs.declared.reply.Reply.{Reply}
use Rattle.craq_commands.specs.declared.window.RequestStatus.{RequestStatus}
use Rattle.craq_commands.specs.declared.window.RequestStatus.TheVariants as said
use Rattle.craq_commands.specs.Kept.{Window, is_stale, largest}

-- the number is new; kept with this reply; or below all of a full window, whose largest is given
pub data Known : Type 0 where
  New : Known
  Kept : (reply : Reply) → Known
  Stale : (last : ℕ) → Known

abbrev pub kept_or_new : Option Reply → Known
kept_or_new None = New
kept_or_new (Some reply) = Kept reply

-- a number's status in a window
abbrev pub known_of : Window → ℕ → Known
known_of w number = if is_stale w number then Stale (largest w) else kept_or_new (at_number w number)

-- the result, with the borrowed reply copied
abbrev pub known_by : RequestStatus → Known
known_by said.New = New
known_by (said.Kept reply) = Kept reply.now
known_by (said.Stale last) = Stale last
