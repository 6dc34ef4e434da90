-- Replies to clients as their type holds them: each number fits its width, each value has a length
-- that its type allows, texts are UTF-8, and lists and texts have any length.
use Rattle.std.specs.Prelude.{◌<◌, ◌^◌}
use Rattle.std.specs.Str.{IsUtf8}
use Rattle.craq_wire.specs.PartEncoding.{IsValue}
use Rattle.craq_wire.specs.TypedEntries.{IsTypedReply}
use Rattle.craq_frames.specs.Payload.{RefusalFits}
use Rattle.craq_frames.specs.declared.answer.ClientReply.{ClientReply}
use Rattle.craq_frames.specs.declared.answer.ClientReply.TheVariants as answers

-- the reply is a value of its type
abbrev pub IsTypedAnswer : ClientReply → Type 0
IsTypedAnswer (answers.Update pass r) = (pass < 2 ^ 64) × IsTypedReply r
IsTypedAnswer (answers.Read pass version v) = (pass < 2 ^ 64) × (version < 2 ^ 64) × IsValue v
IsTypedAnswer (answers.Refused r) = RefusalFits r
IsTypedAnswer (answers.Status t) = IsUtf8 t
