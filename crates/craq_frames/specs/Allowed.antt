-- Replies that a request handler may give.
use Rattle.std.specs.Prelude.{◌≤◌, ◌+◌, ⊤, ℕ, length}
use Rattle.craq_frames.specs.declared.answer.ClientReply.{ClientReply}
use Rattle.craq_frames.specs.declared.answer.ClientReply.TheVariants as answers
use Rattle.craq_frames.specs.Payload.{IsAnswer}

-- the most bytes of a reply's payload
abbrev pub reply_limit : ℕ
reply_limit = 100000

-- the text of a status goes into such a payload, after its version, its kind and its length; each other reply does
abbrev pub IsShort : ClientReply → Type 0
IsShort (answers.Update pass r) = ⊤
IsShort (answers.Read pass version v) = ⊤
IsShort (answers.Refused r) = ⊤
IsShort (answers.Status t) = length t + 6 ≤ reply_limit

-- the reply can be encoded, in a payload of at most 100,000 bytes
pub record IsAllowed (r : ClientReply) : Type 0 where
  pub rules : IsAnswer r
  pub short : IsShort r
