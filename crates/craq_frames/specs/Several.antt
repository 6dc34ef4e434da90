-- Progress within a payload of several messages.
use Rattle.std.specs.Prelude.{◌≡◌, ◌≤◌, ◌<◌, ◌+◌, ◌⊎◌, ℕ, List, Vec, length, vec_capacity, vec_len}
use Rattle.std.specs.List.{AllByRecursion}
use Rattle.std.specs.declared.alloc.Global.{Global}
use Rattle.craq_frames.specs.declared.ask.ClientMessage.{ClientMessage}
use Rattle.craq_frames.specs.declared.answer.ClientReply.{ClientReply}
use Rattle.craq_frames.specs.Versions.{many_limit}
use Rattle.craq_frames.specs.Allowed.{IsAllowed}

-- one message is asked and has no reply yet, `behind` messages come after it, and those before it have these replies: 8 at most, all of
-- them replies that a request handler may give
pub record AreAnswered (behind : ℕ) (replies : List ClientReply) : Type 0 where
  pub few : behind + 1 + length replies ≤ many_limit
  pub allowed : AllByRecursion IsAllowed replies

-- where messages were asked ahead there is room for the reply to each, and for the one before them
abbrev pub HasRoom : ℕ → Vec ClientReply Global → Type 0
HasRoom ahead replies = (ahead ≡ 0) ⊎ (vec_len replies + ahead < vec_capacity replies)

-- the places of the messages that were asked ahead are kept
abbrev pub KeepsPlaces : ℕ → Vec ClientMessage Global → Type 0
KeepsPlaces ahead waiting = vec_len waiting + ahead ≤ vec_capacity waiting
