-- The replies that a protocol codec encodes answer the messages that came.
use Rattle.std.specs.Prelude.{◌≡◌, ◌≤◌, ℕ, List, [], ◌∷◌, ◌++◌, length, Option, None, Some}
use Rattle.craq_frames.specs.declared.ask.ClientMessage.{ClientMessage}
use Rattle.craq_frames.specs.declared.answer.ClientReply.{ClientReply}
use Rattle.craq_frames.specs.declared.versions.Payload.{Payload}
use Rattle.craq_frames.specs.Frame.{frame, payload_limit}
use Rattle.craq_frames.specs.Versions.{EncodesPayload}
use Rattle.craq_frames.specs.declared.protocol_codec.Asking.{Asking}
use Rattle.craq_frames.specs.Serving.{Turn, Turns, Served, messages}
use Rattle.craq_frames.specs.Steps.{waiting, replied, ahead, IsForm}

-- the turns of a protocol codec: each message that was asked, with its reply, in order
abbrev pub Exchanges : Type 0
Exchanges = List (ClientMessage × ClientReply)

-- one turn more
abbrev pub next_turn : Turn Exchanges
next_turn old m r new = new ≡ old ++ (m, r) ∷ []

-- the messages of the payload before m have their replies, m is asked, and those behind it in `later` were asked ahead
pub record UnderWay {D : Type 0} (turn : Turn D) (old : D) (payload : List ℕ) (asking : Option Asking) (m : ClientMessage) (later : List ClientMessage) (new : D) : Type 0 where
  pub p : Payload
  pub spelled : EncodesPayload p payload
  pub form : IsForm asking p
  pub before : List ClientMessage
  pub rest : messages p ≡ before ++ m ∷ (later ++ waiting asking)
  pub asked : length later ≡ ahead asking
  pub turns : Turns turn old before (replied asking) new

-- the bytes `read` came, and `input` of them are not yet cut off as frames; `made` are the bytes of the replies; of the payload under
-- way the message m is asked, and those in `later` were asked ahead, or no payload is under way; and these were the turns
pub data Stands (read made input : List ℕ) (asking : Option Asking) (m : Option ClientMessage) (later : List ClientMessage) (turns : Exchanges) : Type 0 where
  between : (n : ℕ) → Served next_turn [] read input made n turns → m ≡ None → later ≡ [] → Stands read made input asking m later turns
  within : (n : ℕ) (payload : List ℕ) (earlier : Exchanges) (now : ClientMessage) → length payload ≤ payload_limit
      → Served next_turn [] read (frame payload ++ input) made n earlier → UnderWay next_turn earlier payload asking now later turns → m ≡ Some now → Stands read made input asking m later turns

-- the first message under way after a reply: the one that is asked then, or the first of those that were asked ahead, if there is one
abbrev pub first_now : Option ClientMessage → List ClientMessage → Option ClientMessage
first_now (Some n) later = Some n
first_now None [] = None
first_now None (n ∷ later) = Some n

-- the messages behind it that were asked ahead
abbrev pub later_now : Option ClientMessage → List ClientMessage → List ClientMessage
later_now (Some n) later = []
later_now None [] = []
later_now None (n ∷ later) = later
