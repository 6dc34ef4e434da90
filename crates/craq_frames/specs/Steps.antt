-- Steps of a protocol codec: the next message, and the outcome of a reply.
use Rattle.std.specs.Prelude.{◌≡◌, ◌≤◌, ◌+◌, ◌⊎◌, ℕ, List, [], ◌∷◌, ◌++◌, length, Option, None, Some, Result, Ok, Err}
use Rattle.std.specs.List.{AllByRecursion}
use Rattle.craq_names.specs.declared.refusal.Refusal.{Refusal}
use Rattle.craq_names.specs.declared.refusal.Refusal.TheVariants as refusals
use Rattle.craq_frames.specs.declared.ask.ClientMessage.{ClientMessage}
use Rattle.craq_frames.specs.declared.answer.ClientReply.{ClientReply}
use Rattle.craq_frames.specs.declared.versions.Payload.{Payload}
use Rattle.craq_frames.specs.declared.versions.Payload.TheVariants as payloads
use Rattle.craq_frames.specs.declared.versions.Answered.{Answered}
use Rattle.craq_frames.specs.declared.versions.Answered.TheVariants as replies
use Rattle.craq_frames.specs.Frame.{frame, payload_limit, IsPartial}
use Rattle.craq_frames.specs.Versions.{many_limit, EncodesPayload, EncodesAnswered}
use Rattle.craq_frames.specs.declared.several.Replied.{Replied}
use Rattle.craq_frames.specs.declared.several.Replied.TheVariants as after
use Rattle.craq_frames.specs.declared.protocol_codec.Asking.{Asking}
use Rattle.craq_frames.specs.declared.protocol_codec.Asking.TheVariants.{One, Many}
use Rattle.craq_frames.specs.declared.protocol_codec.CodecEvent.{CodecEvent}
use Rattle.craq_frames.specs.declared.protocol_codec.CodecEvent.TheVariants.{Ask, Refused, Nothing}
use Rattle.craq_frames.specs.Allowed.{IsAllowed}
use Rattle.craq_frames.specs.Serving.{messages, refused, RefusesLength}

-- the messages that are not asked yet
abbrev pub waiting : Option Asking → List ClientMessage
waiting (Some (Many several)) = several.0
waiting _ = []

-- the replies to the messages before it
abbrev pub replied : Option Asking → List ClientReply
replied (Some (Many several)) = several.1
replied _ = []

-- the number of messages that were asked ahead: before the reply to the one before them
abbrev pub ahead : Option Asking → ℕ
ahead (Some (Many several)) = several.2
ahead _ = 0

-- the payload is of this form
abbrev pub IsForm : Option Asking → Payload → Type 0
IsForm None p = ⊥
IsForm (Some (One version)) p = (m : ClientMessage) × (p ≡ payloads.One version m)
IsForm (Some (Many several)) p = (ms : List ClientMessage) × (p ≡ payloads.Many ms)

-- the payload's first message is asked, and no other
pub record IsFirst (asking : Option Asking) (m : ClientMessage) (payload : List ℕ) : Type 0 where
  pub p : Payload
  pub spelled : EncodesPayload p payload
  pub form : IsForm asking p
  pub first : messages p ≡ m ∷ waiting asking
  pub none : replied asking ≡ []
  pub alone : ahead asking ≡ 0

-- the next step: `rest` is left of the bytes `input`, and the bytes `unsent` are to be written
abbrev pub Advances : List ℕ → List ℕ → List ℕ → Option Asking → Result CodecEvent Refusal → Type 0
-- the first message of the payload in front is asked
Advances input rest unsent asking (Ok (Ask m)) =
    (payload : List ℕ) × (input ≡ frame payload ++ rest) × (length payload ≤ payload_limit) × (unsent ≡ []) × IsFirst asking m payload
-- the payload in front encodes nothing, and its refusal is unsent
Advances input rest unsent asking (Ok Refused) =
    (payload : List ℕ) × (reply : List ℕ) × (input ≡ frame payload ++ rest) × (length payload ≤ payload_limit) × (unsent ≡ frame reply) × (asking ≡ None)
    × ((p : Payload) → EncodesPayload p payload → ⊥) × EncodesAnswered (refused refusals.BadFrame) reply
Advances input rest unsent asking (Ok Nothing) = IsPartial input × (rest ≡ input) × (unsent ≡ []) × (asking ≡ None)
Advances input rest unsent asking (Err refusals.FrameTooLong) = RefusesLength input unsent
Advances input rest unsent asking (Err refusals.Memory) = unsent ≡ []
Advances input rest unsent asking (Err _) = ⊥

-- the outcome of bytes that came, after which `input` is all that is there: the first message of the payload in front is asked, and
-- `rest` is left behind that payload; or no message is asked, and all of it is left
abbrev pub Receives : List ℕ → List ℕ → Option Asking → Option ClientMessage → Type 0
Receives input rest asking (Some m) = Advances input rest [] asking (Ok (Ask m))
Receives input rest asking None = (rest ≡ input) × (asking ≡ None)

-- all replies of the payload, with the reply to the message that is asked
abbrev pub all_replies : Asking → ClientReply → Answered
all_replies (One version) r = replies.One version r
all_replies (Many several) r = replies.Many (several.1 ++ r ∷ [])

-- the reply to the last message: the frame of all replies is unsent
abbrev pub IsLast : Asking → ClientReply → List ℕ → Option Asking → Type 0
IsLast asking r unsent new =
    (reply : List ℕ) × (waiting (Some asking) ≡ []) × (unsent ≡ frame reply) × EncodesAnswered (all_replies asking r) reply × (new ≡ None) × (ahead (Some asking) ≡ 0)

-- the reply to a message before one that was asked ahead
abbrev pub WasAhead : Asking → ClientReply → List ℕ → Option Asking → Type 0
WasAhead asking r unsent new =
    (waiting new ≡ waiting (Some asking)) × (replied new ≡ replied (Some asking) ++ r ∷ []) × ((p : Payload) → IsForm (Some asking) p → IsForm new p) × (unsent ≡ [])
    × (ahead (Some asking) ≡ ahead new + 1)

-- the first message that waits in a payload of several is taken, to be asked ahead
abbrev pub IsTakenAhead : Option Asking → Option Asking → ClientMessage → Type 0
IsTakenAhead old new m =
    (ws : List ClientMessage) × (rs : List ClientReply) × (k : ℕ) × (old ≡ Some (Many (m ∷ ws, rs, k))) × (new ≡ Some (Many (ws, rs, k + 1)))

-- so it is, or none is
abbrev pub TakesAhead : Option Asking → Option Asking → Option ClientMessage → Type 0
TakesAhead old new (Some m) = IsTakenAhead old new m
TakesAhead old new None = new ≡ old

-- the outcome of a reply: the bytes `unsent` are to be written
abbrev pub Follows : Option Asking → ClientReply → List ℕ → Option Asking → Result (Option ClientMessage) Refusal → Type 0
-- the next message of the payload is asked
Follows (Some asking) r unsent new (Ok (Some m)) =
    (waiting (Some asking) ≡ m ∷ waiting new) × (replied new ≡ replied (Some asking) ++ r ∷ []) × ((p : Payload) → IsForm (Some asking) p → IsForm new p) × (unsent ≡ [])
    × (ahead (Some asking) ≡ 0) × (ahead new ≡ 0)
-- it was the last, and the frame of all replies is unsent; or the next was asked ahead
Follows (Some asking) r unsent new (Ok None) = IsLast asking r unsent new ⊎ WasAhead asking r unsent new
Follows None r unsent new (Ok found) = (found ≡ None) × (unsent ≡ []) × (new ≡ None)
Follows asking r unsent new (Err refusals.Memory) = (unsent ≡ []) × (ahead asking ≡ 0) × (new ≡ None)
Follows asking r unsent new (Err _) = ⊥

-- the outcome of a reply among several messages: those that wait, the replies to those before, and the number of those asked ahead
abbrev pub AfterReply : List ClientMessage × List ClientReply × ℕ → ClientReply → Replied → Type 0
AfterReply s r (after.Asks m several) = (s.2 ≡ 0) × (s.0 ≡ m ∷ several.0) × (several.1 ≡ s.1 ++ r ∷ []) × (several.2 ≡ 0)
AfterReply s r (after.Asked several) = (s.2 ≡ several.2 + 1) × (several.0 ≡ s.0) × (several.1 ≡ s.1 ++ r ∷ [])
AfterReply s r (after.All all) = (s.2 ≡ 0) × (s.0 ≡ []) × (all ≡ s.1 ++ r ∷ []) × (length all ≤ many_limit) × AllByRecursion IsAllowed all
