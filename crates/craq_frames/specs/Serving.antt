-- The bytes that a server reads and writes: frames of payloads in, and a frame of a reply out for each of them.
use Rattle.std.specs.Prelude.{◌≡◌, ◌+◌, ◌-◌, ◌^◌, ◌≤◌, ◌<◌, ◌⊎◌, ℕ, Bool, true, false, List, [], ◌∷◌, ◌++◌, length, Result, Ok, Err}
use Rattle.std.specs.List.{flat_map, AllByRecursion}
use Rattle.craq_names.specs.declared.refusal.Refusal.{Refusal}
use Rattle.craq_names.specs.declared.refusal.Refusal.TheVariants as refusals
use Rattle.craq_frames.specs.declared.ask.ClientMessage.{ClientMessage}
use Rattle.craq_frames.specs.declared.answer.ClientReply.{ClientReply}
use Rattle.craq_frames.specs.declared.answer.ClientReply.TheVariants as answers
use Rattle.craq_frames.specs.declared.versions.PayloadVersion.{PayloadVersion}
use Rattle.craq_frames.specs.declared.versions.PayloadVersion.TheVariants.{First}
use Rattle.craq_frames.specs.declared.versions.Payload.{Payload}
use Rattle.craq_frames.specs.declared.versions.Payload.TheVariants as payloads
use Rattle.craq_frames.specs.declared.versions.Answered.{Answered}
use Rattle.craq_frames.specs.declared.versions.Answered.TheVariants as replies
use Rattle.craq_frames.specs.Frame.{frame, payload_limit, BeginsTooLong, IsPartial}
use Rattle.craq_frames.specs.Versions.{EncodesPayload, EncodesAnswered}

-- relation of a request handler's states: the old one, a message, the reply, and the new state
abbrev pub Turn : Type 0 → Type 1
Turn D = D → ClientMessage → ClientReply → D → Type 0

-- a turn for each message, in order
abbrev pub Turns : {D : Type 0} → Turn D → D → List ClientMessage → List ClientReply → D → Type 0
Turns turn old [] [] new = new ≡ old
Turns {D} turn old (m ∷ ms) (r ∷ rs) new = (mid : D) × turn old m r mid × Turns turn mid ms rs new
Turns turn old _ _ new = ⊥

-- a refusal, as a reply of version 1
abbrev pub refused : Refusal → Answered
refused r = replies.One First (answers.Refused r)

-- the reply to a payload: to one message the handler's, in the payload's version; to several messages the handler's to each, in
-- order; to a payload that encodes nothing the refusal BadFrame, and the handler is not asked
pub data Replies {D : Type 0} (turn : Turn D) (old : D) (payload reply : List ℕ) (new : D) : Type 0 where
  one : (version : PayloadVersion) (m : ClientMessage) (r : ClientReply)
      → EncodesPayload (payloads.One version m) payload → turn old m r new → EncodesAnswered (replies.One version r) reply → Replies turn old payload reply new
  many : (ms : List ClientMessage) (rs : List ClientReply)
      → EncodesPayload (payloads.Many ms) payload → Turns turn old ms rs new → EncodesAnswered (replies.Many rs) reply → Replies turn old payload reply new
  nothing : ((p : Payload) → EncodesPayload p payload → ⊥) → new ≡ old → EncodesAnswered (refused refusals.BadFrame) reply → Replies turn old payload reply new

-- a reply to each payload, in order
abbrev pub RepliesEach : {D : Type 0} → Turn D → D → List (List ℕ) → List (List ℕ) → D → Type 0
RepliesEach turn old [] [] new = new ≡ old
RepliesEach {D} turn old (p ∷ ps) (r ∷ rs) new = (mid : D) × Replies turn old p r mid × RepliesEach turn mid ps rs new
RepliesEach turn old _ _ new = ⊥

-- the bytes `read` are n frames and what follows them, and the bytes `written` are the frames of the replies to these n
pub record Served {D : Type 0} (turn : Turn D) (old : D) (read rest written : List ℕ) (n : ℕ) (new : D) : Type 0 where
  pub payloads : List (List ℕ)
  pub answers : List (List ℕ)
  pub frames : read ≡ flat_map frame payloads ++ rest
  pub within : AllByRecursion (λ p. length p ≤ payload_limit) payloads
  pub replies : written ≡ flat_map frame answers
  pub count : n ≡ length payloads
  pub each : RepliesEach turn old payloads answers new

-- the messages of a payload
abbrev pub messages : Payload → List ClientMessage
messages (payloads.One version m) = m ∷ []
messages (payloads.Many ms) = ms

-- the replies of a payload
abbrev pub reported : Answered → List ClientReply
reported (replies.One version r) = r ∷ []
reported (replies.Many rs) = rs

-- the request handler was asked nothing, or some first messages of the payload, whose replies are not written
pub data Begins {D : Type 0} (turn : Turn D) (old : D) (payload : List ℕ) (new : D) : Type 0 where
  unasked : new ≡ old → Begins turn old payload new
  asked : (p : Payload) (ms more : List ClientMessage) (rs : List ClientReply)
      → EncodesPayload p payload → messages p ≡ ms ++ more → Turns turn old ms rs new → Begins turn old payload new

-- the messages at the front of the payload in the first frame of `rest` were asked, or none was
pub data BeginsNext {D : Type 0} (turn : Turn D) (old : D) (rest : List ℕ) (new : D) : Type 0 where
  idle : new ≡ old → BeginsNext turn old rest new
  begun : (payload after : List ℕ) → rest ≡ frame payload ++ after → Begins turn old payload new → BeginsNext turn old rest new

-- a length above the limit stands at the front of the rest, and the last frame is the refusal FrameTooLong
pub record RefusesLength (rest last : List ℕ) : Type 0 where
  pub long : BeginsTooLong rest
  pub reply : List ℕ
  pub spelled : EncodesAnswered (refused refusals.FrameTooLong) reply
  pub framed : last ≡ frame reply

-- the stream that counted a failed call
pub data StreamFault : Type 0 where
  neither : StreamFault
  reader : StreamFault
  writer : StreamFault

abbrev pub read_faults : StreamFault → ℕ
read_faults neither = 0
read_faults reader = 1
read_faults writer = 0

abbrev pub write_faults : StreamFault → ℕ
write_faults neither = 0
write_faults reader = 0
write_faults writer = 1

-- n frames and the bytes that were read are 2^64 - 1 together, or more
abbrev pub IsUsedUp : ℕ → List ℕ → Type 0
IsUsedUp n read = 2 ^ 64 - 1 ≤ n + length read

-- the bytes that were read and written when `serve` answers so
abbrev pub Conversation : {D : Type 0} → Turn D → D → List ℕ → List ℕ → D → StreamFault → Result ℕ Refusal → Type 0
-- all frames that were read are answered, and no byte is left
Conversation turn old read written new neither (Ok n) = Served turn old read [] written n new
-- less than a frame is left
Conversation turn old read written new neither (Err refusals.Closed) =
    (rest : List ℕ) × (n : ℕ) × Served turn old read rest written n new × IsPartial rest × (0 < length rest)
-- a length above the limit is left, and its refusal is the last frame written
Conversation turn old read written new neither (Err refusals.FrameTooLong) =
    (rest : List ℕ) × (n : ℕ) × (replied : List ℕ) × (last : List ℕ) × Served turn old read rest replied n new × RefusesLength rest last × (written ≡ replied ++ last)
-- the frames up to some place are answered, and the handler was asked at most a prefix of the next
Conversation {D} turn old read written new neither (Err refusals.Memory) =
    (rest : List ℕ) × (n : ℕ) × (mid : D) × Served turn old read rest written n mid × BeginsNext turn mid rest new
Conversation turn old read written new neither (Err refusals.Exhausted) =
    (rest : List ℕ) × (n : ℕ) × Served turn old read rest written n new × IsUsedUp n read
-- less than a frame is left where a read failed
Conversation turn old read written new reader (Err refusals.Io) =
    (rest : List ℕ) × (n : ℕ) × Served turn old read rest written n new × IsPartial rest
-- a prefix of the replies is written where a write failed
Conversation {D} turn old read written new writer (Err refusals.Io) =
    (rest : List ℕ) × (n : ℕ) × (mid : D) × (replied : List ℕ) × (last : List ℕ) × (more : List ℕ)
    × Served turn old read rest replied n mid × BeginsNext turn mid rest new × ((last ≡ []) ⊎ RefusesLength rest last) × (written ++ more ≡ replied ++ last)
Conversation turn old read written new fault result = ⊥

-- ---- the parts of serving, on bytes that wait to be cut into frames and bytes that wait to be written

-- the outcome of the next frame of the bytes `input`: `rest` is left of them, and the bytes `unsent` are to be written
abbrev pub Next : {D : Type 0} → Turn D → D → List ℕ → List ℕ → List ℕ → D → Result Bool Refusal → Type 0
Next turn old input rest unsent new (Ok true) = Served turn old input rest unsent 1 new
Next turn old input rest unsent new (Ok false) = IsPartial input × (rest ≡ input) × (unsent ≡ []) × (new ≡ old)
Next turn old input rest unsent new (Err refusals.FrameTooLong) = RefusesLength input unsent × (new ≡ old)
Next turn old input rest unsent new (Err refusals.Memory) = BeginsNext turn old input new × (unsent ≡ [])
Next turn old input rest unsent new result = ⊥

-- the outcome of the next n frames; true where less than a frame is left
abbrev pub Batch : {D : Type 0} → Turn D → D → List ℕ → List ℕ → List ℕ → ℕ → D → Result Bool Refusal → Type 0
Batch turn old input rest unsent n new (Ok true) = Served turn old input rest unsent n new × IsPartial rest
Batch turn old input rest unsent n new (Ok false) = Served turn old input rest unsent n new
Batch turn old input rest unsent n new (Err refusals.FrameTooLong) =
    (left : List ℕ) × (replied : List ℕ) × (last : List ℕ) × Served turn old input left replied n new × RefusesLength left last × (unsent ≡ replied ++ last)
Batch {D} turn old input rest unsent n new (Err refusals.Memory) =
    (left : List ℕ) × (mid : D) × Served turn old input left unsent n mid × BeginsNext turn mid left new
Batch turn old input rest unsent n new (Err refusals.Exhausted) = (left : List ℕ) × Served turn old input left unsent n new
Batch turn old input rest unsent n new result = ⊥
