-- The bytes that a client sends and receives for one message.
use Rattle.std.specs.Prelude.{◌≡◌, ◌⊎◌, ℕ, List, [], ◌++◌, Result, Ok, Err}
use Rattle.craq_names.specs.declared.refusal.Refusal.{Refusal}
use Rattle.craq_names.specs.declared.refusal.Refusal.TheVariants as refusals
use Rattle.craq_frames.specs.declared.ask.ClientMessage.{ClientMessage}
use Rattle.craq_frames.specs.declared.answer.ClientReply.{ClientReply}
use Rattle.craq_frames.specs.Frame.{frame, BeginsTooLong, IsPartial}
use Rattle.craq_frames.specs.Payload.{EncodesAsk, EncodesAnswer}

-- the bytes are the frame of the message, of version 1
abbrev pub IsFrameOf : ClientMessage → List ℕ → Type 0
IsFrameOf m bytes = (payload : List ℕ) × EncodesAsk m payload × (bytes ≡ frame payload)

-- the bytes that were sent and then received when `exchange` answers so, and the number of calls that failed
abbrev pub Exchanged : ClientMessage → List ℕ → List ℕ → ℕ → Result ClientReply Refusal → Type 0
-- the frame of the reply came
Exchanged m sent received faults (Ok r) =
    IsFrameOf m sent × (faults ≡ 0) × ((payload : List ℕ) × (rest : List ℕ) × (received ≡ frame payload ++ rest) × EncodesAnswer r payload)
-- a frame came that is no reply's
Exchanged m sent received faults (Err refusals.BadFrame) =
    IsFrameOf m sent × (faults ≡ 0) × ((payload : List ℕ) × (rest : List ℕ) × (received ≡ frame payload ++ rest) × ((r : ClientReply) → EncodesAnswer r payload → ⊥))
-- a length above the limit came
Exchanged m sent received faults (Err refusals.FrameTooLong) = IsFrameOf m sent × (faults ≡ 0) × BeginsTooLong received
-- less than a frame came, and then the end
Exchanged m sent received faults (Err refusals.Closed) = IsFrameOf m sent × (faults ≡ 0) × IsPartial received
-- a write failed, and a prefix of the frame is sent; or a read failed, and less than a frame came
Exchanged m sent received faults (Err refusals.Io) =
    (faults ≡ 1) × (((more : List ℕ) × IsFrameOf m (sent ++ more) × (received ≡ [])) ⊎ (IsFrameOf m sent × IsPartial received))
-- nothing is sent, or the whole frame
Exchanged m sent received faults (Err refusals.Memory) = (faults ≡ 0) × ((sent ≡ []) ⊎ IsFrameOf m sent)
Exchanged m sent received faults result = ⊥
