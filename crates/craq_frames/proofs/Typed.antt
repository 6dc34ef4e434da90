-- Requests and replies that keep their rules and are values of their types have an encoding.
use Rattle.std.proofs.Common.{ℕ, List, refl}
use Rattle.std.specs.Prelude.{◌↔◌}
use Rattle.craq_wire.proofs.TypedEntries.{reply_fits}
use Rattle.craq_frames.specs.declared.ask.ClientMessage.{ClientMessage}
use Rattle.craq_frames.specs.declared.answer.ClientReply.{ClientReply}
use Rattle.craq_frames.specs.declared.answer.ClientReply.TheVariants as answers
use Rattle.craq_frames.specs.Payload.{AskFits, EncodesAsk, ask_encoding, AnswerFits, IsAnswer, EncodesAnswer, answer_encoding}
use Rattle.craq_frames.specs.Typed.{IsTypedAnswer}

pub ask_encodable : (m : ClientMessage) → AskFits m → (bytes : List ℕ) × EncodesAsk m bytes
ask_encodable m t = (ask_encoding m, record { fits = t; encoding = refl })

answer_fits : (m : ClientReply) → IsTypedAnswer m → IsAnswer m → AnswerFits m
answer_fits (answers.Update pass r) t i = (t.0, reply_fits r t.1 i)
answer_fits (answers.Read pass version v) t i = t
answer_fits (answers.Refused r) t i = t
answer_fits (answers.Status b) t i = record { few = i; utf8 = t }

pub answer_encodable : (m : ClientReply) → IsTypedAnswer m → IsAnswer m ↔ ((bytes : List ℕ) × EncodesAnswer m bytes)
answer_encodable m t = (
  λ i. (answer_encoding m, record { fits = answer_fits m t i; rules = i; encoding = refl }),
  λ x. x.1.rules,
)
