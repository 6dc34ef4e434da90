-- Defines the text of replies and refusals. Texts are lists of character codes.
use Rattle.std.specs.Prelude.{ℕ, ◌/◌, ◌%◌, false, List, [], ◌∷◌, ◌++◌, codes}
use Rattle.std.specs.Fmt.{decimal, digit_glyph}
use Rattle.std.specs.List.{flat_map}
use Rattle.craq_names.specs.declared.refusal.Refusal.{Refusal}
use Rattle.craq_names.specs.declared.refusal.Refusal.TheVariants as refusals
use Rattle.craq_names.specs.Refused.{refusal_number}
use Rattle.craq_commands.specs.declared.reply.Reply.{Reply}
use Rattle.craq_commands.specs.declared.reply.Reply.TheVariants as replies
use Rattle.craq_model.specs.declared.ask.Answer.{Answer}
use Rattle.craq_model.specs.declared.ask.Answer.TheVariants as answers

-- two lower-case hexadecimal digits
abbrev pub byte_text : ℕ → List ℕ
byte_text b = digit_glyph false (b / 16) ∷ digit_glyph false (b % 16) ∷ []

-- `0x` and the bytes
unfoldable pub value_text : List ℕ → List ℕ
value_text bytes = codes "0x" ++ flat_map byte_text bytes

-- ` VERSION:VALUE` of an object
abbrev pub object_text : ℕ × List ℕ → List ℕ
object_text object = codes " " ++ decimal object.0 ++ codes ":" ++ value_text object.1

-- the reply to an update
unfoldable pub reply_text : Reply → List ℕ
reply_text (replies.Written version) = codes "written " ++ decimal version
reply_text (replies.Mismatch version) = codes "mismatch " ++ decimal version
reply_text replies.TooLong = codes "toolong"
reply_text replies.NotANumber = codes "notanumber"
reply_text replies.Overflow = codes "overflow"
reply_text replies.Underflow = codes "underflow"
reply_text (replies.Done objects) = codes "done" ++ flat_map object_text objects
reply_text (replies.CompareFailed place) = codes "comparefailed " ++ decimal place
reply_text (replies.Stale last) = codes "stale " ++ decimal last

-- a reply
unfoldable pub answer_text : Answer → List ℕ
answer_text (answers.Update reply) = reply_text reply
answer_text (answers.Read version value) = codes "read " ++ decimal version ++ codes " " ++ value_text value

-- the text after a refusal's number: the head, for `NotHead`
abbrev pub head_text : Refusal → List ℕ
head_text (refusals.NotHead head) = codes " " ++ decimal head
head_text other = []

-- a refused move
unfoldable pub refusal_text : Refusal → List ℕ
refusal_text refusal = codes "refused " ++ decimal (refusal_number refusal) ++ head_text refusal ++ codes "\n"
