-- The rules of replies to clients, as tests.
use Rattle.std.specs.Prelude.{◌^◌, ◌==◌, nat_le, nat_lt, Bool, true, not, ◌||◌, length}
use Rattle.craq_names.specs.declared.refusal.Refusal.{Refusal}
use Rattle.craq_names.specs.declared.refusal.Refusal.TheVariants.{NotHead}
use Rattle.std.specs.List.{list_all}
use Rattle.craq_wire.specs.ReplyTests.{is_reply}
use Rattle.craq_frames.specs.declared.answer.ClientReply.{ClientReply}
use Rattle.craq_frames.specs.declared.answer.ClientReply.TheVariants as answers
use Rattle.craq_frames.specs.declared.versions.Answered.{Answered}
use Rattle.craq_frames.specs.declared.versions.Answered.TheVariants as replies

-- a head that the refusal names is not node 0
abbrev pub names_node : Refusal → Bool
names_node (NotHead head) = nat_le 1 head
names_node _ = true

-- a reply keeps its rules
abbrev pub is_answer : ClientReply → Bool
is_answer (answers.Update pass r) = is_reply r
is_answer (answers.Read pass version v) = not (version == 0) || (length v == 0)
is_answer (answers.Refused r) = names_node r
is_answer (answers.Status t) = nat_lt (length t) (2 ^ 32)

-- the rules of all replies of a payload
abbrev pub is_answered : Answered → Bool
is_answered (replies.One version m) = is_answer m
is_answered (replies.Many ms) = list_all is_answer ms
