-- The tests of replies to clients decide their rules.
use Rattle.std.proofs.Common.{length}
use Rattle.std.specs.Bool.{Decides}
use Rattle.std.proofs.lemmas.Bool.Decides.{Decides-ltb}
use Rattle.craq_names.specs.declared.refusal.Refusal.{Refusal}
use Rattle.craq_names.specs.declared.refusal.Refusal.TheVariants.{NotHead}
use Rattle.craq_wire.proofs.ReplyTests.{decides_le, decides_sure, decides_object, decides_reply}
use Rattle.craq_frames.specs.declared.answer.ClientReply.{ClientReply}
use Rattle.craq_frames.specs.declared.answer.ClientReply.TheVariants as answers
use Rattle.craq_frames.specs.Payload.{NamesNode, IsAnswer}
use Rattle.craq_frames.specs.Tests.{names_node, is_answer}

decides_node : (r : Refusal) → Decides (names_node r) (NamesNode r)
decides_node (NotHead head) = decides_le 1 head
decides_node _ = decides_sure

pub decides_answer : (m : ClientReply) → Decides (is_answer m) (IsAnswer m)
decides_answer (answers.Update pass r) = decides_reply r
decides_answer (answers.Read pass version v) = decides_object (version, v)
decides_answer (answers.Refused r) = decides_node r
decides_answer (answers.Status t) = Decides-ltb (length t) 4294967296
