use Rattle.std.proofs.Common.{sym, ◌∙◌, arith}
use Rattle.craq_frames.proofs.Payloads.{answer_found, answer_only, no_answer, rules_broken}
use Rattle.craq_frames.proofs.answer.ClientReply.decode.Goals as goal

pub returns-then-test_answer-clause-found : goal.returns-then-test_answer-clause-found
returns-then-test_answer-clause-found c =
    answer_found c.args.bytes.now c.in-Ok.answer (λ i. omega (arith, c.type_inv.bytes i)) c.in-Ok.ensures (sym c.test_answer.ensures ∙ c.if-test_answer.true)

pub returns-then-test_answer-clause-only : goal.returns-then-test_answer-clause-only
returns-then-test_answer-clause-only c = λ other s. answer_only c.args.bytes.now c.in-Ok.answer other c.in-Ok.ensures s

pub returns-else-test_answer-clause-bad : goal.returns-else-test_answer-clause-bad
returns-else-test_answer-clause-bad c = λ e m s. rules_broken c.args.bytes.now c.in-Ok.answer m c.in-Ok.ensures (sym c.test_answer.ensures ∙ c.if-test_answer.false) s

pub returns-in-Err-BadFrame-clause-bad : goal.returns-in-Err-BadFrame-clause-bad
returns-in-Err-BadFrame-clause-bad c = λ e m s. no_answer c.args.bytes.now m (rw c.in-Err-BadFrame.field-0-is at c.in-Err-BadFrame.ensures) s
