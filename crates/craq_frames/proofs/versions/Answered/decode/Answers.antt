use Rattle.std.proofs.Common.{sym, ◌∙◌, arith}
use Rattle.craq_frames.proofs.BothVersions.{answered_found, answered_only, no_answered, answered_rules_broken}
use Rattle.craq_frames.proofs.versions.Answered.decode.Goals as goal

pub returns-then-test_answered-clause-found : goal.returns-then-test_answered-clause-found
returns-then-test_answered-clause-found c =
    answered_found c.args.bytes.now c.in-Ok.answered (λ i. omega (arith, c.type_inv.bytes i)) c.in-Ok.ensures (sym c.test_answered.ensures ∙ c.if-test_answered.true)

pub returns-then-test_answered-clause-only : goal.returns-then-test_answered-clause-only
returns-then-test_answered-clause-only c = λ other s. answered_only c.args.bytes.now c.in-Ok.answered other c.in-Ok.ensures s

pub returns-else-test_answered-clause-bad : goal.returns-else-test_answered-clause-bad
returns-else-test_answered-clause-bad c = λ e m s. answered_rules_broken c.args.bytes.now c.in-Ok.answered m c.in-Ok.ensures (sym c.test_answered.ensures ∙ c.if-test_answered.false) s

pub returns-in-Err-BadFrame-clause-bad : goal.returns-in-Err-BadFrame-clause-bad
returns-in-Err-BadFrame-clause-bad c = λ e m s. no_answered c.args.bytes.now m (rw c.in-Err-BadFrame.field-0-is at c.in-Err-BadFrame.ensures) s
