use Rattle.std.proofs.Common.{inl, inr}
use Rattle.std.specs.Prelude.{IsOk}
use Rattle.std.proofs.lemmas.Result.{err_from_is_err_and}
use Rattle.craq_runs.specs.Chain.{removal_progress}
use Rattle.craq_chain.specs.Parts.{AreParts}
use Rattle.craq_chain.proofs.Reported.{removal_encodable}
use Rattle.craq_chain.proofs.Commands.{can_remove, removes, keeps_member, not_kept}
use Rattle.craq_chain.proofs.Refusing.{passed_on}
use Rattle.craq_chain.proofs.masters.remove.Goals as goal

pub returns-in_err-step-clause-step : goal.returns-in_err-step-clause-step
returns-in_err-step-clause-step g c =
    let p = err_from_is_err_and c.from_residual-in_err-step.result c.from_residual-in_err-step.ensures.1 in
    λ d h.
    passed_on (AreParts g.C.Core.represents c.args.cores.now c.args.master.now) d (IsOk (removal_progress d c.args.id)) _ c.in_err-step.field-0.0 (removal_progress d c.args.id) p
    (elim c.in_err-step.ensures.step [
      | inl memory ↦ inl (memory.0, can_remove g.C.Core.represents c.args.cores.now c.args.master.now d c.args.id c.in_ok-receipt.receipt h (c.in_ok-receipt.ensures d h) memory.1)
      | inr s ↦ inr (keeps_member g.C.Core.represents c.args.cores.now c.args.master.now d c.args.id c.in_ok-receipt.receipt c.in_err-step.field-0.0 h (c.in_ok-receipt.ensures d h) s)
    ]) h

pub returns-in_err-remove-clause-step : goal.returns-in_err-remove-clause-step
returns-in_err-remove-clause-step g c =
    let p = err_from_is_err_and c.from_residual-in_err-remove.result c.from_residual-in_err-remove.ensures.1 in
    λ d h.
    passed_on (AreParts g.C.Core.represents c.args.cores.now c.remove.new.self) d (IsOk (removal_progress d c.args.id)) _ c.in_err-remove.field-0.0 (removal_progress d c.args.id) p
    (not_kept g.C.Core.represents c.args.cores.now c.args.master.now d c.args.id c.in_ok-receipt.receipt c.in_ok-step.step c.in_err-remove.field-0.0 h (c.in_ok-receipt.ensures d h) c.in_ok-step.ensures.step c.in_err-remove.ensures.err)
    (rw c.in_err-remove.ensures.same h)

pub returns-clause-step : goal.returns-clause-step
returns-clause-step g c =
    λ d h. removes g.C.Core.represents c.args.cores.now c.args.master.now c.remove.new.self d c.args.id c.in_ok-receipt.receipt c.in_ok-step.step h (c.in_ok-receipt.ensures d h) c.in_ok-step.ensures.step c.in_ok-remove.ensures.ok

pub returns-clause-spelled : goal.returns-clause-spelled
returns-clause-spelled g c = removal_encodable c.args.master.now c.args.id c.in_ok-step.step c.in_ok-step.ensures.mastered c.in_ok-step.ensures.step
