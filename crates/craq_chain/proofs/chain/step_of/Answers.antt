use Rattle.std.proofs.Common.{sym, ap, ◌∙◌, inl, inr, refl}
use Rattle.std.proofs.lemmas.Result.{err_from_is_err_and}
use Rattle.craq_runs.specs.Chain.{move_progress}
use Rattle.craq_chain.specs.Chained.{Finds}
use Rattle.craq_chain.specs.Parts.{AreParts}
use Rattle.craq_chain.specs.Sent.{sent_by}
use Rattle.craq_chain.proofs.Refusing.{lacks, passed_on}
use Rattle.craq_chain.proofs.chain.step_of.Goals as goal

pub returns-in_err-find-clause-step : goal.returns-in_err-find-clause-step
returns-in_err-find-clause-step g c =
    let p = err_from_is_err_and c.from_residual.result c.from_residual.ensures.1 in
    λ d h k.
    let not_found = c.in_err-find.ensures c.args.master.now d (rw c.as_slice.ensures.value h) (k ∙ ap sent_by (sym c.as_slice-2.ensures.value)) in
    passed_on (AreParts g.C.Core.represents c.args.cores.now.items c.args.master.now) d (Finds d c.args.chosen.now) _ c.in_err-find.field-0.0 (move_progress d c.args.chosen.now) p (inr not_found) h

pub returns-then-counted_before-gt-BEYOND_MEMORY-clause-step : goal.returns-then-counted_before-gt-BEYOND_MEMORY-clause-step
returns-then-counted_before-gt-BEYOND_MEMORY-clause-step g c = λ d h k.
    (inl (refl, c.in_ok-find.ensures c.args.master.now d (rw c.as_slice.ensures.value h) (k ∙ ap sent_by (sym c.as_slice-2.ensures.value))), h)

pub returns-in_err-reserve-clause-step : goal.returns-in_err-reserve-clause-step
returns-in_err-reserve-clause-step g c = λ d h k.
    let found = c.in_ok-find.ensures c.args.master.now d (rw c.as_slice.ensures.value h) (k ∙ ap sent_by (sym c.as_slice-2.ensures.value)) in
    lacks (AreParts g.C.Core.represents c.args.cores.now.items c.args.master.now) d (Finds d c.args.chosen.now) _ (move_progress d c.args.chosen.now) c.from_residual-in_err-reserve.ensures found h

pub returns-in_err-reserve-2-clause-step : goal.returns-in_err-reserve-2-clause-step
returns-in_err-reserve-2-clause-step g c = λ d h k.
    let found = c.in_ok-find.ensures c.args.master.now d (rw c.as_slice.ensures.value h) (k ∙ ap sent_by (sym c.as_slice-2.ensures.value)) in
    lacks (AreParts g.C.Core.represents c.args.cores.now.items c.args.master.now) d (Finds d c.args.chosen.now) _ (move_progress d c.args.chosen.now) c.from_residual-in_err-reserve-2.ensures found h
