use Rattle.std.proofs.Common.{◌≡◌, ◌==◌, ◌&&◌, not, false, refl, arith}
use Rattle.std.proofs.lemmas.Result.{err_from_is_err_and}
use Rattle.craq_model.specs.Members.{is_member}
use Rattle.craq_seat.specs.Books.{tells}
use Rattle.craq_epochs.specs.Mastered.{removed}
use Rattle.craq_seat.proofs.Spoken.{removal_refused, removal_reported, turned}
use Rattle.craq_seat.proofs.mastering.remove.Goals as goal

pub returns-in_err-step : goal.returns-in_err-step
returns-in_err-step c =
    let p = err_from_is_err_and c.from_residual.result c.from_residual.ensures.1 in
    let member : not ((c.args.stopped.chain == c.args.master.now.chain) && is_member c.args.master.now.members c.args.stopped.node) ≡ false = grind arith in
    turned c.args.master.now c.args.master.now c.from_residual.result c.in_err-step.field-0.0 (tells (removed c.args.master.now c.args.stopped)) p refl
    (removal_refused c.args.master.now c.args.stopped c.in_err-step.field-0.0 member (rw c.name-name.ensures at c.in_err-step.ensures.step))

pub returns : goal.returns
returns c = removal_reported c.args.master.now c.remove.new.self c.args.stopped c.in_ok-step.step (rw c.name-name.ensures at c.in_ok-step.ensures.step) c.in_ok-remove.ensures.ok
