use Rattle.std.proofs.Common.{◌≡◌, ◌==◌, ◌||◌, false, refl, arith}
use Rattle.std.proofs.lemmas.Result.{err_from_is_err_and}
use Rattle.craq_model.specs.Members.{is_member}
use Rattle.craq_seat.specs.Books.{tells}
use Rattle.craq_epochs.specs.Mastered.{master_after_join}
use Rattle.craq_seat.proofs.Spoken.{join_refused, join_reported, turned}
use Rattle.craq_seat.proofs.mastering.join.Goals as goal

pub returns-in_err-step : goal.returns-in_err-step
returns-in_err-step c =
    let p = err_from_is_err_and c.from_residual.result c.from_residual.ensures.1 in
    let new : ((c.args.id == 0) || is_member c.args.master.now.used c.args.id) ≡ false = grind arith in
    turned c.args.master.now c.args.master.now c.from_residual.result c.in_err-step.field-0.0 (tells (master_after_join c.args.master.now c.args.id)) p refl
    (join_refused c.args.master.now c.args.id c.in_err-step.field-0.0 new c.in_err-step.ensures)

pub returns : goal.returns
returns c = join_reported c.args.master.now c.join.new.self c.args.id c.in_ok-step.step c.in_ok-step.ensures c.in_ok-join.ensures.ok
