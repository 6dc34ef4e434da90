use Rattle.std.proofs.Common.{◌≡◌, ◌↔◌, Bool, true, subst, sym}
use Rattle.craq_runs.specs.Seen.{seen}
use Rattle.craq_runs.specs.Valid.{IsChecked}
use Rattle.craq_check.proofs.Checked.{decides}
use Rattle.craq_check.proofs.verdict.check.Goals as goal

pub returns : goal.returns
returns c =
    let P : Bool → Type 0 = λ b. (b ≡ true) ↔ IsChecked (seen c.args.run.now) c.args.explanation.now in
    subst P (sym c.in_ok-holds.ensures) (decides (seen c.args.run.now) c.args.explanation.now)
