use Rattle.std.proofs.Common.{◌≤◌, length, subst, sym}
use Rattle.craq_commands.specs.Evaluation.{Outcome}
use Rattle.craq_check.proofs.Bounds.{few_written}
use Rattle.craq_check.proofs.single.Single.outcome.Goals as goal

pub returns-clause-few : goal.returns-clause-few
returns-clause-few c =
    let P : Outcome → Type 0 = λ o. length o.0 ≤ 16 in
    subst P (sym c.in_ok-writes.ensures) (few_written c.args.self.now.objects c.args.command.now c.has_few_writes.ensures)
