use Rattle.std.proofs.Common.{List, ℕ, subst, sym}
use Rattle.craq_versions.specs.Tables.{held_at}
use Rattle.craq_versions.specs.Versions.{CanSettleAs}
use Rattle.craq_versions.proofs.Placed.{versions_at}
use Rattle.craq_part_tests.proofs.objects.settle_at_place.Goals as goal

pub settle_as_at-requires-clause-next : goal.settle_as_at-requires-clause-next
settle_as_at-requires-clause-next c = λ key e.
    let may = c.can_settle_as.ensures c.if-not-can_settle_as.false in
    let here = subst (λ (vs : List (ℕ × List ℕ)). CanSettleAs vs c.args.version) (versions_at c.args.table.now key c.at.result.now (c.at.ensures key e)) may in
    subst (λ (n : ℕ). CanSettleAs (held_at c.args.table.now key).versions n) (sym c.new-settled.ensures) here
