use Rattle.std.proofs.Common.{◌≡◌, sym, ◌∙◌}
use Rattle.std.specs.Ordering.{is_lt}
use Rattle.craq_write.proofs.Orderings.{by_ends}
use Rattle.craq_write.proofs.gathering.are_before.Goals as goal

pub returns-in-Some-Some : goal.returns-in-Some-Some
returns-in-Some-Some g c =
    let last = c.in-Some-Some.field-0-0.now in
    let first = c.in-Some-Some.field-0-1.now in
    let ends : c.is_lt.result ≡ is_lt (g.K.Ord.cmp last.0 first.0) = cc in
    ends ∙ by_ends g.K.Ord.cmp g.met.K.Ord.total c.args.items.now c.args.later.now last first c.requires.items c.requires.later (sym c.in-Some-Some.ensures.value) (sym c.in-Some-Some.ensures'.value)
