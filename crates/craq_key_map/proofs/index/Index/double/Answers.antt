use Rattle.std.proofs.Common.{◌≡◌, ◌+◌, ◌∙◌, arith, length, subst, sym}
use Rattle.craq_key_map.specs.Indexed.{indexed, Keeps}
use Rattle.craq_key_map.proofs.Splitting.{double_keeps, same_length}
use Rattle.craq_key_map.proofs.index.Index.double.Goals as goal

pub returns-clause-keeps : goal.returns-clause-keeps
returns-clause-keeps c =
    let buckets = c.self.inside.buckets in
    let layout = c.self.inside.layout in
    let s = indexed buckets layout in
    let some = rw (← c.self.view_is) at c.requires in
    let count : layout.count ≡ length s.buckets = c.self.invariant.1 ∙ sym (same_length buckets layout) in
    let full : length s.buckets ≡ s.half + s.half = omega (arith, count, c.self.invariant.0.to, c.if-self.false) in
    rw (← c.self.view_is) (subst (λ n. Keeps s (record { buckets = s.buckets; half = n })) (sym count) (double_keeps s c.self.invariant.0 some full))
