use Rattle.std.proofs.Common.{◌≤◌, arith, length, sym}
use Rattle.craq_key_map.specs.Indexed.{indexed}
use Rattle.craq_key_map.specs.declared.layout.Layout.{Layout}
use Rattle.craq_key_map.proofs.Splitting.{nothing_known, same_length}
use Rattle.craq_key_map.proofs.index.Index.open.Goals as goal

pub invariant_of-self : goal.invariant_of-self
invariant_of-self c =
    let buckets = c.in_ok-self-inside.field-0 in
    let layout : Layout = record { half = 64; count = 64 } in
    let count = c.in_ok-self-inside.ensures.count in
    let same = same_length buckets layout in
    (record { from = omega (arith, count, same); to = omega (arith, count, same) }, sym count, omega arith)

pub returns-clause-keeps : goal.returns-clause-keeps
returns-clause-keeps c =
    let s = indexed c.self.inside.buckets c.self.inside.layout in
    let few : length s.buckets ≤ 0 = omega (arith, c.self.invariant.0.to, c.if-self-gt0.false) in
    rw (← c.self.view_is) (nothing_known s (indexed c.in_ok-self-inside.field-0 (record { half = 64; count = 64 })) few)
