use Rattle.std.proofs.Common.{◌≡◌, ℕ, suc, ◌-◌, sym, ◌∙◌, arith}
use Rattle.craq_compact_state.proofs.Newest.{no_writes, write_found, write_passed}
use Rattle.craq_compact_state.proofs.lookups.last_written.Goals as goal

pub loop-index-init : goal.loop-index-init
loop-index-init c = no_writes c.args.writes.now c.args.key.now

pub returns-then-are_same-clause-object : goal.returns-then-are_same-clause-object
returns-then-are_same-clause-object c =
    let k : ℕ = c.loop-index.index in
    let next : k ≡ suc (k - 1) = omega (arith, c.loop-index-test.true) in
    rw c.as_slice.ensures.value
    (write_found c.args.writes.now (k - 1) k c.index-writes-index.result c.args.key.now next (omega (arith, c.loop-index-test.true)) c.index-writes-index.is c.loop-index.invariant (sym c.are_same.ensures ∙ c.if-are_same.true))

pub loop-index-preserved : goal.loop-index-preserved
loop-index-preserved c =
    let k : ℕ = c.loop-index.index in
    let next : k ≡ suc (k - 1) = omega (arith, c.loop-index-test.true) in
    write_passed c.args.writes.now (k - 1) k c.index-writes-index.result c.args.key.now next (omega (arith, c.loop-index-test.true)) c.index-writes-index.is c.loop-index.invariant (sym c.are_same.ensures ∙ c.if-are_same.false)
