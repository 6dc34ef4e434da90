use Rattle.std.proofs.Common.{◌≡◌, ℕ, List, suc, ◌-◌, sym, ap, ◌∙◌, arith}
use Rattle.craq_commands.specs.declared.entry.Write.{Write}
use Rattle.craq_model.specs.Past.{values_in}
use Rattle.craq_versions.specs.Versions.{newest_of}
use Rattle.craq_compact_state.proofs.Newest.{entry_found, entry_passed, no_entries}
use Rattle.craq_compact_state.proofs.lookups.newest_past.Goals as goal

pub loop-index-init : goal.loop-index-init
loop-index-init c = no_entries c.args.entries.now c.args.key.now

pub returns-in-Some-clause-object : goal.returns-in-Some-clause-object
returns-in-Some-clause-object c =
    let k : ℕ = c.loop-index.index in
    let next : k ≡ suc (k - 1) = omega (arith, c.loop-index-test.true) in
    let its = ap (λ (ws : List Write). newest_of (values_in ws c.args.key.now)) (sym c.as_slice.ensures) ∙ sym c.in-Some.ensures.object in
    entry_found c.args.entries.now (k - 1) k c.index-entries-index.result c.args.key.now (c.in-Some.found.0, c.in-Some.found.1.now) next (omega (arith, c.loop-index-test.true)) c.index-entries-index.is c.loop-index.invariant its

pub loop-index-preserved : goal.loop-index-preserved
loop-index-preserved c =
    let k : ℕ = c.loop-index.index in
    let next : k ≡ suc (k - 1) = omega (arith, c.loop-index-test.true) in
    let its = ap (λ (ws : List Write). newest_of (values_in ws c.args.key.now)) (sym c.as_slice.ensures) ∙ sym c.in_default.ensures.object in
    entry_passed c.args.entries.now (k - 1) k c.index-entries-index.result c.args.key.now next (omega (arith, c.loop-index-test.true)) c.index-entries-index.is c.loop-index.invariant its
