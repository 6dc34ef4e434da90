use Rattle.std.proofs.Common.{◌≡◌, ℕ, List, [], Option, Some, true, false, unwrap_or, sym, ap, ◌∙◌}
use Rattle.craq_names.specs.Maps.{same_bytes, at_key}
use Rattle.craq_commands.specs.Objects.{object_of}
use Rattle.craq_full_history.proofs.Scans.{key_here, key_later}
use Rattle.craq_full_history.proofs.lookups.object_in.Goals as goal

pub returns-then-eq-clause-object : goal.returns-then-eq-clause-object
unfolding object_of
returns-then-eq-clause-object c =
    let test : same_bytes c.args.key.now c.loop-name-item.result.0 ≡ true = sym c.eq.ensures ∙ c.if-eq.true in
    let here : at_key c.args.objects.now c.args.key.now ≡ Some c.loop-name-item.result.1 = sym c.loop-name.invariant ∙ key_here c.args.objects.now c.loop-name.name-index c.loop-name-item.result c.args.key.now c.loop-name-test.true c.loop-name-item.is test in
    ap (λ (v : List ℕ). (c.loop-name-item.result.1.0, v)) c.as_slice.ensures.value ∙ sym (ap (λ (o : Option (ℕ × List ℕ)). unwrap_or o (0, [])) here)

pub loop-name-preserved : goal.loop-name-preserved
loop-name-preserved c =
    let test : same_bytes c.args.key.now c.loop-name-item.result.0 ≡ false = sym c.eq.ensures ∙ c.if-eq.false in
    sym (key_later c.args.objects.now c.loop-name.name-index c.loop-name-item.result c.args.key.now c.loop-name-test.true c.loop-name-item.is test) ∙ c.loop-name.invariant
