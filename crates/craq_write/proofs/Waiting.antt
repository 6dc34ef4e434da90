-- A node that is not ready and stays so: it has taken entries and drops the gathering that it
-- reached.
use Rattle.std.proofs.Common.{◌≡◌, ◌<◌, ◌≤◌, ℕ, ◌+◌, Bool, true, false, ◌&&◌, List, [], length, None, Some, refl, sym, ap, subst, ◌∙◌, arith, length-append}
use Rattle.std.proofs.lemmas.Bool.{cond-false}
use Rattle.std.proofs.lemmas.Bool.Decides.{nat_tests}
use Rattle.std.specs.Prelude.{IsSome, nat_le, not}
use Rattle.craq_names.specs.Limits.{greatest}
use Rattle.craq_commands.specs.declared.entry.Entry.{Entry}
use Rattle.craq_commands.specs.declared.state.State.{State}
use Rattle.craq_model.specs.declared.step.Step.{Step}
use Rattle.craq_model.specs.Deliveries.{with_copy}
use Rattle.craq_model.specs.Plain.{Plain, length_of, with_entries}
use Rattle.craq_model.specs.Settle.{is_reached, readiness_transition, settling_transition, transition_with, without_reached}
use Rattle.craq_history.specs.declared.change.Change.{Change}
use Rattle.craq_history.specs.declared.change.HistoryChange.TheVariants as histories
use Rattle.craq_history.specs.Change.{changed, no_change, gathering_by}
use Rattle.craq_history.specs.Effects.{CanMake, IsEffectOf}
use Rattle.craq_write.specs.Gathered.{gathering_at}
use Rattle.craq_write.proofs.Gathers.{apart, without_reached_is}

abbrev pub silent : Step
silent = record { ticket = None; outs = []; ignored = None }

and_false : (a : Bool) → (a && false) ≡ false
and_false true = refl
and_false false = refl

-- the floor is not reached
goes_on : (q : Plain) → is_reached q.floor (length_of q) ≡ false → readiness_transition q ≡ transition_with (without_reached q) []
unfolding readiness_transition
goes_on q f =
    cond-false (not q.ready && is_reached q.floor (length_of q)) (settling_transition (record q { ready = true; gathering = None })) (transition_with (without_reached q) []) (ap (λ b. not q.ready && b) f ∙ and_false (not q.ready))

waits : (p q : Plain) (c : Change) (s : Step) → is_reached q.floor (length_of q) ≡ false
    → changed p c ≡ record q { gathering = gathering_by (gathering_at q.gathering (length_of q)) q.gathering } → CanMake p c → s ≡ silent → IsEffectOf p (c, s) (readiness_transition q)
waits p q c s f same can st =
    let after : without_reached q ≡ changed p c = without_reached_is q ∙ sym same in
    let said : silent ≡ s = sym st in
    record {
      is = goes_on q f ∙ (λ i. (after i, said i));
      can = can;
      still = λ h. let none : false ≡ true = subst (λ (x : Step). IsSome x.ignored) st h in absurd cc;
    }

pub entries_wait : (p : Plain) (es : List Entry) (end : ℕ) (c : Change) (s : Step) → end ≡ length_of p + length es → end ≤ greatest → p.ready ≡ false → is_reached p.floor end ≡ false
    → c ≡ record no_change { history = histories.Grows es; gathering = gathering_at p.gathering end } → s ≡ silent → IsEffectOf p (c, s) (readiness_transition (with_entries p es))
entries_wait p es end c s e few u f is st =
    let n : length_of (with_entries p es) ≡ end = omega (arith, e, length-append p.past.entries es) in
    waits p (with_entries p es) c s (ap (is_reached p.floor) n ∙ f) (rw (is, n, u) refl)
    (rw is (record { ticket = λ t. absurd cc; position = omega (arith, e, few); apart = apart p.gathering end (histories.Grows es) })) st

pub copy_waits : (p : Plain) (position : ℕ) (state : State) (c : Change) (s : Step) → p.ready ≡ false → is_reached p.floor position ≡ false
    → c ≡ record no_change { history = histories.IsCopied position state; gathering = gathering_at p.gathering position } → s ≡ silent → IsEffectOf p (c, s) (readiness_transition (with_copy p position state))
copy_waits p position state c s u f is st =
    let n : length_of (with_copy p position state) ≡ position = omega arith in
    waits p (with_copy p position state) c s (ap (is_reached p.floor) n ∙ f) (rw (is, n, u) refl)
    (rw is (record { ticket = λ t. absurd cc; position = tt; apart = apart p.gathering position (histories.IsCopied position state) })) st

pub floor_waits : (p : Plain) (count end : ℕ) (c : Change) (s : Step) → end ≡ length_of p → p.ready ≡ false → end < count
    → c ≡ record no_change { floor = Some count; gathering = gathering_at p.gathering end } → s ≡ silent → IsEffectOf p (c, s) (readiness_transition (record p { floor = Some count }))
floor_waits p count end c s e u above is st =
    let f : nat_le count (length_of p) ≡ false = grind (arith, nat_tests, above, e) in
    waits p (record p { floor = Some count }) c s f (rw (is, e, u) refl)
    (rw is (record { ticket = λ t. absurd cc; position = tt; apart = apart p.gathering end histories.Stays })) st
