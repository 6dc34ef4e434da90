-- A node that becomes ready by entries.
use Rattle.std.proofs.Common.{◌≡◌, ◌≤◌, ℕ, ◌+◌, ◌-◌, true, false, List, [], ◌++◌, length, drop, None, Some, refl, sym, ap, subst, ◌∙◌, arith, length-append}
use Rattle.std.proofs.lemmas.Bool.{cond-true}
use Rattle.std.specs.Prelude.{◌==◌, ◌&&◌, IsSome, not, if◌then◌else◌}
use Rattle.craq_names.specs.Limits.{greatest}
use Rattle.craq_commands.specs.declared.entry.Entry.{Entry}
use Rattle.craq_model.specs.declared.step.Out.{Out}
use Rattle.craq_model.specs.declared.step.Step.{Step}
use Rattle.craq_model.specs.Plain.{Plain, is_last, length_of, entries_after, with_entries, acknowledging}
use Rattle.craq_model.specs.Sends.{tick_sends, ready_sends, catch_up}
use Rattle.craq_model.specs.Settle.{Transition, transition_with, is_reached, without_reached, readiness_transition, settling_transition, all_given, by_ticket}
use Rattle.craq_history.specs.declared.change.Change.{Change}
use Rattle.craq_history.specs.declared.change.GatheringChange.TheVariants.{Dropped}
use Rattle.craq_history.specs.declared.change.HistoryChange.TheVariants as histories
use Rattle.craq_history.specs.Change.{changed, no_change}
use Rattle.craq_history.specs.Effects.{IsEffectOf}
use Rattle.craq_history.specs.Standing.{ready_outs}
use Rattle.craq_write.specs.Settling.{IsIdle}
use Rattle.craq_write.proofs.Copies.{idle, is_idle}
use Rattle.craq_write.proofs.Ends.{nothing_after_all, more_after}

-- the step by which a node becomes ready
abbrev pub reported : List Out → Step
reported outs = record { ticket = None; outs = outs; ignored = None }

-- the last member commits all its entries; any other keeps its commit index
abbrev ready_last : Plain → List Entry → ℕ → Transition
ready_last p es end =
    transition_with (record (acknowledging (with_entries p es) end) { ready = true; gathering = None })
    (if p.epoch == 0 then [] else ready_outs p.name p.epoch p.members [] end end p.waiting_reads)

abbrev ready_in_line : Plain → List Entry → ℕ → Transition
ready_in_line p es end =
    transition_with (record (with_entries p es) { ready = true; gathering = None })
    (if p.epoch == 0 then [] else ready_outs p.name p.epoch p.members (drop (p.past.acknowledged - p.past.base) p.past.entries ++ es) end p.past.acknowledged p.waiting_reads)

settled_last : (p : Plain) (es : List Entry) (end : ℕ) → is_last p ≡ true → length_of (with_entries p es) ≡ end
    → settling_transition (record (with_entries (idle p) es) { ready = true; gathering = None }) ≡ ready_last (idle p) es end
unfolding settling_transition all_given by_ticket tick_sends ready_sends catch_up entries_after
settled_last p es end h n =
    let nothing : drop (end - p.past.base) (p.past.entries ++ es) ≡ [] = subst (λ k. drop (k - p.past.base) (p.past.entries ++ es) ≡ []) n (nothing_after_all p.past.base (p.past.entries ++ es)) in
    rw (h, n, nothing) refl

settled_in_line : (p : Plain) (es : List Entry) (end : ℕ) → is_last p ≡ false → length_of (with_entries p es) ≡ end → p.past.acknowledged ≤ length_of p
    → settling_transition (record (with_entries (idle p) es) { ready = true; gathering = None }) ≡ ready_in_line (idle p) es end
unfolding settling_transition all_given by_ticket tick_sends ready_sends catch_up entries_after
settled_in_line p es end h n within =
    rw (h, n, more_after p.past.base p.past.acknowledged p.past.entries es within) refl

becomes : (p : Plain) (es : List Entry) (end : ℕ) → end ≡ length_of p + length es → p.ready ≡ false → is_reached p.floor end ≡ true
    → readiness_transition (with_entries p es) ≡ settling_transition (record (with_entries p es) { ready = true; gathering = None })
unfolding readiness_transition
becomes p es end e u f =
    let n : length_of (with_entries p es) ≡ end = omega (arith, e, length-append p.past.entries es) in
    cond-true (not p.ready && is_reached p.floor (length_of (with_entries p es))) (settling_transition (record (with_entries p es) { ready = true; gathering = None })) (transition_with (without_reached (with_entries p es)) [])
    (ap (λ b. not b && is_reached p.floor (length_of (with_entries p es))) u ∙ (ap (is_reached p.floor) n ∙ f))

planned : (p : Plain) (es : List Entry) (c : Change) (s : Step) (outs : List Out) (transition : Transition) → length_of p + length es ≤ greatest → transition ≡ (changed p c, s) → s ≡ reported outs
    → c ≡ record no_change { history = histories.Grows es; acknowledged = c.acknowledged; becomes_ready = true; gathering = Dropped } → IsEffectOf p (c, s) transition
planned p es c s outs transition few is st same = record {
  is = is;
  can = rw same (record { ticket = λ t. absurd cc; position = few; apart = tt });
  still = λ h. let none : false ≡ true = subst (λ (x : Step). IsSome x.ignored) st h in absurd cc;
}

pub ready_by_last : (p : Plain) (es : List Entry) (end : ℕ) (c : Change) (s : Step) (outs : List Out) → is_last p ≡ true → end ≡ length_of p + length es → end ≤ greatest
    → p.ready ≡ false → IsIdle p → is_reached p.floor end ≡ true
    → c ≡ record no_change { history = histories.Grows es; acknowledged = Some end; becomes_ready = true; gathering = Dropped }
    → outs ≡ (if p.epoch == 0 then [] else ready_outs p.name p.epoch p.members [] end end p.waiting_reads) → s ≡ reported outs → IsEffectOf p (c, s) (readiness_transition (with_entries p es))
ready_by_last p es end c s outs last e few u i f is so st =
    let n : length_of (with_entries p es) ≡ end = omega (arith, e, length-append p.past.entries es) in
    let settled : settling_transition (record (with_entries p es) { ready = true; gathering = None }) ≡ ready_last p es end =
    subst (λ (q : Plain). settling_transition (record (with_entries q es) { ready = true; gathering = None }) ≡ ready_last q es end) (sym (is_idle p i)) (settled_last p es end last n)
    in
    let made : ready_last p es end ≡ (changed p c, s) = rw (is, st, so, u) refl in
    planned p es c s outs (readiness_transition (with_entries p es)) (omega (arith, e, few)) (becomes p es end e u f ∙ settled ∙ made) st (rw is refl)

pub ready_by_others : (p : Plain) (es : List Entry) (end : ℕ) (c : Change) (s : Step) (outs : List Out) → is_last p ≡ false → end ≡ length_of p + length es → end ≤ greatest
    → p.ready ≡ false → IsIdle p → is_reached p.floor end ≡ true → p.past.acknowledged ≤ length_of p
    → c ≡ record no_change { history = histories.Grows es; acknowledged = None; becomes_ready = true; gathering = Dropped }
    → outs ≡ (if p.epoch == 0 then [] else ready_outs p.name p.epoch p.members (drop (p.past.acknowledged - p.past.base) p.past.entries ++ es) end p.past.acknowledged p.waiting_reads)
    → s ≡ reported outs → IsEffectOf p (c, s) (readiness_transition (with_entries p es))
ready_by_others p es end c s outs last e few u i f within is so st =
    let n : length_of (with_entries p es) ≡ end = omega (arith, e, length-append p.past.entries es) in
    let settled : settling_transition (record (with_entries p es) { ready = true; gathering = None }) ≡ ready_in_line p es end =
    subst (λ (q : Plain). settling_transition (record (with_entries q es) { ready = true; gathering = None }) ≡ ready_in_line q es end) (sym (is_idle p i)) (settled_in_line p es end last n within)
    in
    let made : ready_in_line p es end ≡ (changed p c, s) = rw (is, st, so, u) refl in
    planned p es c s outs (readiness_transition (with_entries p es)) (omega (arith, e, few)) (becomes p es end e u f ∙ settled ∙ made) st (rw is refl)
