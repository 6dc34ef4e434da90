-- The reads that are answered are correct.
use Rattle.std.proofs.Common.{◌≡◌, ◌⊎◌, ⊎_elim, ℕ, ◌<◌, ◌≤◌, nat_le, max, true, List, length, option_map, unwrap_or, Option, Some, refl, ap, sym, subst, ◌∙◌, arith}
use Rattle.std.proofs.lemmas.Bool.{cond_both, eqb-true, leb-true, leb-false}
use Rattle.std.proofs.Math.Seq.{take-length}
use Rattle.craq_commands.specs.declared.entry.Entry.{Entry}
use Rattle.craq_commands.specs.Objects.{object_of, version_of}
use Rattle.craq_commands.specs.declared.state.State.{State}
use Rattle.craq_commands.specs.SingleCopy.{opening_state, after_entries}
use Rattle.craq_model.specs.Plain.{Plain, newest_object, clean_object, object_within}
use Rattle.craq_model.specs.Asks.{is_clean}
use Rattle.craq_model.specs.Deliveries.{answering_version}
use Rattle.craq_protocol.specs.Machine.{MachineState}
use Rattle.craq_protocol.specs.Promises.{IsPrefix}
use Rattle.craq_protocol.proofs.Prefix.{prefix_length, prefix_is_take}
use Rattle.craq_runs.specs.Seen.{Asked}
use Rattle.craq_runs.specs.Explain.{written_at, read_place}
use Rattle.craq_refinement.specs.Follows.{IsPlaced}
use Rattle.craq_updates.specs.ValidEntries.{AllValid}
use Rattle.craq_strong_answers.proofs.Stands.{state_after}
use Rattle.craq_strong_answers.proofs.Stays.{state_stays}
use Rattle.craq_strong_answers.proofs.Within.{IsWritten, written}
use Rattle.craq_strong_answers.proofs.Nodes.{version_after, rises_between, same_objects, Holds, GivenWithin, given_within}

-- the log is the first part of the history, of its own length
log_state : (w : MachineState Entry) (h : List Entry) → IsPrefix w.log h → after_entries opening_state w.log ≡ state_after (length w.log) h
log_state w h p = ap (after_entries opening_state) (sym (prefix_is_take p))

whole_state : (h : List Entry) → after_entries opening_state h ≡ state_after (length h) h
whole_state h = ap (after_entries opening_state) (sym (take-length h))

-- a clean object is the committed one
pub clean_committed : (asked : List Asked) (w : MachineState Entry) (p : Plain) (h : List Entry) (key : List ℕ) → Holds asked w p h → IsPrefix w.log h → is_clean p key ≡ true
    → object_of (state_after (length w.log) w.log).objects key ≡ newest_object p key
clean_committed asked w p h key o l c =
    let same : (newest_object p key).0 ≡ (clean_object p key).0 = eqb-true (newest_object p key).0 (clean_object p key).0 c in
    let new : (newest_object p key).0 ≡ version_after h key (length h) = ap (λ (s : State). version_of s.objects key) (o.newest_is ∙ whole_state h) in
    let old : (clean_object p key).0 ≡ version_after h key p.past.acknowledged = ap (λ (s : State). version_of s.objects key) o.clean_is in
    let a : version_after h key p.past.acknowledged ≤ version_after h key (length w.log) = rises_between asked h key p.past.acknowledged (length w.log) o.numbered o.valid_entry o.committed in
    let b : version_after h key (length w.log) ≤ version_after h key (length h) = rises_between asked h key (length w.log) (length h) o.numbered o.valid_entry (prefix_length l) in
    let equal : version_after h key (length w.log) ≡ version_after h key (length h) = omega (arith, same, new, old, a, b) in
    ap (λ (s : State). object_of s.objects key) (sym (state_stays (length w.log) w.log h l (omega arith)))
    ∙ (same_objects asked h key (length w.log) (length h) o.numbered o.valid_entry equal ∙ sym (ap (λ (s : State). object_of s.objects key) (o.newest_is ∙ whole_state h)))

none_at_first : (key : List ℕ) → version_of opening_state.objects key ≡ 0
unfolding object_of
none_at_first key = refl

found_at : (log : List Entry) (key : List ℕ) (version : ℕ) → (i : IsWritten opening_state 0 log key version) → written_at log key version ≡ i.place
unfolding written_at
found_at log key version i =
    let at : written_at log key version ≡ i.entry.position = ap (λ (o : Option Entry). unwrap_or (option_map (λ (e : Entry). e.position) o) 0) i.found in
    omega (arith, at, i.position)

-- the place of a read whose version was reported, and its object there
pub record PlacedRead (w : MachineState Entry) (sent position : ℕ) (key : List ℕ) (object : ℕ × List ℕ) : Type 0 where
  pub from : sent ≤ position
  pub within_log : position ≤ length w.log
  pub is : object_of (state_after position w.log).objects key ≡ object

pub reported_placed : (asked : List Asked) (w : MachineState Entry) (p : Plain) (h : List Entry) (key : List ℕ) (version sent : ℕ) → Holds asked w p h → IsPrefix w.log h → IsPlaced 0 w.log → AllValid asked opening_state w.log
    → sent ≤ length w.log → version_of (state_after sent w.log).objects key ≡ version
    → PlacedRead w sent (read_place w.log (Some p) (Some (version, sent)) key) key (object_within p key (answering_version p key version))
reported_placed asked w p h key version sent o l placed gl le is =
    let clean_version : ℕ = (clean_object p key).0 in
    let old : clean_version ≡ version_after h key p.past.acknowledged = ap (λ (s : State). version_of s.objects key) o.clean_is in
    let bound : ℕ = max version clean_version in
    let g : GivenWithin h p key bound = given_within asked w p h key bound o (omega arith) in
    let there : (k : ℕ) → k ≤ length w.log → state_after k w.log ≡ state_after k h = λ k le. sym (state_stays k w.log h l le) in
    let reported : version_after h key sent ≡ version = ap (λ (s : State). version_of s.objects key) (sym (there sent le)) ∙ is in
    let low : version_after h key p.past.acknowledged ≤ version_after h key g.count = g.most p.past.acknowledged (omega arith) (omega (arith, old)) in
    -- the object at a place with the same version
    let place : (k : ℕ) → k ≤ length w.log → version_after h key k ≡ version_after h key g.count → object_of (state_after k w.log).objects key ≡ object_within p key bound =
    λ k le e. ap (λ (s : State). object_of s.objects key) (there k le) ∙ (same_objects asked h key k g.count o.numbered o.valid_entry e ∙ sym g.is)
    in
    cond_both (nat_le clean_version version) sent (written_at w.log key clean_version) (λ (position : ℕ). PlacedRead w sent position key (object_within p key bound))
    (λ t.
    let small : clean_version ≤ version = leb-true clean_version version t in
    let high : version ≤ version_after h key g.count = ⊎_elim
    (λ (after : p.past.acknowledged ≤ sent). omega (arith, reported, g.most sent after (omega (arith, reported))))
    (λ (before : sent ≤ p.past.acknowledged). omega (arith, reported, rises_between asked h key sent p.past.acknowledged o.numbered o.valid_entry before, low))
    (either p.past.acknowledged sent) in
    record { from = omega arith; within_log = le; is = place sent le (omega (arith, reported, high, g.below, small)) })
    (λ t.
    let big : version < clean_version = leb-false clean_version version t in
    let reach : clean_version ≤ version_of (after_entries opening_state w.log).objects key =
    let e : version_of (after_entries opening_state w.log).objects key ≡ version_after h key (length w.log) = ap (λ (s : State). version_of s.objects key) (log_state w h l) in
    omega (arith, e, old, rises_between asked h key p.past.acknowledged (length w.log) o.numbered o.valid_entry o.committed)
    in
    let i : IsWritten opening_state 0 w.log key clean_version = written asked opening_state 0 w.log key clean_version o.numbered gl placed (positive version clean_version big) reach in
    let at : written_at w.log key clean_version ≡ i.place = found_at w.log key clean_version i in
    let here : version_after h key i.place ≡ clean_version = ap (λ (s : State). version_of s.objects key) (sym (there i.place i.short)) ∙ i.is in
    let P : ℕ → Type 0 = λ position. PlacedRead w sent position key (object_within p key bound) in
    subst P (sym at) (record {
      from = ⊎_elim (λ a. a) (λ (b : i.place ≤ sent). absurd (omega (arith, rises_between asked h key i.place sent o.numbered o.valid_entry b, here, reported, big))) (either sent i.place);
      within_log = i.short;
      is = place i.place i.short (omega (arith, here, low, g.below, old, big));
    }))
  where
    either : (i j : ℕ) → (i ≤ j) ⊎ (j ≤ i)
    either i j = grind arith

    positive : (i j : ℕ) → i < j → version_of opening_state.objects key < j
    positive i j lt = omega (arith, lt, none_at_first key)
