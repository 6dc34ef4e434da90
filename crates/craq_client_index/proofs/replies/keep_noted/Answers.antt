use Rattle.std.proofs.Common.{◌≡◌, ℕ, ◌+◌, ◌-◌, ◌<◌, ◌≤◌, length, drop, get_or, sym, ap, subst, ◌∙◌, arith}
use Rattle.craq_full_history.specs.Slots.{Slots, slots_after, window_with}
use Rattle.craq_client_index.proofs.Placing.{none_there, positions_there}
use Rattle.craq_client_index.proofs.Keeping.{GoesOn, begins, ends_at, next_at, none_left}
use Rattle.craq_client_index.proofs.replies.keep_noted.Goals as goal

pub returns-in-None-clause-slots : goal.returns-in-None-clause-slots
returns-in-None-clause-slots c =
    sym (none_left c.args.client c.args.after c.args.first c.args.entries.now c.args.slots.now.items (none_there c.args.places.now.entries c.args.client (rw c.get.ensures at c.in-None.ensures.value) ∙ c.requires.noted))

pub loop-place-init : goal.loop-place-init
loop-place-init c = record {
  few = c.requires.few;
  goes_on = begins c.args.client c.args.after c.args.first c.args.entries.now c.in-Some.positions.now c.args.slots.now.items (positions_there c.args.places.now.entries c.args.client c.in-Some.positions.now (rw c.get.ensures at c.in-Some.ensures.value) ∙ c.requires.noted);
}

pub overflow_sub-index : goal.overflow_sub-index
overflow_sub-index c =
    let low : c.loop-place.place < length c.in-Some.positions.now = omega (arith, c.loop-place-test.true, c.len-place-end.ensures) in
    let n = next_at c.args.client c.args.after c.args.first c.args.entries.now c.in-Some.positions.now c.loop-place.place c.at.result c.loop-place.slots.items (slots_after c.args.client c.args.first c.args.entries.now c.args.slots.now.items) c.loop-place.invariant.goes_on low c.at.ensures in
    let is = n.is in
    let within = n.within in
    omega (arith, is)

pub overflow_sub-index-in-loop-place : goal.overflow_sub-index-in-loop-place
overflow_sub-index-in-loop-place c =
    let low : c.loop-place.place < length c.in-Some.positions.now = omega (arith, c.loop-place-test.true, c.len-place-end.ensures) in
    let n = next_at c.args.client c.args.after c.args.first c.args.entries.now c.in-Some.positions.now c.loop-place.place c.at.result c.loop-place.slots.items (slots_after c.args.client c.args.first c.args.entries.now c.args.slots.now.items) c.loop-place.invariant.goes_on low c.at.ensures in
    let is = n.is in
    let within = n.within in
    omega (arith, is)

pub entry_at-entry-requires : goal.entry_at-entry-requires
entry_at-entry-requires c =
    let low : c.loop-place.place < length c.in-Some.positions.now = omega (arith, c.loop-place-test.true, c.len-place-end.ensures) in
    let n = next_at c.args.client c.args.after c.args.first c.args.entries.now c.in-Some.positions.now c.loop-place.place c.at.result c.loop-place.slots.items (slots_after c.args.client c.args.first c.args.entries.now c.args.slots.now.items) c.loop-place.invariant.goes_on low c.at.ensures in
    let is = n.is in
    let within = n.within in
    omega (arith, is, within)

pub overflow_add-first : goal.overflow_add-first
overflow_add-first c =
    let low : c.loop-place.place < length c.in-Some.positions.now = omega (arith, c.loop-place-test.true, c.len-place-end.ensures) in
    let n = next_at c.args.client c.args.after c.args.first c.args.entries.now c.in-Some.positions.now c.loop-place.place c.at.result c.loop-place.slots.items (slots_after c.args.client c.args.first c.args.entries.now c.args.slots.now.items) c.loop-place.invariant.goes_on low c.at.ensures in
    let is = n.is in
    let within = n.within in
    omega (arith, is, within, c.requires.fits)

pub loop-place-preserved : goal.loop-place-preserved
loop-place-preserved c =
    let low : c.loop-place.place < length c.in-Some.positions.now = omega (arith, c.loop-place-test.true, c.len-place-end.ensures) in
    let n = next_at c.args.client c.args.after c.args.first c.args.entries.now c.in-Some.positions.now c.loop-place.place c.at.result c.loop-place.slots.items (slots_after c.args.client c.args.first c.args.entries.now c.args.slots.now.items) c.loop-place.invariant.goes_on low c.at.ensures in
    let is = n.is in
    let within = n.within in
    let e = c.entry_at-entry.result.now in
    let place : c.at.result - c.args.after - 1 ≡ n.index = omega (arith, is) in
    let its : e ≡ get_or c.args.entries.now n.index e = c.entry_at-entry.ensures ∙ ap (λ (k : ℕ). get_or c.args.entries.now k e) place in
    let kept : c.keep_slot.new.slots.items ≡ window_with c.loop-place.slots.items e.number (c.args.first + n.index) =
    c.keep_slot.ensures.slots ∙ ap (λ (s : ℕ × ℕ). window_with c.loop-place.slots.items s.0 s.1) c.new.ensures ∙ ap (λ (k : ℕ). window_with c.loop-place.slots.items e.number (c.args.first + k)) place in
    record {
      few = c.keep_slot.ensures.few;
      goes_on = subst (λ (xs : Slots). GoesOn c.args.client c.args.after c.args.first c.args.entries.now (drop (c.loop-place.place + 1) c.in-Some.positions.now) xs (slots_after c.args.client c.args.first c.args.entries.now c.args.slots.now.items)) (sym kept) (n.on e its);
    }

pub returns-clause-slots : goal.returns-clause-slots
returns-clause-slots c =
    let all : length c.in-Some.positions.now ≤ c.loop-place.place = omega (arith, c.loop-place-test.false, c.len-place-end.ensures) in
    ends_at c.args.client c.args.after c.args.first c.args.entries.now c.in-Some.positions.now c.loop-place.place c.loop-place.slots.items (slots_after c.args.client c.args.first c.args.entries.now c.args.slots.now.items) c.loop-place.invariant.goes_on all
