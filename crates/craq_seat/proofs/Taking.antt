-- A journal with one more record, and a cell after one more step.
use Rattle.std.proofs.Common.{◌≡◌, ◌<◌, ◌≤◌, ◌⊎◌, ℕ, ◌+◌, ◌-◌, ◌++◌, List, [], ◌∷◌, length, Option, Some, None, Result, Ok, Err, refl, sym, ap, subst, arith, ◌∙◌, length-append, inl, inr}
use Rattle.std.specs.Prelude.{slice_get, IsSome}
use Rattle.std.specs.Option.{option_map}
use Rattle.std.proofs.lemmas.Option.{slice_get_read}
use Rattle.std.proofs.Math.Seq.{get_or-append_seam}
use Rattle.craq_names.specs.Order.{RefusesWhere}
use Rattle.craq_names.specs.declared.refusal.Refusal.{Refusal}
use Rattle.craq_model.specs.declared.step.Step.{Step}
use Rattle.craq_seat.specs.declared.journal.Opening.{Opening}
use Rattle.craq_seat.specs.declared.journal.Receipt.{Receipt}
use Rattle.craq_seat.specs.declared.journal.Record.{Record}
use Rattle.craq_seat.specs.Cells.{CanWant, Celled, Takes, TakesFor, cell_step}
use Rattle.craq_seat.specs.Journal.{AreStamped, Replays, RisesTo, Stands, Stepping}
use Rattle.craq_seat.specs.Stamps.{next_stamp}

pub replays_more : {N E : Type 0} (step : Stepping N E) (first next last : N) (rs : List (Record E)) (r : Record E) → Replays step first rs next → step next r.event ≡ Ok (last, r.step) → Replays step first (rs ++ r ∷ []) last
replays_more step first next last [] r is s = (last, rw is at s, refl)
replays_more step first next last (x ∷ rs) r (n, s, rest) t = (n, s, replays_more step n next last rs r rest t)

pub stamps_more : {E : Type 0} (bears : E → ℕ) (low high : ℕ) (rs : List (Record E)) (r : Record E) → AreStamped bears low rs high → next_stamp high r.pass (bears r.event) ≡ Ok r.stamp → AreStamped bears low (rs ++ r ∷ []) r.stamp
stamps_more bears low high [] r is s = (subst (λ n. next_stamp n r.pass (bears r.event) ≡ Ok r.stamp) is s, refl)
stamps_more bears low high (x ∷ rs) r (first, rest) s = (first, stamps_more bears x.stamp high rs r rest s)

-- the next stamp is above the last
pub above : (own pass borne stamp : ℕ) → next_stamp own pass borne ≡ Ok stamp → own < stamp
unfolding next_stamp
above own pass borne stamp h = grind arith

-- the next stamp is at least 1
pub from_one : (own pass borne stamp : ℕ) → next_stamp own pass borne ≡ Ok stamp → 1 ≤ stamp
from_one own pass borne stamp h = let up = above own pass borne stamp h in omega arith

-- so stamps ascend
pub stamps_rise : {E : Type 0} (bears : E → ℕ) (first last : ℕ) (rs : List (Record E)) → AreStamped bears first rs last → RisesTo first rs last
stamps_rise bears first last [] is = is
stamps_rise bears first last (r ∷ rs) (next, rest) =
    (above first r.pass (bears r.event) r.stamp next, stamps_rise bears r.stamp last rs rest)

-- the last of a list with one more element
pub last_more : {X : Type 0} (xs : List X) (x : X) → slice_get (xs ++ x ∷ []) (length (xs ++ x ∷ []) - 1) ≡ Some x
last_more xs x =
    let n : length (xs ++ x ∷ []) ≡ length xs + 1 = length-append xs (x ∷ []) in
    let at : length (xs ++ x ∷ []) - 1 ≡ length xs = omega arith in
    rw at (slice_get_read (xs ++ x ∷ []) (length (xs ++ x ∷ [])) (length xs) x refl (omega arith) (sym (get_or-append_seam xs x [] x)))

-- the core stands for the replay of the longer journal
pub stands_more : {C N E : Type 0} (R : C → N → Type 0) (step : Stepping N E) (first : N) (c d : C) (rs : List (Record E)) (r : Record E) → Stands R step first c (Some rs) → ((n : N) → R c n → (m : N) × (step n r.event ≡ Ok (m, r.step)) × R d m) → Stands R step first d (Some (rs ++ r ∷ []))
stands_more R step first c d rs r (n, replayed, is) go =
    let s = go n is in (s.0, replays_more step first n s.0 rs r replayed s.1, s.2)

-- if one core stands for a node, another core does too
pub stands_still : {C N E : Type 0} (R : C → N → Type 0) (step : Stepping N E) (first : N) (c d : C) (journal : Option (List (Record E))) → Stands R step first c journal → ((n : N) → R c n → R d n) → Stands R step first d journal
stands_still R step first c d None (n, is) go = (n, go n is)
stands_still R step first c d (Some rs) (n, replayed, is) go = (n, replayed, go n is)

abbrev pub cell_of : {N E : Type 0} → Opening → N → ℕ → Option (List (Record E)) → Option Step → Celled N E
cell_of opening inside stamp journal last = record { opening = opening; inside = inside; stamp = stamp; journal = journal; last = last }

-- there is no next stamp
pub no_stamp : {N E : Type 0} (step : Stepping N E) (c : Celled N E) (event : E) (borne pass : ℕ) (e : Refusal) → next_stamp c.stamp pass borne ≡ Err e → cell_step step c event borne pass ≡ Err e
unfolding cell_step
no_stamp step c event borne pass e h = rw h refl

-- there is a next stamp, and the step is refused
pub no_step : {N E : Type 0} (step : Stepping N E) (c : Celled N E) (event : E) (borne pass stamp : ℕ) (e : Refusal) → next_stamp c.stamp pass borne ≡ Ok stamp → step c.inside event ≡ Err e → cell_step step c event borne pass ≡ Err e
unfolding cell_step
no_step step c event borne pass stamp e h s = rw (h, s) refl

-- the step is recorded in the journal
pub takes_noted : {N E : Type 0} (step : Stepping N E) (o : Opening) (n m : N) (own : ℕ) (rs items : List (Record E)) (last : Option Step) (event : E) (borne pass stamp : ℕ) (s : Step) (can : Type 0) → next_stamp own pass borne ≡ Ok stamp → items ≡ rs ++ record { stamp = stamp; event = event; pass = pass; step = s } ∷ [] → step n event ≡ Ok (m, s) → Takes (cell_of o n own (Some rs) last) (cell_of o m stamp (Some items) (option_map (λ r. r.step) (slice_get items (length items - 1)))) (Ok (record { node = o.name.node; stamp = stamp })) can (cell_step step (cell_of o n own (Some rs) last) event borne pass)
unfolding cell_step
takes_noted step o n m own rs items last event borne pass stamp s can h is t =
    rw is (rw (last_more rs (record { stamp = stamp; event = event; pass = pass; step = s })) (rw (h, t) refl, refl))

-- the step is kept alone
pub takes_alone : {N E : Type 0} (step : Stepping N E) (o : Opening) (n m : N) (own : ℕ) (last : Option Step) (event : E) (borne pass stamp : ℕ) (s : Step) (can : Type 0) → next_stamp own pass borne ≡ Ok stamp → step n event ≡ Ok (m, s) → Takes (cell_of o n own None last) (cell_of o m stamp None (Some s)) (Ok (record { node = o.name.node; stamp = stamp })) can (cell_step step (cell_of o n own None last) event borne pass)
unfolding cell_step
takes_alone step o n m own last event borne pass stamp s can h t = (rw (h, t) refl, refl)

-- there is a next stamp, and the step is refused, or memory ran out where it can
pub refusal_kept : {N E : Type 0} (step : Stepping N E) (c : Celled N E) (event : E) (borne pass stamp : ℕ) (e : Refusal) (can inside : Type 0) → next_stamp c.stamp pass borne ≡ Ok stamp → (can → IsSome c.journal ⊎ inside) → RefusesWhere can e (step c.inside event) → RefusesWhere (CanWant c borne pass inside) e (cell_step step c event borne pass)
refusal_kept step c event borne pass stamp e can inside h want (inl memory) = inl (memory.0, (rw h refl, want memory.1))
refusal_kept step c event borne pass stamp e can inside h want (inr refused) = inr (no_step step c event borne pass stamp e h refused)

-- so the cell of a core refuses, and the core stands for the same node
pub refuses : {C N E : Type 0} (R : C → N → Type 0) (step : Stepping N E) (o : Opening) (core : C) (n : N) (own : ℕ) (journal : Option (List (Record E))) (last : Option Step) (event : E) (borne pass stamp : ℕ) (e : Refusal) (can inside : Type 0) → next_stamp own pass borne ≡ Ok stamp → (can → IsSome journal ⊎ inside) → RefusesWhere can e (step n event) × R core n → TakesFor R (cell_of o core own journal last) (cell_of o n own journal last) (Err e) (CanWant (cell_of o n own journal last) borne pass inside) (cell_step step (cell_of o n own journal last) event borne pass)
refuses R step o core n own journal last event borne pass stamp e can inside h want (a, r) =
    (n, (refusal_kept step (cell_of o n own journal last) event borne pass stamp e can inside h want a, refl), r)

-- so a cell whose core stands only for itself refuses
pub refused : {N E : Type 0} (step : Stepping N E) (o : Opening) (n m : N) (own : ℕ) (journal : Option (List (Record E))) (last : Option Step) (event : E) (borne pass stamp : ℕ) (e : Refusal) (can inside : Type 0) → next_stamp own pass borne ≡ Ok stamp → (can → IsSome journal ⊎ inside) → RefusesWhere can e (step n event) × (m ≡ n) → Takes (cell_of o n own journal last) (cell_of o m own journal last) (Err e) (CanWant (cell_of o n own journal last) borne pass inside) (cell_step step (cell_of o n own journal last) event borne pass)
refused step o n m own journal last event borne pass stamp e can inside h want (a, same) =
    (refusal_kept step (cell_of o n own journal last) event borne pass stamp e can inside h want a, ap (λ x. cell_of o x own journal last) same)

-- a refusal is passed on
pub passed : {N E : Type 0} (old new : Celled N E) (r : Result Receipt Refusal) (e : Refusal) (can : Type 0) (wanted : Result (Celled N E) Refusal) → (x : Refusal) × (r ≡ Err x) × (x ≡ e) → Takes old new (Err e) can wanted → Takes old new r can wanted
passed old new r e can wanted p h = subst (λ s. Takes old new s can wanted) (sym (p.1 ∙ ap Err p.2)) h
