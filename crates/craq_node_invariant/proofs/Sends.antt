-- The sends of a sound node have an encoding if their counts fit.
use Rattle.std.proofs.Common.{◌≡◌, ◌≤◌, ◌<◌, ℕ, ◌+◌, ◌-◌, ◌*◌, ◌==◌, nat_le, true, cond, min, take, drop, ap, ◌∙◌, length-drop, List, [], ◌∷◌, ◌++◌, Option, Some, None, map, length, refl, arith}
use Rattle.std.proofs.lemmas.Bool.{cond_both, and_parts, leb-true, leb-false, eqb-false}
use Rattle.std.specs.List.{AllByRecursion}
use Rattle.std.specs.Slice.Iter.{chunk_count}
use Rattle.std.proofs.lemmas.List.{length-take}
use Rattle.craq_names.specs.Limits.{greatest_count}
use Rattle.craq_names.proofs.Lists.{all_append, all_map, all_drop, all_take}
use Rattle.craq_commands.specs.declared.entry.Entry.{Entry}
use Rattle.craq_commands.specs.declared.state.State.{State}
use Rattle.craq_model.specs.declared.message.Body.{Body}
use Rattle.craq_model.specs.declared.message.Body.TheVariants as bodies
use Rattle.craq_model.specs.declared.step.Out.{Out}
use Rattle.craq_model.specs.declared.waiting.WaitingRead.{WaitingRead}
use Rattle.craq_model.specs.Members.{last_of}
use Rattle.craq_model.specs.Node.{out_fits}
use Rattle.craq_model.specs.Plain.{Plain, id_of, successor, predecessor, is_last, length_of, entries_after}
use Rattle.craq_model.specs.Sends.{send, send_all, to_neighbour, runs_of, run_body, entry_bodies, copy_bodies, catch_up, queries, ready_sends, unready_sends, tick_sends}
use Rattle.craq_model.specs.Encodable.{IsEncodableEntry, IsEncodableState, IsEncodablePart, IsEncodableBatch}
use Rattle.craq_model.specs.Parts.{item_count, parts_of}
use Rattle.craq_node_invariant.specs.Sound.{AreInRow, IsSoundState, IsSound, IsEncodableOut}
use Rattle.craq_node_invariant.proofs.Rows.{row_take, row_drop, row_consecutive}
use Rattle.craq_node_invariant.proofs.Shares.{all_range, parts_are}
use Rattle.craq_node_invariant.proofs.Neighbours.{IsIdIfAny, successor_is, predecessor_is, last_is}

-- the out has an encoding if its counts fit
abbrev pub IsEncodableIfFitting : Out → Type 0
IsEncodableIfFitting o = out_fits o ≡ true → IsEncodableOut o

abbrev pub AreEncodableIfFitting : List Out → Type 0
AreEncodableIfFitting os = AllByRecursion IsEncodableIfFitting os

-- a node may send this if its counts fit
abbrev pub IsSayable : Body → Type 0
IsSayable (bodies.Config members) = ⊥
IsSayable (bodies.Entry e) = IsEncodableEntry e
IsSayable (bodies.Ack position) = Unit {0}
IsSayable (bodies.Query ticket key) = 1 ≤ ticket
IsSayable (bodies.VersionIs ticket version) = 1 ≤ ticket
IsSayable (bodies.Blank count) = Unit {0}
IsSayable (bodies.Copy position state) = (1 ≤ position) × IsSoundState state
IsSayable (bodies.Part part) = IsEncodablePart part
IsSayable (bodies.Batch es) = IsEncodableBatch es
IsSayable (bodies.Floor count) = Unit {0}

-- a node that is in a membership
abbrev pub Speaks : Plain → Type 0
Speaks p = (1 ≤ id_of p) × (1 ≤ p.epoch)

pub sent : (p : Plain) (to : ℕ) (b : Body) → Speaks p → 1 ≤ to → IsSayable b → IsEncodableIfFitting (send p to b)
sent p to (bodies.Config members) w t s = absurd s
sent p to (bodies.Entry e) w t s = λ f. (record { sender = w.0; receiver = t; stamp = omega arith; epoch = w.1; body = s }, refl)
sent p to (bodies.Ack position) w t s = λ f. (record { sender = w.0; receiver = t; stamp = omega arith; epoch = w.1; body = tt }, refl)
sent p to (bodies.Query ticket key) w t s = λ f. (record { sender = w.0; receiver = t; stamp = omega arith; epoch = w.1; body = s }, refl)
sent p to (bodies.VersionIs ticket version) w t s = λ f. (record { sender = w.0; receiver = t; stamp = omega arith; epoch = w.1; body = s }, refl)
sent p to (bodies.Blank count) w t s = λ f. (record { sender = w.0; receiver = t; stamp = omega arith; epoch = w.1; body = tt }, refl)
sent p to (bodies.Floor count) w t s = λ f. (record { sender = w.0; receiver = t; stamp = omega arith; epoch = w.1; body = tt }, refl)
sent p to (bodies.Part part) w t s = λ f. (record { sender = w.0; receiver = t; stamp = omega arith; epoch = w.1; body = s }, refl)
sent p to (bodies.Batch es) w t s = λ f. (record { sender = w.0; receiver = t; stamp = omega arith; epoch = w.1; body = s }, refl)
sent p to (bodies.Copy position c) w t s = λ f.
    let fit : (nat_le (length c.objects) greatest_count ≡ true) × (nat_le (length c.kept) greatest_count ≡ true) =
    and_parts (nat_le (length c.objects) greatest_count) (nat_le (length c.kept) greatest_count) f
    in
    let state : IsEncodableState c = record {
      few_objects = leb-true (length c.objects) greatest_count fit.0;
      few_kept = leb-true (length c.kept) greatest_count fit.1;
      versions = (s.1).versions;
      windows = (s.1).windows;
      keys_rise = (s.1).keys_rise;
      clients_rise = (s.1).clients_rise;
    } in
    (record { sender = w.0; receiver = t; stamp = omega arith; epoch = w.1; body = (s.0, state) }, refl)

pub all_sent : (p : Plain) (to : ℕ) (bs : List Body) → Speaks p → 1 ≤ to → AllByRecursion IsSayable bs → AreEncodableIfFitting (send_all p to bs)
all_sent p to [] w t a = tt
all_sent p to (b ∷ bs) w t a = (sent p to b w t a.0, all_sent p to bs w t a.1)

pub neighbour_sent : (o : Option ℕ) (sends : ℕ → List Out) → IsIdIfAny o → ((to : ℕ) → 1 ≤ to → AreEncodableIfFitting (sends to)) → AreEncodableIfFitting (to_neighbour o sends)
neighbour_sent None sends a f = tt
neighbour_sent (Some to) sends a f = f to a

-- a run of up to 16 consecutive entries
run_sayable : (n : ℕ) (es : List Entry) → 1 ≤ length es → length es ≤ 16 → AllByRecursion IsEncodableEntry es → AreInRow n es → IsSayable (run_body es)
run_sayable n [] some few a r = absurd (omega (arith, some))
run_sayable n (e ∷ []) some few a r = a.0
run_sayable n (e ∷ f ∷ es) some few a r = record { several = omega arith; few = few; entries = a; consecutive = row_consecutive n (e ∷ f ∷ es) r }

run_begins : (n i : ℕ) → i < 0 + chunk_count n 16 → 16 * i < n
run_begins n i h = omega (arith, h)

-- consecutive entries, in runs
pub entries_sayable : (n : ℕ) (es : List Entry) → AllByRecursion IsEncodableEntry es → AreInRow n es → AllByRecursion IsSayable (entry_bodies es)
unfolding entry_bodies runs_of
entries_sayable n es a r =
    all_map IsSayable run_body (runs_of es)
    (all_range (λ (run : List Entry). IsSayable (run_body run)) (λ i. take 16 (drop (16 * i) es)) 0 (chunk_count (length es) 16)
    (λ i l u.
    let start : 16 * i < length es = run_begins (length es) i u in
    let count : length (take 16 (drop (16 * i) es)) ≡ min 16 (length es - 16 * i) = length-take 16 (drop (16 * i) es) ∙ ap (min 16) (length-drop (16 * i) es) in
    run_sayable (n + 16 * i) (take 16 (drop (16 * i) es)) (omega (arith, count, start)) (omega (arith, count)) (all_take IsEncodableEntry 16 (drop (16 * i) es) (all_drop IsEncodableEntry (16 * i) es a))
    (row_take (n + 16 * i) 16 (drop (16 * i) es) (row_drop n (16 * i) es r))))

pub copy_sayable : (position : ℕ) (s : State) → 1 ≤ position → IsSoundState s → AllByRecursion IsSayable (copy_bodies position s)
unfolding copy_bodies
copy_sayable position s h i =
    cond_both (nat_le (item_count s) 64) (bodies.Copy position s ∷ []) (map bodies.Part (parts_of position s)) (λ (bs : List Body). AllByRecursion IsSayable bs)
    (λ e. ((h, i), tt))
    (λ e. all_map IsSayable bodies.Part (parts_of position s) (parts_are position s h i (leb-false (item_count s) 64 e)))

pub catch_up_sayable : (p : Plain) (position : ℕ) → IsSound p → AllByRecursion IsSayable (catch_up p position)
unfolding catch_up entries_after
catch_up_sayable p position s =
    all_append IsSayable (entry_bodies (entries_after p position)) (bodies.Floor (length_of p) ∷ [])
    (entries_sayable (p.past.base + 1 + (position - p.past.base)) (entries_after p position) (all_drop IsEncodableEntry (position - p.past.base) p.past.entries s.entries) (row_drop (p.past.base + 1) (position - p.past.base) p.past.entries s.placed))
    (tt, tt)

queries_sent : (p : Plain) → Speaks p → 1 ≤ last_of p.members → (rs : List WaitingRead) → AllByRecursion (λ (r : WaitingRead). 1 ≤ r.ticket) rs
    → AreEncodableIfFitting (map (λ (r : WaitingRead). send p (last_of p.members) (bodies.Query r.ticket r.key)) rs)
queries_sent p w t [] a = tt
queries_sent p w t (r ∷ rs) a = (sent p (last_of p.members) (bodies.Query r.ticket r.key) w t a.0, queries_sent p w t rs a.1)

pub last_member_is : (p : Plain) → IsSound p → 1 ≤ p.epoch → 1 ≤ last_of p.members
last_member_is p s e = last_is p.members s.ids (s.known e)

pub ack_sent : (p : Plain) (position : ℕ) → IsSound p → Speaks p → AreEncodableIfFitting (to_neighbour (predecessor p) (λ to. send p to (bodies.Ack position) ∷ []))
ack_sent p position s w =
    neighbour_sent (predecessor p) (λ to. send p to (bodies.Ack position) ∷ []) (predecessor_is p.members (id_of p) s.ids) (λ to t. (sent p to (bodies.Ack position) w t tt, tt))

ready_sent : (p : Plain) → IsSound p → Speaks p → AreEncodableIfFitting (ready_sends p)
unfolding ready_sends
ready_sent p s w =
    let first : List Out = to_neighbour (successor p) (λ to. send_all p to (catch_up p p.past.acknowledged)) in
    let second : List Out = to_neighbour (predecessor p) (λ to. send p to (bodies.Ack p.past.acknowledged) ∷ []) in
    let third : List Out = cond (is_last p) [] (queries p) in
    all_append IsEncodableIfFitting (first ++ second) third
    (all_append IsEncodableIfFitting first second
    (neighbour_sent (successor p) (λ to. send_all p to (catch_up p p.past.acknowledged)) (successor_is p.members (id_of p) s.ids)
    (λ to t. all_sent p to (catch_up p p.past.acknowledged) w t (catch_up_sayable p p.past.acknowledged s)))
    (ack_sent p p.past.acknowledged s w))
    (cond_both (is_last p) [] (queries p) (λ (os : List Out). AreEncodableIfFitting os) (λ e. tt) (λ e. queries_sent p w (last_member_is p s w.1) p.waiting_reads s.tickets))

unready_sent : (p : Plain) → IsSound p → Speaks p → AreEncodableIfFitting (unready_sends p)
unfolding unready_sends
unready_sent p s w =
    neighbour_sent (predecessor p) (λ to. send p to (bodies.Blank (length_of p)) ∷ []) (predecessor_is p.members (id_of p) s.ids) (λ to t. (sent p to (bodies.Blank (length_of p)) w t tt, tt))

pub tick_sent : (p : Plain) → IsSound p → AreEncodableIfFitting (tick_sends p)
unfolding tick_sends
tick_sent p s =
    cond_both (p.epoch == 0) [] (cond p.ready (ready_sends p) (unready_sends p)) (λ (os : List Out). AreEncodableIfFitting os) (λ e. tt)
    (λ e.
    let none : p.epoch ≡ 0 → ⊥ = eqb-false p.epoch 0 e in
    let w : Speaks p = (s.own, omega (arith, none)) in
    cond_both p.ready (ready_sends p) (unready_sends p) (λ (os : List Out). AreEncodableIfFitting os) (λ r. ready_sent p s w) (λ r. unready_sent p s w))
