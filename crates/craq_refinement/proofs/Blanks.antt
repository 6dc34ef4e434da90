-- A node sends its successor what it lacks.
use Rattle.std.proofs.Common.{◌≡◌, ℕ, zero, suc, ◌+◌, ◌-◌, ◌≤◌, nat_le, nat_lt, max, true, not, cond, List, [], ◌∷◌, ◌++◌, map, length, take, Some, None, refl, ap, sym, ◌∙◌, arith}
use Rattle.std.proofs.lemmas.Bool.{cond_both, not-false}
use Rattle.std.proofs.lemmas.List.{length-take-le}
use Rattle.std.specs.List.{AllByRecursion, range_with_len}
use Rattle.craq_names.specs.Limits.{part_limit}
use Rattle.craq_names.proofs.Lists.{all_append}
use Rattle.craq_commands.specs.declared.entry.Entry.{Entry}
use Rattle.craq_commands.specs.declared.state.State.{State}
use Rattle.craq_commands.specs.SingleCopy.{opening_state, after_entries}
use Rattle.craq_commands.proofs.Entries.{after_entries-append}
use Rattle.craq_model.specs.declared.message.Body.{Body}
use Rattle.craq_model.specs.declared.message.Body.TheVariants as bodies
use Rattle.craq_model.specs.declared.message.LinkMessage.{LinkMessage}
use Rattle.craq_model.specs.declared.step.Why.TheVariants.{NotNeighbour, NotReadyHere}
use Rattle.craq_model.specs.Members.{is_id}
use Rattle.craq_model.specs.Parts.{item_count, part_count, part_of, parts_of}
use Rattle.craq_model.specs.Plain.{Plain, id_of, successor, clean}
use Rattle.craq_model.specs.Sends.{send_all, copy_bodies, catch_up}
use Rattle.craq_model.specs.Settle.{Transition, transition_ignoring, transition_with}
use Rattle.craq_model.specs.Deliveries.{fill_bodies, blank_transition, transition_in_epoch}
use Rattle.craq_protocol.specs.Members.{is_next}
use Rattle.craq_protocol.specs.Machine.{MachineState, known_membership}
use Rattle.craq_protocol.specs.Promises.{IsReached, IsSafe}
use Rattle.craq_protocol.proofs.Reached.{reached_safe}
use Rattle.craq_runs.specs.Chain.{Chain}
use Rattle.craq_refinement.specs.Follows.{IsHistory, seen_of, NodeFollows}
use Rattle.craq_refinement.specs.Lines.{IsNothing}
use Rattle.craq_refinement.proofs.Members.{is_id-some}
use Rattle.craq_refinement.proofs.Lists.{placed_take}
use Rattle.craq_refinement.proofs.Sends.{IsPartAfter, BodySendable}
use Rattle.craq_refinement.proofs.Stages.{TransitionFollows, stage_transition, stage_before}
use Rattle.craq_refinement.proofs.Ticks.{sendable_all, catch_up_sendable}
use Rattle.craq_refinement.proofs.Here.{Here, here_node, guard, in_epoch, next_is_succ}

take_past : (front es : List Entry) (k : ℕ) → length front ≤ k → take k (front ++ es) ≡ front ++ take (k - length front) es
take_past [] es k le = let same : k ≡ k - 0 = omega arith in ap (λ j. take j es) same
take_past (x ∷ front) es zero le = absurd (omega arith)
take_past (x ∷ front) es (suc k) le =
    let same : k - length front ≡ suc k - suc (length front) = omega arith in
    ap (λ l. x ∷ l) (take_past front es k (omega arith) ∙ ap (λ j. front ++ take j es) same)

-- the state that a node sends is that after the entries that it knows to be committed
clean_is : {w : MachineState Entry} (p : Plain) → NodeFollows w (seen_of p) → after_entries opening_state (take (w.acknowledged (id_of p)) (w.history (id_of p))) ≡ clean p
unfolding clean
clean_is {w} p n =
    let h : IsHistory p.past.base p.past.base_state p.past.entries (w.history (id_of p)) = n.history in
    let k : ℕ = p.past.acknowledged in
    let one : take (w.acknowledged (id_of p)) (w.history (id_of p)) ≡ take k (h.front ++ p.past.entries) =
    ap (λ j. take j (w.history (id_of p))) n.acknowledged ∙ ap (take k) (sym h.whole) in
    let two : take k (h.front ++ p.past.entries) ≡ h.front ++ take (k - length h.front) p.past.entries = take_past h.front p.past.entries k (omega (arith, n.based, h.count)) in
    let three : k - length h.front ≡ k - p.past.base = omega (arith, h.count) in
    ap (after_entries opening_state) (one ∙ two)
    ∙ (after_entries-append opening_state h.front (take (k - length h.front) p.past.entries)
    ∙ (ap (λ s. after_entries s (take (k - length h.front) p.past.entries)) h.after ∙ ap (λ j. after_entries p.past.base_state (take j p.past.entries)) three))

-- each part of the state
part_is : {w : MachineState Entry} (p : Plain) → NodeFollows w (seen_of p) → IsReached w → (i : ℕ) → 1 ≤ i → i ≤ part_count (clean p)
    → IsPartAfter (take (w.acknowledged (id_of p)) (w.history (id_of p))) (part_of p.past.acknowledged (clean p) i)
part_is {w} p n r i first last =
    let s : IsSafe w = reached_safe r in
    let id : ℕ = id_of p in
    record {
      count = length-take-le (w.acknowledged id) (w.history id) (s.acknowledged id).0 ∙ n.acknowledged;
      placed = placed_take 0 (w.acknowledged id) (w.history id) n.placed;
      first = first;
      last = last;
      share = ap (λ (state : State). part_of p.past.acknowledged state i) (clean_is p n);
    }

parts_between : {w : MachineState Entry} (p : Plain) → NodeFollows w (seen_of p) → IsReached w → (to : ℕ) → is_next (known_membership w (id_of p)) (id_of p) to ≡ true
    → (a n : ℕ) → 1 ≤ a → a + n ≤ part_count (clean p) + 1 → AllByRecursion (BodySendable w (id_of p) to) (map bodies.Part (map (part_of p.past.acknowledged (clean p)) (range_with_len a n)))
parts_between p f r to nx a zero first last = tt
parts_between p f r to nx a (suc n) first last =
    ((nx, part_is p f r a first (omega (arith, last))), parts_between p f r to nx (a + 1) n (omega (arith, first)) (omega (arith, last)))

copy_sendable : {w : MachineState Entry} (p : Plain) → NodeFollows w (seen_of p) → IsReached w → (to : ℕ) → is_next (known_membership w (id_of p)) (id_of p) to ≡ true
    → AllByRecursion (BodySendable w (id_of p) to) (copy_bodies p.past.acknowledged (clean p))
unfolding copy_bodies parts_of
copy_sendable {w} p n r to nx =
    let s : IsSafe w = reached_safe r in
    let id : ℕ = id_of p in
    let B : Body → Type 0 = BodySendable w id to in
    cond_both (nat_le (item_count (clean p)) part_limit) (bodies.Copy p.past.acknowledged (clean p) ∷ []) (map bodies.Part (parts_of p.past.acknowledged (clean p))) (λ (bs : List Body). AllByRecursion B bs)
    (λ e. ((nx, length-take-le (w.acknowledged id) (w.history id) (s.acknowledged id).0 ∙ n.acknowledged, clean_is p n, placed_take 0 (w.acknowledged id) (w.history id) n.placed), tt))
    (λ e. parts_between p n r to nx 1 (part_count (clean p)) (omega arith) (omega arith))

fill_sendable : {w : MachineState Entry} (p : Plain) → NodeFollows w (seen_of p) → IsReached w → p.ready ≡ true → (to count : ℕ) → is_next (known_membership w (id_of p)) (id_of p) to ≡ true
    → AllByRecursion (BodySendable w (id_of p) to) (fill_bodies p count)
unfolding fill_bodies
fill_sendable {w} p n r ready to count nx =
    let B : Body → Type 0 = BodySendable w (id_of p) to in
    let first : List Body = cond (nat_lt count p.past.acknowledged) (copy_bodies p.past.acknowledged (clean p)) [] in
    let second : List Body = catch_up p (max count p.past.acknowledged) in
    all_append B first second
    (cond_both (nat_lt count p.past.acknowledged) (copy_bodies p.past.acknowledged (clean p)) [] (λ (bs : List Body). AllByRecursion B bs) (λ e. copy_sendable p n r to nx) (λ e. tt))
    (catch_up_sendable p n ready (max count p.past.acknowledged) to nx)

pub blank_follows : {c : Chain} {w : MachineState Entry} (p : Plain) → Here c w p → IsReached w → (m : LinkMessage) (count : ℕ)
    → TransitionFollows IsNothing c w (transition_in_epoch p m (blank_transition p m.sender count))
unfolding blank_transition
blank_follows {c} {w} p h r m count =
    let none : IsNothing [] = refl in
    let last : Transition = transition_with p (send_all p m.sender (fill_bodies p count)) in
    let first : Transition = cond (not p.ready) (transition_ignoring p NotReadyHere) last in
    in_epoch p h none m (blank_transition p m.sender count)
    (λ ep. guard p h none (not (is_id (successor p) m.sender)) NotNeighbour first
    (λ a. guard p h none (not p.ready) NotReadyHere last
    (λ b.
    let su : successor p ≡ Some m.sender = is_id-some (successor p) m.sender (not-false (is_id (successor p) m.sender) a) in
    stage_transition h.follows (stage_before h.follows p h.at h.running) none (record { ticket = None; outs = send_all p m.sender (fill_bodies p count); ignored = None })
    (sendable_all p (here_node p h) m.sender (fill_bodies p count) (fill_sendable p (here_node p h) r (not-false p.ready b) m.sender count (next_is_succ p h m.sender su))))))
