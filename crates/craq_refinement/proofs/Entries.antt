-- A node takes entries.
use Rattle.std.proofs.Common.{◌≡◌, inl, inr, ℕ, suc, ◌+◌, ◌<◌, ◌≤◌, nat_le, nat_lt, true, false, not, cond, ◌&&◌, List, [], ◌∷◌, ◌++◌, map, length, Some, None, refl, ap, sym, subst, ◌∙◌, arith, append_assoc, length-append}
use Rattle.std.proofs.lemmas.Bool.{cond_both, not-false, leb-false, ltb-false}
use Rattle.std.specs.List.{AllByRecursion}
use Rattle.craq_commands.specs.declared.entry.Entry.{Entry}
use Rattle.craq_model.specs.declared.message.Body.TheVariants as bodies
use Rattle.craq_model.specs.declared.message.LinkMessage.{LinkMessage}
use Rattle.craq_model.specs.declared.step.Why.TheVariants.{NotNeighbour, OutOfOrder, AlreadyHave, TooFar}
use Rattle.craq_model.specs.Members.{is_id}
use Rattle.craq_model.specs.Plain.{Plain, id_of, successor, predecessor, is_tail, is_last, length_of, newest, with_entries, acknowledging}
use Rattle.craq_model.specs.Sends.{send, send_all, to_neighbour, entry_bodies}
use Rattle.craq_model.specs.Settle.{Transition, transition_with, transition_ignoring, readiness_transition}
use Rattle.craq_model.specs.Asks.{with_entry}
use Rattle.craq_model.specs.Deliveries.{are_applicable, forwarding_transition, taken_entries_transition, first_position, final_position, entries_above, entries_transition, transition_in_epoch}
use Rattle.craq_protocol.specs.Members.{with_value}
use Rattle.craq_protocol.specs.Machine as machine
use Rattle.craq_protocol.specs.Machine.{MachineState, Message, MachineMove, Take, Become_ready, after_commit, after_move, after_receipt}
use Rattle.craq_protocol.specs.Promises.{Sent}
use Rattle.craq_protocol.proofs.Lists.{put_same, put_other}
use Rattle.craq_protocol.proofs.Effects.{entry_does}
use Rattle.craq_protocol.proofs.Reached.{after_moves-append}
use Rattle.craq_runs.specs.Chain.{Chain}
use Rattle.craq_refinement.specs.Follows.{IsPlaced, said, seen_of, NodeFollows}
use Rattle.craq_refinement.specs.Lines.{IsTaking, IsTakingAll}
use Rattle.craq_refinement.proofs.Members.{is_id-some}
use Rattle.craq_refinement.proofs.Lists.{all_back, placed_push}
use Rattle.craq_refinement.proofs.Rows.{placed_above, all_of_above, few_above, some_above}
use Rattle.craq_refinement.proofs.Worlds.{OnlyAt, only_trans, history_length}
use Rattle.craq_refinement.proofs.Stages.{TransitionFollows, Stage, stage_transition, stage_before, ignored_follows}
use Rattle.craq_refinement.proofs.Sends.{IsAt}
use Rattle.craq_refinement.proofs.Ticks.{AllSendable, sendable_neighbour, sendable_one, sendable_all, next_after, next_before, entries_at, runs_sendable}
use Rattle.craq_refinement.proofs.Settling.{Uncommitted, committed_stage, other_stage, readiness_follows}
use Rattle.craq_refinement.proofs.Here.{Here, guard, in_epoch, takes, with_pred_member}

-- the world with one more entry at a node
abbrev pub grown : MachineState Entry → ℕ → Entry → MachineState Entry
grown w id e = record w { history = with_value w.history id (w.history id ++ e ∷ []) }

pub grown_only : (w : MachineState Entry) (id : ℕ) (e : Entry) → OnlyAt id w (grown w id e)
grown_only w id e = record {
  memberships = refl;
  joined = refl;
  messages = refl;
  running = λ n ne. refl;
  epoch = λ n ne. refl;
  ready = λ n ne. refl;
  history = λ n ne. put_other w.history id (w.history id ++ e ∷ []) n ne;
  acknowledged = λ n ne. refl;
  floor = λ n ne. refl;
}

pub grown_node : (w : MachineState Entry) (p : Plain) (e : Entry) → NodeFollows w (seen_of p) → e.position ≡ suc (length_of p) → NodeFollows (grown w (id_of p) e) (seen_of (with_entry p e))
grown_node w p e n at =
    let id : ℕ = id_of p in
    let h : List Entry = w.history id in
    let same : with_value w.history id (h ++ e ∷ []) id ≡ h ++ e ∷ [] = put_same w.history id (h ++ e ∷ []) in
    let whole : n.history.front ++ (p.past.entries ++ e ∷ []) ≡ h ++ e ∷ [] = sym (append_assoc n.history.front p.past.entries (e ∷ [])) ∙ ap (λ l. l ++ e ∷ []) n.history.whole in
    let P : List Entry → Type 0 = λ l. IsPlaced 0 l in
    record {
      running = n.running;
      epoch = n.epoch;
      members = n.members;
      ready = n.ready;
      history = record { front = n.history.front; whole = whole ∙ sym same; count = n.history.count; after = n.history.after };
      placed = subst P (sym same) (placed_push 0 h e n.placed (omega (arith, at, history_length n.history)));
      acknowledged = n.acknowledged;
      based = n.based;
      floor = n.floor;
      gathering = n.gathering;
    }

-- the newest entries may be sent on, whatever the node knows to be committed
pub newest_sendable : {v : MachineState Entry} (p : Plain) (es : List Entry) (before known : ℕ) → IsPlaced before es → NodeFollows v (seen_of (acknowledging (with_entries p es) known))
    → AllSendable v (id_of p) (to_neighbour (successor p) (λ to. send_all p to (entry_bodies es)))
newest_sendable {v} p es before known placed n =
    let q : Plain = acknowledging (with_entries p es) known in
    sendable_neighbour v (id_of p) (successor p) (λ to. send_all p to (entry_bodies es))
    (λ to h. sendable_all q n to (entry_bodies es)
    (runs_sendable v (id_of p) to (next_after q n to h) before es placed (all_back (IsAt (v.history (id_of p))) p.past.entries es (entries_at q n))))

-- the entries were sent to the node
abbrev pub WereSent : MachineState Entry → LinkMessage → List Entry → Type 0
WereSent w m es = AllByRecursion (λ (e : Entry). Sent w.messages (said m.epoch m.sender m.receiver (machine.Entry e.position e))) es

-- the next entry is taken
took_entry : {c : Chain} {w : MachineState Entry} {own : List (MachineMove Entry)} {v : MachineState Entry} (q : Plain) → Stage c w own v q → (m : LinkMessage) → m.receiver ≡ id_of q → m.epoch ≡ q.epoch → predecessor q ≡ Some m.sender
    → (e : Entry) → e.position ≡ suc (length_of q) → Sent w.messages (said m.epoch m.sender m.receiver (machine.Entry e.position e))
    → (k : ℕ) × Uncommitted c w (own ++ Take (id_of q) k ∷ []) (grown v (id_of q) e) (with_entry q e)
took_entry {c} {w} {own} {v} q s m to ep pr e at sent =
    let id : ℕ = id_of q in
    let b : machine.MachineBody Entry = machine.Entry e.position e in
    let S : List (Message Entry) → Type 0 = λ l. Sent l (said m.epoch m.sender m.receiver b) in
    let t : (k : ℕ) × (after_move v (Take id k) ≡ after_receipt v id m.sender b) = takes q s.node s.running m b to ep (subst S (sym s.only.messages) sent) in
    let does : after_receipt v id m.sender b ≡ after_commit (grown v id e) id =
    entry_does v id m.sender e.position e (next_before q s.node m.sender pr) (omega (arith, at, history_length s.node.history)) in (
      t.0,
      record {
        was = s.was;
        at = s.at;
        is = after_moves-append own (Take id t.0 ∷ []) w ∙ (ap (λ (x : MachineState Entry). after_move x (Take id t.0)) s.is ∙ (t.1 ∙ does));
        only = only_trans s.only (grown_only v id e);
        node = grown_node v q e s.node at;
        running = s.running;
        member = λ r. with_pred_member q m.sender pr;
      },
    )

-- this number of messages was taken, and the node is then this one
record TookAll (c : Chain) (w : MachineState Entry) (own : List (MachineMove Entry)) (id count : ℕ) (q : Plain) : Type 0 where
  which : List ℕ
  many : length which ≡ count
  world : MachineState Entry
  stage : Stage c w (own ++ map (Take id) which) world q

one_longer : (q : Plain) (e : Entry) → suc (length_of q) ≡ length_of (with_entry q e)
one_longer q e = omega (arith, length-append q.past.entries (e ∷ []))

-- a tail takes entries, and commits each
tail_takes : {c : Chain} {w : MachineState Entry} (q : Plain) {own : List (MachineMove Entry)} {v : MachineState Entry} → Stage c w own v q → is_tail q ≡ true
    → (m : LinkMessage) → m.receiver ≡ id_of q → m.epoch ≡ q.epoch → predecessor q ≡ Some m.sender → (e : Entry) (es : List Entry) → IsPlaced (length_of q) (e ∷ es) → WereSent w m (e ∷ es)
    → TookAll c w own (id_of q) (suc (length es)) (acknowledging (with_entries q (e ∷ es)) (length_of (with_entries q (e ∷ es))))
tail_takes {c} {w} q {own} {v} s t m to ep pr e [] placed sent =
    let u : (k : ℕ) × Uncommitted c w (own ++ Take (id_of q) k ∷ []) (grown v (id_of q) e) (with_entry q e) = took_entry q s m to ep pr e placed.0 sent.0 in
    record { which = u.0 ∷ []; many = refl; world = after_commit (grown v (id_of q) e) (id_of q); stage = committed_stage u.1 t }
tail_takes {c} {w} q {own} {v} s t m to ep pr e (f ∷ es) placed sent =
    let id : ℕ = id_of q in
    let u : (k : ℕ) × Uncommitted c w (own ++ Take id k ∷ []) (grown v id e) (with_entry q e) = took_entry q s m to ep pr e placed.0 sent.0 in
    let next : Plain = acknowledging (with_entry q e) (length_of (with_entry q e)) in
    let P : ℕ → Type 0 = λ n. IsPlaced n (f ∷ es) in
    let rest : TookAll c w (own ++ Take id u.0 ∷ []) id (suc (length es)) (acknowledging (with_entries next (f ∷ es)) (length_of (with_entries next (f ∷ es)))) =
    tail_takes next (committed_stage u.1 t) t m to ep pr f es (subst P (one_longer q e) placed.1) sent.1
    in
    let with_all : List Entry → Plain = λ l. record q { past = record q.past { entries = l; acknowledged = q.past.base + length l } } in
    let X : List Entry → Type 0 = λ l. Stage c w ((own ++ Take id u.0 ∷ []) ++ map (Take id) rest.which) rest.world (with_all l) in
    let Y : List (MachineMove Entry) → Type 0 = λ o. Stage c w o rest.world (with_all (q.past.entries ++ e ∷ f ∷ es)) in
    record {
      which = u.0 ∷ rest.which;
      many = ap suc rest.many;
      world = rest.world;
      stage = subst Y (append_assoc own (Take id u.0 ∷ []) (map (Take id) rest.which)) (subst X (append_assoc q.past.entries (e ∷ []) (f ∷ es)) rest.stage);
    }

-- another node takes entries
other_takes : {c : Chain} {w : MachineState Entry} (q : Plain) {own : List (MachineMove Entry)} {v : MachineState Entry} → Stage c w own v q → is_tail q ≡ false
    → (m : LinkMessage) → m.receiver ≡ id_of q → m.epoch ≡ q.epoch → predecessor q ≡ Some m.sender → (e : Entry) (es : List Entry) → IsPlaced (length_of q) (e ∷ es) → WereSent w m (e ∷ es)
    → TookAll c w own (id_of q) (suc (length es)) (with_entries q (e ∷ es))
other_takes {c} {w} q {own} {v} s t m to ep pr e [] placed sent =
    let u : (k : ℕ) × Uncommitted c w (own ++ Take (id_of q) k ∷ []) (grown v (id_of q) e) (with_entry q e) = took_entry q s m to ep pr e placed.0 sent.0 in
    record { which = u.0 ∷ []; many = refl; world = after_commit (grown v (id_of q) e) (id_of q); stage = other_stage u.1 t }
other_takes {c} {w} q {own} {v} s t m to ep pr e (f ∷ es) placed sent =
    let id : ℕ = id_of q in
    let u : (k : ℕ) × Uncommitted c w (own ++ Take id k ∷ []) (grown v id e) (with_entry q e) = took_entry q s m to ep pr e placed.0 sent.0 in
    let P : ℕ → Type 0 = λ n. IsPlaced n (f ∷ es) in
    let rest : TookAll c w (own ++ Take id u.0 ∷ []) id (suc (length es)) (with_entries (with_entry q e) (f ∷ es)) =
    other_takes (with_entry q e) (other_stage u.1 t) t m to ep pr f es (subst P (one_longer q e) placed.1) sent.1
    in
    let with_all : List Entry → Plain = λ l. record q { past = record q.past { entries = l } } in
    let X : List Entry → Type 0 = λ l. Stage c w ((own ++ Take id u.0 ∷ []) ++ map (Take id) rest.which) rest.world (with_all l) in
    let Y : List (MachineMove Entry) → Type 0 = λ o. Stage c w o rest.world (with_all (q.past.entries ++ e ∷ f ∷ es)) in
    record {
      which = u.0 ∷ rest.which;
      many = ap suc rest.many;
      world = rest.world;
      stage = subst Y (append_assoc own (Take id u.0 ∷ []) (map (Take id) rest.which)) (subst X (append_assoc q.past.entries (e ∷ []) (f ∷ es)) rest.stage);
    }

-- the moves of a node that takes these messages
abbrev pub Lines : (List (MachineMove Entry) → Type 0) → ℕ → List ℕ → Type 0
Lines Own id which = Own (map (Take id) which) × Own (map (Take id) which ++ Become_ready id ∷ [])

taken : {Own : List (MachineMove Entry) → Type 0} {c : Chain} {w : MachineState Entry} (p : Plain) → Here c w p → (m : LinkMessage) → m.receiver ≡ id_of p → m.epoch ≡ p.epoch → predecessor p ≡ Some m.sender
    → (es : List Entry) → 1 ≤ length es → IsPlaced (length_of p) es → WereSent w m es → ((which : List ℕ) → length which ≡ length es → Lines Own (id_of p) which)
    → TransitionFollows Own c w (taken_entries_transition (with_entries p es) es)
unfolding forwarding_transition
taken p h m to ep pr [] some placed sent line = absurd (omega (arith, some))
taken {Own} {c} {w} p h m to ep pr (e ∷ es) some placed sent line =
    let id : ℕ = id_of p in
    let q : Plain = with_entries p (e ∷ es) in
    let last : Plain = acknowledging q (length_of q) in
    let before : Stage c w [] w p = stage_before h.follows p h.at h.running in
    let acks : ℕ → _ = λ to. send q to (bodies.Ack (length_of q)) ∷ [] in
    let entries : ℕ → _ = λ to. send_all q to (entry_bodies (e ∷ es)) in
    let tail : Transition = transition_with last (to_neighbour (predecessor q) acks) in
    let other : Transition = transition_with q (to_neighbour (successor q) entries) in
    cond_both p.ready (cond (is_tail q) tail other) (readiness_transition q) (λ (t : Transition). TransitionFollows Own c w t)
    (λ r. cond_both (is_tail q) tail other (λ (t : Transition). TransitionFollows Own c w t)
    (λ t.
    let a : TookAll c w [] id (suc (length es)) last = tail_takes p before t m to ep pr e es placed sent in
    stage_transition h.follows a.stage (line a.which a.many).0 (record { ticket = None; outs = to_neighbour (predecessor q) acks; ignored = None })
    (sendable_neighbour a.world id (predecessor q) acks (λ to h. sendable_one last a.stage.node to (bodies.Ack (length_of q)) (next_before last a.stage.node to h, a.stage.node.acknowledged))))
    (λ t.
    let a : TookAll c w [] id (suc (length es)) q = other_takes p before t m to ep pr e es placed sent in
    stage_transition h.follows a.stage (line a.which a.many).0 (record { ticket = None; outs = to_neighbour (successor q) entries; ignored = None })
    (newest_sendable p (e ∷ es) (length_of p) p.past.acknowledged placed a.stage.node)))
    (λ r.
    let a : TookAll c w [] id (suc (length es)) q = other_takes p before (ap (λ b. b && is_last q) r) m to ep pr e es placed sent in
    let lines : Lines Own id a.which = line a.which a.many in
    readiness_follows h.follows a.stage lines.0 lines.1 (with_pred_member p m.sender pr))

-- consecutive entries arrive
pub entries_follow : {Own : List (MachineMove Entry) → Type 0} {c : Chain} {w : MachineState Entry} (p : Plain) → Here c w p → (m : LinkMessage) (es : List Entry) → m.receiver ≡ id_of p
    → (length_of p < final_position es → first_position es ≤ length_of p + 1 → IsPlaced (length_of p) (entries_above (length_of p) es)) → WereSent w m es
    → Own [] → ((which : List ℕ) → 1 ≤ length which → length which ≤ length es → Lines Own (id_of p) which) → TransitionFollows Own c w (transition_in_epoch p m (entries_transition p m.sender es))
unfolding entries_transition
entries_follow {Own} {c} {w} p h m es to placed sent none line =
    let n : ℕ = length_of p in
    let new : List Entry = entries_above n es in
    let last : Transition = taken_entries_transition (with_entries p new) new in
    let third : Transition = cond (are_applicable (newest p) new) last (transition_ignoring p TooFar) in
    let second : Transition = cond (nat_lt (n + 1) (first_position es)) (transition_ignoring p OutOfOrder) third in
    let first : Transition = cond (nat_le (final_position es) n) (transition_ignoring p AlreadyHave) second in
    in_epoch p h none m (entries_transition p m.sender es)
    (λ ep. guard p h none (not (is_id (predecessor p) m.sender)) NotNeighbour first
    (λ a. guard p h none (nat_le (final_position es) n) AlreadyHave second
    (λ b. guard p h none (nat_lt (n + 1) (first_position es)) OutOfOrder third
    (λ d. cond_both (are_applicable (newest p) new) last (transition_ignoring p TooFar) (λ (t : Transition). TransitionFollows Own c w t)
    (λ g.
    let pr : predecessor p ≡ Some m.sender = is_id-some (predecessor p) m.sender (not-false (is_id (predecessor p) m.sender) a) in
    let above : n < final_position es = leb-false (final_position es) n b in
    let some : 1 ≤ length new = some_above n es above in
    let few : length new ≤ length es = few_above n es in
    taken p h m to ep pr new some (placed above (ltb-false (n + 1) (first_position es) d))
    (all_of_above (λ (e : Entry). Sent w.messages (said m.epoch m.sender m.receiver (machine.Entry e.position e))) n es sent)
    (λ which many. line which (omega (arith, some, many)) (omega (arith, few, many))))
    (λ g. ignored_follows h.follows p h.at h.running none TooFar)))))

pub entry_follows : {c : Chain} {w : MachineState Entry} (p : Plain) → Here c w p → (m : LinkMessage) (e : Entry) → m.receiver ≡ id_of p
    → Sent w.messages (said m.epoch m.sender m.receiver (machine.Entry e.position e)) → TransitionFollows (IsTaking (id_of p)) c w (transition_in_epoch p m (entries_transition p m.sender (e ∷ [])))
entry_follows {c} {w} p h m e to s =
    let n : ℕ = length_of p in
    let one : (which : List ℕ) → 1 ≤ length which → length which ≤ 1 → Lines (IsTaking (id_of p)) (id_of p) which = elim [
      | [] ↦ λ some few. absurd (omega (arith, some))
      | k ∷ ks ↦ elim ks as (λ (l : List ℕ). 1 ≤ length (k ∷ l) → length (k ∷ l) ≤ 1 → Lines (IsTaking (id_of p)) (id_of p) (k ∷ l)) [
        | [] ↦ λ some few. (inr (k, inl refl), inr (k, inr refl))
        | l ∷ ls ↦ λ some few. absurd (omega (arith, few))
      ]
    ] in
    entries_follow p h m (e ∷ []) to (λ above below. placed_above n n (e ∷ []) (omega (arith, above, below), tt) below) (s, tt) (inl refl) one

pub batch_follows : {c : Chain} {w : MachineState Entry} (p : Plain) → Here c w p → (m : LinkMessage) (es : List Entry) (before : ℕ) → m.receiver ≡ id_of p → IsPlaced before es → WereSent w m es
    → TransitionFollows (IsTakingAll (id_of p)) c w (transition_in_epoch p m (entries_transition p m.sender es))
batch_follows {c} {w} p h m es before to placed s =
    let some : (which : List ℕ) → 1 ≤ length which → length which ≤ length es → Lines (IsTakingAll (id_of p)) (id_of p) which = elim [
      | [] ↦ λ some few. absurd (omega (arith, some))
      | k ∷ ks ↦ λ some few. (inr (k, ks, inl refl), inr (k, ks, inr refl))
    ] in
    entries_follow p h m es to (λ above below. placed_above (length_of p) before es placed below) s (inl refl) some
