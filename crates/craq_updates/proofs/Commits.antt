-- A node commits the log.
use Rattle.std.proofs.Common.{◌≡◌, ⊎_elim, ℕ, ◌+◌, ◌-◌, ◌≤◌, true, false, ◌&&◌, List, [], ◌∷◌, ◌++◌, length, take, drop, Some, refl, ap, sym, subst, ◌∙◌, arith, take-append-drop}
use Rattle.std.proofs.lemmas.Bool.{cond_both, both_ways}
use Rattle.std.proofs.Math.Seq.{drop-append-add}
use Rattle.craq_commands.specs.declared.entry.Entry.{Entry}
use Rattle.craq_commands.specs.declared.state.State.{State}
use Rattle.craq_protocol.specs.Promises.{IsPrefix}
use Rattle.craq_protocol.proofs.Prefix.{prefix_is_take}
use Rattle.craq_protocol.specs.Members.{is_last}
use Rattle.craq_protocol.specs.Machine as machine
use Rattle.craq_protocol.specs.Machine.{MachineState, known_membership}
use Rattle.craq_protocol.specs.Promises.{IsReached, IsSafe, Later}
use Rattle.craq_protocol.proofs.Reached.{reached_safe}
use Rattle.craq_model.specs.Plain.{Plain, id_of, is_tail, entries_after}
use Rattle.craq_runs.specs.declared.run.Move.{Move}
use Rattle.craq_runs.specs.Chain.{Chain, Progress, node_at}
use Rattle.craq_runs.specs.Explain.{committed_by}
use Rattle.craq_refinement.specs.Follows.{IsHistory, seen_of, NodeFollows, Follows}
use Rattle.craq_refinement.proofs.Worlds.{is_tail-seen, history_length}
use Rattle.craq_refinement.proofs.Here.{Here, ready_member}
use Rattle.craq_updates.proofs.EachMove.{place_of}
use Rattle.craq_updates.proofs.Moves.{LogBy}
use Rattle.craq_updates.proofs.Places.{AtNode}
use Rattle.craq_updates.proofs.AtNodes.{was_id, now_id, now_at, now_based, runs_or_stops}

-- the log and the entries after it are the whole history
pub after_log : (base : ℕ) (state : State) (entries log history : List Entry) → IsHistory base state entries history → IsPrefix log history → base ≤ length log
    → log ++ drop (length log - base) entries ≡ history
after_log base state entries log history h p le =
    let k : ℕ = length log - base in
    let n : length h.front + k ≡ length log = omega (arith, h.count, le) in
    let rest : drop (length log) history ≡ drop k entries =
    ap (drop (length log)) (sym h.whole) ∙ (ap (λ j. drop j (h.front ++ entries)) (sym n) ∙ drop-append-add h.front entries k)
    in
    ap (λ l. log ++ l) (sym rest) ∙ (ap (λ l. l ++ drop (length log) history) (sym (prefix_is_take p)) ∙ take-append-drop (length log) history)

-- a prefix of the same length is the whole
pub same_length : {A : Type 0} (xs ys : List A) → IsPrefix xs ys → length xs ≡ length ys → xs ≡ ys
same_length xs ys p e = sym (prefix_is_take p) ∙ (ap (λ k. take k ys) e ∙ take_whole ys)
  where
    take_whole : {A : Type 0} (l : List A) → take (length l) l ≡ l
    take_whole [] = refl
    take_whole (y ∷ l) = ap (λ l. y ∷ l) (take_whole l)

-- a running node is a tail exactly if it is one in the world
pub tail_seen : {c : Chain} {w : MachineState Entry} → Follows c w → IsReached w → (id : ℕ) (q : Plain) → id_of q ≡ id → node_at c.nodes id ≡ Some q → q.running ≡ true → machine.is_tail w id ≡ is_tail q
tail_seen {c} {w} f r id q same at u =
    let P : ℕ → Type 0 = λ j. node_at c.nodes j ≡ Some q in
    let there : node_at c.nodes (id_of q) ≡ Some q = subst P (sym same) at in
    let h : Here c w q = record { follows = f; at = there; running = u } in
    let Q : ℕ → Type 0 = λ j. machine.is_tail w j ≡ is_tail q in
    subst Q same (is_tail-seen w (seen_of q) (f.nodes (id_of q) q there) u (λ e. ready_member q h r e))

-- the step's node commits the log after it
pub commits_log : {c : Chain} {w v : MachineState Entry} {chosen : Move} {x : Progress} → Follows c w → IsReached w → Follows x.0 v → IsReached v → Later w v → LogBy (place_of c chosen) w v
    → (a : AtNode c chosen x) → committed_by w.log (Some a.transition.0) ≡ v.log
unfolding entries_after
commits_log {c} {w} {v} {chosen} {x} f r g s later log a =
    let id : ℕ = place_of c chosen in
    let q : Plain = a.transition.0 in
    let n : NodeFollows v (seen_of q) = g.nodes id q (now_at a) in
    let H : ℕ → Type 0 = λ j. IsHistory q.past.base q.past.base_state q.past.entries (v.history j) in
    let here : IsHistory q.past.base q.past.base_state q.past.entries (v.history id) = subst H (now_id a) n.history in
    -- once the history is the log
    let whole : v.history id ≡ v.log → w.log ++ drop (length w.log - q.past.base) q.past.entries ≡ v.log =
    λ e. let Q : List Entry → Type 0 = λ l. IsPrefix w.log l in
    after_log q.past.base q.past.base_state q.past.entries w.log (v.history id) here (subst Q (sym e) later.log) (now_based f r a) ∙ e
    in
    let safe : IsSafe v = reached_safe s in
    let safe_before : IsSafe w = reached_safe r in
    let runs : q.running ≡ true → committed_by w.log (Some q) ≡ v.log =
    λ u.
    let same : machine.is_tail v id ≡ is_tail q = tail_seen g s id q (now_id a) (now_at a) u in
    cond_both (is_tail q) (w.log ++ drop (length w.log - q.past.base) q.past.entries) w.log (λ (l : List Entry). l ≡ v.log)
    (λ t. whole (safe.tail id (same ∙ t)))
    (λ t. ⊎_elim (λ e. sym e) (λ m. absurd (both_ways (machine.is_tail v id) (same ∙ t) m)) log)
    in
    let stops : q ≡ record a.was { running = false } → committed_by w.log (Some q) ≡ v.log =
    λ e.
    let p : Plain = a.was in
    let old : NodeFollows w (seen_of p) = f.nodes id p a.at in
    let K : ℕ → Type 0 = λ j. IsHistory p.past.base p.past.base_state p.past.entries (w.history j) in
    let before : IsHistory p.past.base p.past.base_state p.past.entries (w.history id) = subst K (was_id a) old.history in
    let long : length (w.history id) ≡ length (v.history id) = history_length before ∙ (sym (ap (λ (q : Plain). q.past.base + length q.past.entries) e) ∙ sym (history_length here)) in
    let kept : w.history id ≡ v.history id = same_length (w.history id) (v.history id) (later.history id) long in
    let tail : is_tail q ≡ is_tail p = ap (λ (q : Plain). is_tail q) e in
    let was : machine.is_tail w id ≡ is_tail p = tail_seen f r id p (was_id a) a.at a.running in
    let stopped : v.running id ≡ false = let R : ℕ → Type 0 = λ j. v.running j ≡ q.running in subst R (now_id a) n.running ∙ ap (λ (q : Plain). q.running) e in
    let silent : machine.is_tail v id ≡ false = ap (λ b. (b && v.ready id) && is_last (known_membership v id) id) stopped in
    let stays : v.log ≡ w.log = ⊎_elim (λ e. e) (λ m. absurd (both_ways (machine.is_tail v id) silent m)) log in
    cond_both (is_tail q) (w.log ++ drop (length w.log - q.past.base) q.past.entries) w.log (λ (l : List Entry). l ≡ v.log)
    (λ t. whole (sym kept ∙ (safe_before.tail id (was ∙ (sym tail ∙ t)) ∙ sym stays)))
    (λ t. sym stays)
    in
    ⊎_elim runs stops (runs_or_stops a)
