-- Nodes with alike pasts send the same, and stay alike as they adopt a membership.
use Rattle.std.proofs.Common.{◌≡◌, ◌≤◌, ◌==◌, ◌&&◌, nat_le, not, ℕ, Bool, true, false, cond, List, [], ◌∷◌, ◌++◌, map, None, refl, sym, ap, ◌∙◌, subst, arith}
use Rattle.std.specs.Prelude.{if◌then◌else◌}
use Rattle.craq_commands.specs.declared.entry.Entry.{Entry}
use Rattle.craq_commands.specs.declared.state.State.{State}
use Rattle.craq_commands.specs.Objects.{object_of}
use Rattle.craq_model.specs.declared.message.Body.{Body}
use Rattle.craq_model.specs.declared.message.Body.TheVariants as bodies
use Rattle.craq_model.specs.declared.step.Out.{Out}
use Rattle.craq_model.specs.declared.step.Why.{Why}
use Rattle.craq_model.specs.declared.waiting.WaitingRead.{WaitingRead}
use Rattle.craq_model.specs.Past.{Past, length_in, entries_in, acknowledged_in}
use Rattle.craq_model.specs.Parts.{gathered_position}
use Rattle.craq_model.specs.Plain.{Plain, successor, predecessor, is_last, is_tail, entries_after, newest, clean}
use Rattle.craq_model.specs.Sends.{send, send_all, to_neighbour, entry_bodies, catch_up, queries, ready_sends, unready_sends, tick_sends}
use Rattle.craq_model.specs.Settle.{Transition, transition_with, transition_ignoring, read_answer, update_given, by_ticket, answer_outs, all_given, settling_transition, is_reached, without_reached, readiness_transition}
use Rattle.craq_node_invariant.specs.Compacted.{remembered}
use Rattle.craq_node_invariant.proofs.CompactedPasts.{AreAlike, same_acknowledged, same_length, same_newest, same_clean, same_entries, alike_committed}

-- the node with another past
abbrev pub with_past : Plain → Past → Plain
with_past p h = record p { past = h }

-- equal steps, to nodes that are equal after compaction of their pasts
abbrev pub SameTransition : Transition → Transition → Type 0
SameTransition t u = (remembered true t.0 ≡ remembered true u.0) × (t.1 ≡ u.1)

abbrev pub SameNode : Plain → Plain → Type 0
SameNode p q = remembered true p ≡ remembered true q

-- equal tests, with related results on either branch
pub branch : {A : Type 0} (R : A → A → Type 0) (b c : Bool) (x y u v : A) → b ≡ c → (c ≡ true → R x u) → (c ≡ false → R y v) → R (cond b x y) (cond c u v)
branch {A} R b c x y u v e f g =
    let by : (d : Bool) → (d ≡ true → R x u) → (d ≡ false → R y v) → R (cond d x y) (cond d u v) = elim [ true ↦ λ s t. s refl | false ↦ λ s t. t refl ] in
    let P : Bool → Type 0 = λ d. R (cond d x y) (cond c u v) in
    subst P (sym e) (by c f g)

pub same_node : (p : Plain) (h k : Past) → AreAlike h k → SameNode (with_past p h) (with_past p k)
same_node p h k a = ap (λ (x : Past). with_past p x) a.same

pub same_outs : (p : Plain) (h k : Past) (os qs : List Out) → AreAlike h k → os ≡ qs → SameTransition (transition_with (with_past p h) os) (transition_with (with_past p k) qs)
same_outs p h k os qs a e = (same_node p h k a, ap (λ (o : List Out). (transition_with p o).1) e)

pub same_ignoring : (p : Plain) (h k : Past) (why : Why) → AreAlike h k → SameTransition (transition_ignoring (with_past p h) why) (transition_ignoring (with_past p k) why)
same_ignoring p h k why a = (same_node p h k a, refl)

-- ---- look-ups in a past

pub newest_alike : (p : Plain) (h k : Past) → AreAlike h k → newest (with_past p h) ≡ newest (with_past p k)
unfolding newest
newest_alike p h k a = same_newest h k a

pub clean_alike : (p : Plain) (h k : Past) → AreAlike h k → clean (with_past p h) ≡ clean (with_past p k)
unfolding clean
clean_alike p h k a = same_clean h k a

-- ---- sends

pub same_catch_up : (p : Plain) (h k : Past) (n : ℕ) → AreAlike h k → k.acknowledged ≤ n → catch_up (with_past p h) n ≡ catch_up (with_past p k) n
unfolding catch_up entries_after
same_catch_up p h k n a le =
    ap (λ (es : List Entry). entry_bodies es ++ bodies.Floor (length_in h) ∷ []) (same_entries h k n a le)
    ∙ ap (λ (l : ℕ). entry_bodies (entries_in k n) ++ bodies.Floor l ∷ []) (same_length h k a)

same_ready_sends : (p : Plain) (h k : Past) → AreAlike h k → ready_sends (with_past p h) ≡ ready_sends (with_past p k)
unfolding ready_sends
same_ready_sends p h k a =
    let said : List Body → ℕ → List Out = λ bs n. to_neighbour (successor p) (λ to. send_all p to bs) ++ to_neighbour (predecessor p) (λ to. send p to (bodies.Ack n) ∷ []) ++ (if is_last p then [] else queries p) in
    let e : h.acknowledged ≡ k.acknowledged = same_acknowledged h k a in
    let sent : catch_up (with_past p h) h.acknowledged ≡ catch_up (with_past p k) k.acknowledged =
    ap (λ (n : ℕ). catch_up (with_past p h) n) e ∙ same_catch_up p h k k.acknowledged a (omega arith)
    in
    ap (λ (bs : List Body). said bs h.acknowledged) sent ∙ ap (λ (n : ℕ). said (catch_up (with_past p k) k.acknowledged) n) e

same_unready_sends : (p : Plain) (h k : Past) → AreAlike h k → unready_sends (with_past p h) ≡ unready_sends (with_past p k)
unfolding unready_sends
same_unready_sends p h k a = ap (λ (n : ℕ). to_neighbour (predecessor p) (λ to. send p to (bodies.Blank n) ∷ [])) (same_length h k a)

pub same_tick_sends : (p : Plain) (h k : Past) → AreAlike h k → tick_sends (with_past p h) ≡ tick_sends (with_past p k)
unfolding tick_sends
same_tick_sends p h k a =
    let sent : List Out → List Out → List Out = λ r u. if p.epoch == 0 then [] else if p.ready then r else u in
    ap (λ (r : List Out). sent r (unready_sends (with_past p h))) (same_ready_sends p h k a)
    ∙ ap (λ (u : List Out). sent (ready_sends (with_past p k)) u) (same_unready_sends p h k a)

-- ---- adopting a membership

same_given : (p : Plain) (h k : Past) → AreAlike h k → answer_outs (all_given (with_past p h)) ≡ answer_outs (all_given (with_past p k))
unfolding all_given newest
same_given p h k a =
    ap (λ (s : State). answer_outs (by_ticket (map update_given p.waiting_updates ++ map (λ (r : WaitingRead). (r.ticket, read_answer (object_of s.objects r.key))) p.waiting_reads))) (same_newest h k a)

pub same_settling : (p : Plain) (h k : Past) → AreAlike h k → SameTransition (settling_transition (with_past p h)) (settling_transition (with_past p k))
unfolding settling_transition
same_settling p h k a =
    let x : Plain = with_past p h in
    let y : Plain = with_past p k in
    let q : Plain = record p { waiting_updates = []; waiting_reads = [] } in
    let hc : Past = acknowledged_in h (length_in h) in
    let kc : Past = acknowledged_in k (length_in k) in
    let c : AreAlike hc kc = alike_committed h k a in
    let os : List Out = answer_outs (all_given x) ++ tick_sends (with_past q hc) in
    let qs : List Out = answer_outs (all_given y) ++ tick_sends (with_past q kc) in
    let e : os ≡ qs =
    ap (λ (gs : List Out). gs ++ tick_sends (with_past q hc)) (same_given p h k a) ∙ ap (λ (ts : List Out). answer_outs (all_given y) ++ ts) (same_tick_sends q hc kc c)
    in
    branch SameTransition (is_tail p) (is_tail p) (transition_with (with_past q hc) os) (transition_with x (tick_sends x)) (transition_with (with_past q kc) qs) (transition_with y (tick_sends y)) refl
    (λ t. same_outs q hc kc os qs c e)
    (λ t. same_outs p h k (tick_sends x) (tick_sends y) a (same_tick_sends p h k a))

same_without_reached : (p : Plain) (h k : Past) → AreAlike h k → SameNode (without_reached (with_past p h)) (without_reached (with_past p k))
unfolding without_reached
same_without_reached p h k a =
    let q : Plain = record p { gathering = None } in
    branch SameNode (nat_le (gathered_position p.gathering) (length_in h)) (nat_le (gathered_position p.gathering) (length_in k)) (with_past q h) (with_past p h) (with_past q k) (with_past p k)
    (ap (λ (n : ℕ). nat_le (gathered_position p.gathering) n) (same_length h k a))
    (λ t. same_node q h k a)
    (λ t. same_node p h k a)

pub same_readiness : (p : Plain) (h k : Past) → AreAlike h k → SameTransition (readiness_transition (with_past p h)) (readiness_transition (with_past p k))
unfolding readiness_transition
same_readiness p h k a =
    let x : Plain = with_past p h in
    let y : Plain = with_past p k in
    let q : Plain = record p { ready = true; gathering = None } in
    branch SameTransition (not p.ready && is_reached p.floor (length_in h)) (not p.ready && is_reached p.floor (length_in k)) (settling_transition (with_past q h)) (transition_with (without_reached x) [])
    (settling_transition (with_past q k)) (transition_with (without_reached y) [])
    (ap (λ (n : ℕ). not p.ready && is_reached p.floor n) (same_length h k a))
    (λ t. same_settling q h k a)
    (λ t. (same_without_reached p h k a, refl))
