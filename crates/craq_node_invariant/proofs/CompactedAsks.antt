-- Nodes with alike pasts give the same reply to a request.
use Rattle.std.proofs.Common.{◌≡◌, ◌≤◌, ◌==◌, ◌||◌, nat_le, not, ℕ, ◌+◌, Bool, true, cond, List, [], ◌∷◌, ◌++◌, map, Option, Some, None, Result, Ok, Err, refl, sym, ap, ◌∙◌, subst, arith, inl, inr}
use Rattle.std.proofs.lemmas.Bool.{le-leb}
use Rattle.craq_names.specs.Limits.{greatest}
use Rattle.craq_names.specs.declared.refusal.Refusal.{Refusal}
use Rattle.craq_names.specs.declared.refusal.Refusal.TheVariants as refusals
use Rattle.craq_commands.specs.declared.command.Update.{Update}
use Rattle.craq_commands.specs.declared.entry.Entry.{Entry}
use Rattle.craq_commands.specs.declared.read_mode.ReadMode.{ReadMode}
use Rattle.craq_commands.specs.declared.read_mode.ReadMode.TheVariants.{Strong, Eventual, Bounded}
use Rattle.craq_commands.specs.declared.reply.Reply.{Reply}
use Rattle.craq_commands.specs.declared.state.State.{State}
use Rattle.craq_commands.specs.Objects.{object_of}
use Rattle.craq_commands.specs.Evaluation.{eval, objects_named, all_of_chain, some_used_up}
use Rattle.craq_commands.specs.SingleCopy.{said}
use Rattle.craq_model.specs.declared.ask.Ask.{Ask}
use Rattle.craq_model.specs.declared.ask.Ask.TheVariants as asks
use Rattle.craq_model.specs.declared.ask.Answer.TheVariants as answers
use Rattle.craq_model.specs.declared.message.Body.TheVariants as bodies
use Rattle.craq_model.specs.declared.step.Out.{Out}
use Rattle.craq_model.specs.declared.step.Out.TheVariants as outs
use Rattle.craq_model.specs.Members.{first_of, last_of}
use Rattle.craq_model.specs.Past.{Past, length_in, acknowledged_in, with_entries_in, object_within_in}
use Rattle.craq_model.specs.Plain.{Plain, id_of, successor, is_first, is_last, newest, clean}
use Rattle.craq_model.specs.Sends.{send, send_all, to_neighbour, entry_bodies}
use Rattle.craq_model.specs.Settle.{Transition, read_answer}
use Rattle.craq_model.specs.Asks.{accepted_transition, answered_transition, is_full, versioned_write, committed_if_last, reply_transition, new_update_transition, update_transition, waiting_read_transition, read_transition, asked_objects, accepted_ask_transition, ask_transition}
use Rattle.craq_node_invariant.proofs.CompactedPasts.{AreAlike, same_acknowledged, same_length, alike_append, alike_committed}
use Rattle.craq_node_invariant.proofs.CompactedPositions.{AreLast, last_in}
use Rattle.craq_node_invariant.proofs.CompactedTransitions.{with_past, SameTransition, branch, same_node, newest_alike, clean_alike}
use Rattle.craq_node_invariant.proofs.CompactedMessages.{same_within}

-- equal transitions, or equal refusals
abbrev pub SameResult : Result Transition Refusal → Result Transition Refusal → Type 0
SameResult (Ok t) (Ok u) = SameTransition t u
SameResult (Ok t) (Err f) = ⊥
SameResult (Err e) (Ok u) = ⊥
SameResult (Err e) (Err f) = e ≡ f

same_accepted : (p : Plain) (h k : Past) (os qs : List Out) → AreAlike h k → os ≡ qs → SameTransition (accepted_transition (with_past p h) os) (accepted_transition (with_past p k) qs)
same_accepted p h k os qs a e = (same_node (record p { last_ticket = p.last_ticket + 1 }) h k a, ap (λ (o : List Out). (accepted_transition p o).1) e)

-- ---- replies to updates

same_reply : (p : Plain) (h k : Past) (position : ℕ) (reply : Reply) (sends : List Out) → AreAlike h k → SameResult (reply_transition (with_past p h) position reply sends) (reply_transition (with_past p k) position reply sends)
unfolding reply_transition is_full
same_reply p h k position reply sends a =
    let q : Plain = record p { waiting_updates = p.waiting_updates ++ (record { ticket = p.last_ticket + 1; position = position; reply = reply }) ∷ [] } in
    let os : List Out = outs.Answer (p.last_ticket + 1) (answers.Update reply) ∷ sends in
    let later : Past → Result Transition Refusal = λ x. cond (is_full p) (Err refusals.PendingFull) (Ok (accepted_transition (with_past q x) sends)) in
    branch SameResult (nat_le position h.acknowledged) (nat_le position k.acknowledged) (Ok (accepted_transition (with_past p h) os)) (later h) (Ok (accepted_transition (with_past p k) os)) (later k)
    (ap (λ (n : ℕ). nat_le position n) (same_acknowledged h k a))
    (λ t. same_accepted p h k os os a refl)
    (λ t. branch SameResult (is_full p) (is_full p) (Err refusals.PendingFull) (Ok (accepted_transition (with_past q h) sends)) (Err refusals.PendingFull) (Ok (accepted_transition (with_past q k) sends)) refl
    (λ s. refl)
    (λ s. same_accepted q h k sends sends a refl))

-- at settled positions, both reply at once
same_reply_settled : (p : Plain) (h k : Past) (m n : ℕ) (reply : Reply) (sends : List Out) → AreAlike h k → m ≤ k.acknowledged → n ≤ k.acknowledged → SameResult (reply_transition (with_past p h) m reply sends) (reply_transition (with_past p k) n reply sends)
unfolding reply_transition
same_reply_settled p h k m n reply sends a b c =
    let e : h.acknowledged ≡ k.acknowledged = same_acknowledged h k a in
    let one : nat_le m h.acknowledged ≡ true = le-leb m h.acknowledged (omega (arith, b, e)) in
    let two : nat_le n k.acknowledged ≡ true = le-leb n k.acknowledged c in
    let os : List Out = outs.Answer (p.last_ticket + 1) (answers.Update reply) ∷ sends in
    rw (one, two) (same_accepted p h k os os a refl)

same_reply_at : (p : Plain) (h k : Past) (m n : ℕ) (reply : Reply) (sends : List Out) → AreAlike h k → AreLast k m n → SameResult (reply_transition (with_past p h) m reply sends) (reply_transition (with_past p k) n reply sends)
same_reply_at p h k m n reply sends a (inl e) =
    let P : ℕ → Type 0 = λ x. SameResult (reply_transition (with_past p h) x reply sends) (reply_transition (with_past p k) n reply sends) in
    subst P (sym e) (same_reply p h k n reply sends a)
same_reply_at p h k m n reply sends a (inr b) = same_reply_settled p h k m n reply sends a b.0 b.1

last_committed : (k : Past) (m n : ℕ) → k.acknowledged ≤ length_in k → AreLast k m n → AreLast (acknowledged_in k (length_in k)) m n
last_committed k m n w (inl e) = inl e
last_committed k m n w (inr b) = inr (omega (arith, b.0, w), omega (arith, b.1, w))

same_committed_reply : (p : Plain) (h k : Past) (m n : ℕ) (reply : Reply) (sends : List Out) → AreAlike h k → AreLast k m n
    → SameResult (reply_transition (committed_if_last (with_past p h)) m reply sends) (reply_transition (committed_if_last (with_past p k)) n reply sends)
same_committed_reply p h k m n reply sends a b =
    let hc : Past = acknowledged_in h (length_in h) in
    let kc : Past = acknowledged_in k (length_in k) in
    let R : Plain → Plain → Type 0 = λ x y. SameResult (reply_transition x m reply sends) (reply_transition y n reply sends) in
    branch R (is_last p) (is_last p) (with_past p hc) (with_past p h) (with_past p kc) (with_past p k) refl
    (λ t. same_reply_at p hc kc m n reply sends (alike_committed h k a) (last_committed k m n a.second.within b))
    (λ t. same_reply_at p h k m n reply sends a b)

-- ---- updates

same_new_update : (p : Plain) (h k : Past) (e : Entry) → AreAlike h k → SameResult (new_update_transition (with_past p h) e) (new_update_transition (with_past p k) e)
same_new_update p h k e a =
    same_committed_reply p (with_entries_in h (e ∷ [])) (with_entries_in k (e ∷ [])) e.position e.position e.reply (to_neighbour (successor p) (λ to. send_all p to (entry_bodies (e ∷ []))))
    (alike_append h k (e ∷ []) a) (inl refl)

pub same_update : (p : Plain) (h k : Past) (u : Update) (o : Option Reply) → AreAlike h k → AreLast k (last_in h u.client) (last_in k u.client) → SameResult (update_transition (with_past p h) u o) (update_transition (with_past p k) u o)
unfolding update_transition
same_update p h k u (Some reply) a b = same_committed_reply p h k (last_in h u.client) (last_in k u.client) reply [] a b
same_update p h k u None a b =
    let sh : State = newest (with_past p h) in
    let sk : State = newest (with_past p k) in
    let es : sh ≡ sk = newest_alike p h k a in
    let el : length_in h ≡ length_in k = same_length h k a in
    let made : ℕ → State → Entry = λ n s. record {
      position = n + 1;
      origin_node = id_of p;
      origin_ticket = p.last_ticket + 1;
      client = u.client;
      number = u.number;
      reply = (eval s.objects u.command).1;
      writes = map (versioned_write s.objects) (eval s.objects u.command).0;
    } in
    let e : made (length_in h) sh ≡ made (length_in k) sk = ap (λ (n : ℕ). made n sh) el ∙ ap (λ (s : State). made (length_in k) s) es in
    let used : ℕ → State → Bool = λ n s. (n == greatest) || some_used_up s.objects (objects_named u.command) in
    let P : Entry → Type 0 = λ x. SameResult (new_update_transition (with_past p h) x) (new_update_transition (with_past p k) (made (length_in k) sk)) in
    branch SameResult (used (length_in h) sh) (used (length_in k) sk) (Err refusals.Exhausted) (new_update_transition (with_past p h) (made (length_in h) sh)) (Err refusals.Exhausted) (new_update_transition (with_past p k) (made (length_in k) sk))
    (ap (λ (n : ℕ). used n sh) el ∙ ap (λ (s : State). used (length_in k) s) es)
    (λ t. refl)
    (λ t. subst P (sym e) (same_new_update p h k (made (length_in k) sk) a))

-- ---- reads

same_answered : (p : Plain) (h k : Past) (o q : ℕ × List ℕ) → AreAlike h k → o ≡ q → SameTransition (answered_transition (with_past p h) (read_answer o) []) (answered_transition (with_past p k) (read_answer q) [])
same_answered p h k o q a e =
    let os : ℕ × List ℕ → List Out = λ x. outs.Answer (p.last_ticket + 1) (read_answer x) ∷ [] in
    same_accepted p h k (os o) (os q) a (ap os e)

same_waiting_read : (p : Plain) (h k : Past) (key : List ℕ) → AreAlike h k → SameResult (waiting_read_transition (with_past p h) key) (waiting_read_transition (with_past p k) key)
unfolding waiting_read_transition is_full
same_waiting_read p h k key a =
    let q : Plain = record p { waiting_reads = p.waiting_reads ++ (record { ticket = p.last_ticket + 1; key = key }) ∷ [] } in
    let os : List Out = send p (last_of p.members) (bodies.Query (p.last_ticket + 1) key) ∷ [] in
    branch SameResult (is_full p) (is_full p) (Err refusals.PendingFull) (Ok (accepted_transition (with_past q h) os)) (Err refusals.PendingFull) (Ok (accepted_transition (with_past q k) os)) refl
    (λ t. refl)
    (λ t. same_accepted q h k os os a refl)

pub same_read : (p : Plain) (h k : Past) (mode : ReadMode) (key : List ℕ) → AreAlike h k → SameResult (read_transition (with_past p h) mode key) (read_transition (with_past p k) mode key)
unfolding read_transition
same_read p h k Eventual key a =
    same_answered p h k (object_of (newest (with_past p h)).objects key) (object_of (newest (with_past p k)).objects key) a (ap (λ (s : State). object_of s.objects key) (newest_alike p h k a))
same_read p h k (Bounded n) key a =
    let bound : State → ℕ = λ s. (object_of s.objects key).0 + n in
    same_answered p h k (object_within_in h key (bound (clean (with_past p h)))) (object_within_in k key (bound (clean (with_past p k)))) a
    (ap (λ (s : State). object_within_in h key (bound s)) (clean_alike p h k a) ∙ same_within h k key (bound (clean (with_past p k))) a)
same_read p h k Strong key a =
    let es : newest (with_past p h) ≡ newest (with_past p k) = newest_alike p h k a in
    let tells : State → State → Bool = λ s t. (object_of s.objects key).0 == (object_of t.objects key).0 in
    let read : Past → ℕ × List ℕ = λ x. object_of (newest (with_past p x)).objects key in
    branch SameResult (tells (newest (with_past p h)) (clean (with_past p h))) (tells (newest (with_past p k)) (clean (with_past p k))) (Ok (answered_transition (with_past p h) (read_answer (read h)) [])) (waiting_read_transition (with_past p h) key)
    (Ok (answered_transition (with_past p k) (read_answer (read k)) [])) (waiting_read_transition (with_past p k) key)
    (ap (λ (s : State). tells s (clean (with_past p h))) es ∙ ap (λ (s : State). tells (newest (with_past p k)) s) (clean_alike p h k a))
    (λ t. same_answered p h k (read h) (read k) a (ap (λ (s : State). object_of s.objects key) es))
    (λ t. same_waiting_read p h k key a)

-- ---- requests

same_accepted_ask : (p : Plain) (h k : Past) (ask : Ask) → AreAlike h k → ((client : ℕ) → AreLast k (last_in h client) (last_in k client)) → SameResult (accepted_ask_transition (with_past p h) ask) (accepted_ask_transition (with_past p k) ask)
same_accepted_ask p h k (asks.Update u) a b =
    let reported : Past → Option Reply = λ x. said (newest (with_past p x)) u.client u.number in
    let last : Past → Result Transition Refusal = λ x. update_transition (with_past p x) u (reported x) in
    let second : Past → Result Transition Refusal = λ x. cond (p.last_ticket == greatest) (Err refusals.Exhausted) (last x) in
    let P : Option Reply → Type 0 = λ o. SameResult (update_transition (with_past p h) u o) (last k) in
    branch SameResult (not (is_first p)) (not (is_first p)) (Err (refusals.NotHead (first_of p.members))) (second h) (Err (refusals.NotHead (first_of p.members))) (second k) refl
    (λ t. refl)
    (λ t. branch SameResult (p.last_ticket == greatest) (p.last_ticket == greatest) (Err refusals.Exhausted) (last h) (Err refusals.Exhausted) (last k) refl
    (λ s. refl)
    (λ s. subst P (sym (ap (λ (x : State). said x u.client u.number) (newest_alike p h k a))) (same_update p h k u (reported k) a (b u.client))))
same_accepted_ask p h k (asks.Read mode object) a b =
    branch SameResult (p.last_ticket == greatest) (p.last_ticket == greatest) (Err refusals.Exhausted) (read_transition (with_past p h) mode object.key) (Err refusals.Exhausted) (read_transition (with_past p k) mode object.key) refl
    (λ t. refl)
    (λ t. same_read p h k mode object.key a)

pub same_ask : (p : Plain) (h k : Past) (ask : Ask) → AreAlike h k → ((client : ℕ) → AreLast k (last_in h client) (last_in k client)) → SameResult (ask_transition (with_past p h) ask) (ask_transition (with_past p k) ask)
unfolding ask_transition
same_ask p h k ask a b =
    let foreign : Bool = not (all_of_chain p.name.chain (asked_objects ask)) in
    let last : Past → Result Transition Refusal = λ x. accepted_ask_transition (with_past p x) ask in
    let second : Past → Result Transition Refusal = λ x. cond foreign (Err refusals.TwoChains) (last x) in
    branch SameResult (not p.ready) (not p.ready) (Err refusals.NotReady) (second h) (Err refusals.NotReady) (second k) refl
    (λ t. refl)
    (λ t. branch SameResult foreign foreign (Err refusals.TwoChains) (last h) (Err refusals.TwoChains) (last k) refl
    (λ s. refl)
    (λ s. same_accepted_ask p h k ask a b))
