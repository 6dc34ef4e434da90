-- The replies, queries and waiting requests after a step: requests.
use Rattle.std.proofs.Common.{◌≡◌, ℕ, ◌+◌, ◌==◌, nat_le, Bool, true, false, not, cond, ◌||◌, List, [], ◌∷◌, ◌++◌, Option, Some, None, Result, Ok, Err, refl, subst}
use Rattle.std.proofs.lemmas.Bool.{cond_both, leb-true, not-false}
use Rattle.craq_names.specs.Limits.{greatest}
use Rattle.craq_names.specs.declared.refusal.Refusal.{Refusal}
use Rattle.craq_names.specs.declared.refusal.Refusal.TheVariants as refusals
use Rattle.craq_names.specs.declared.name.ObjectId.{ObjectId}
use Rattle.craq_names.proofs.Lists.{all_append}
use Rattle.craq_commands.specs.declared.command.Update.{Update}
use Rattle.craq_commands.specs.declared.entry.Entry.{Entry}
use Rattle.craq_commands.specs.declared.reply.Reply.{Reply}
use Rattle.craq_commands.specs.declared.read_mode.ReadMode.{ReadMode}
use Rattle.craq_commands.specs.declared.read_mode.ReadMode.TheVariants.{Strong, Eventual, Bounded}
use Rattle.craq_commands.specs.SingleCopy.{said}
use Rattle.craq_commands.specs.Evaluation.{objects_named, all_of_chain, some_used_up}
use Rattle.craq_model.specs.declared.message.Body.TheVariants as bodies
use Rattle.craq_model.specs.declared.ask.Ask.TheVariants as asks
use Rattle.craq_model.specs.declared.ask.Answer.{Answer}
use Rattle.craq_model.specs.declared.ask.Answer.TheVariants as answers
use Rattle.craq_model.specs.declared.step.Out.{Out}
use Rattle.craq_model.specs.declared.waiting.WaitingUpdate.{WaitingUpdate}
use Rattle.craq_model.specs.declared.waiting.WaitingRead.{WaitingRead}
use Rattle.craq_model.specs.Members.{first_of, last_of}
use Rattle.craq_model.specs.Plain.{Plain, id_of, successor, is_first, is_last, length_of, newest, newest_object, clean_object, object_within, position_of, acknowledging}
use Rattle.craq_model.specs.Sends.{send, send_all, to_neighbour, entry_bodies}
use Rattle.craq_model.specs.Settle.{Transition, read_answer}
use Rattle.craq_model.specs.Asks.{accepted_transition, answered_transition, is_full, is_clean, with_entry, committed_if_last, reply_transition, new_update_transition, update_transition, waiting_read_transition, read_transition, accepted_ask_transition, ask_transition}
use Rattle.craq_refinement.proofs.Updates.{refused, transition_same}
use Rattle.craq_updates.proofs.EachMove.{entry_for}
use Rattle.craq_strong_answers.proofs.Outs.{AllReported, reported_sends, reported_neighbour, says_entry_bodies}
use Rattle.craq_strong_answers.proofs.Gives.{Gives, MayAnswer, Waits, like_waits}
use Rattle.craq_strong_answers.proofs.Same.{SameHistory}

module _ (P : WaitingUpdate → Type 0) (R : WaitingRead → Type 0) (G : ℕ → Answer → Type 0) (Q : ℕ → ℕ → List ℕ → Type 0) (V : ℕ → ℕ → ℕ → Type 0) where
  replies : (q : Plain) → Waits P R G Q V q → (position : ℕ) (reply : Reply) (sends : List Out) → AllReported G Q V sends → P (record { ticket = q.last_ticket + 1; position = position; reply = reply }) → q.ready ≡ true
      → (t : Transition) → reply_transition q position reply sends ≡ Ok t → MayAnswer P R G Q V t.0 → Gives P R G Q V t
  unfolding reply_transition
  replies q w position reply sends a new ready t h m =
      let u : WaitingUpdate = record { ticket = q.last_ticket + 1; position = position; reply = reply } in
      let now : Transition = answered_transition q (answers.Update reply) sends in
      let waiting : Plain = record q { waiting_updates = q.waiting_updates ++ u ∷ [] } in
      let later : Transition = accepted_transition waiting sends in
      let rest : Result Transition Refusal = cond (is_full q) (Err refusals.PendingFull) (Ok later) in
      let S : Transition → Type 0 = λ t. MayAnswer P R G Q V t.0 → Gives P R G Q V t in
      cond_both (nat_le position q.past.acknowledged) (Ok now) rest (λ (r : Result Transition Refusal). r ≡ Ok t → S t)
      (λ e k. subst S (transition_same now t (Ok now) refl k) (λ m. record { updates = w.updates; reads = w.reads; reported = (m.acknowledged ready u new (leb-true position q.past.acknowledged e), a) }))
      (λ e k.
      let g : (is_full q ≡ false) × (Ok later ≡ Ok t) = refused (is_full q) refusals.PendingFull (Ok later) k in
      subst S (transition_same later t (Ok later) refl g.1) (λ m. record { updates = all_append P q.waiting_updates (u ∷ []) w.updates (new, tt); reads = w.reads; reported = a }))
      h m

  replies_after : (p : Plain) → Waits P R G Q V p → (position : ℕ) (reply : Reply) (sends : List Out) → AllReported G Q V sends → P (record { ticket = p.last_ticket + 1; position = position; reply = reply }) → p.ready ≡ true
      → (t : Transition) → reply_transition (committed_if_last p) position reply sends ≡ Ok t → MayAnswer P R G Q V t.0 → Gives P R G Q V t
  replies_after p w position reply sends a new ready t h m =
      let q : Plain = acknowledging p (length_of p) in
      cond_both (is_last p) q p (λ (x : Plain). reply_transition x position reply sends ≡ Ok t → Gives P R G Q V t)
      (λ e k. replies q (like_waits P R G Q V p q w refl refl refl) position reply sends a new ready t k m)
      (λ e k. replies p w position reply sends a new ready t k m)
      h

  -- the conditions for an update that is requested
  pub record MayReply (p : Plain) (u : Update) : Type 0 where
    pub old : (reply : Reply) → said (newest p) u.client u.number ≡ Some reply → P (record { ticket = p.last_ticket + 1; position = position_of p u.client; reply = reply })
    pub new : said (newest p) u.client u.number ≡ None → P (record { ticket = p.last_ticket + 1; position = (entry_for p u).position; reply = (entry_for p u).reply })

  pub update_gives : (p : Plain) → Waits P R G Q V p → (u : Update) → MayReply p u → (t : Transition) → ask_transition p (asks.Update u) ≡ Ok t → MayAnswer P R G Q V t.0 → Gives P R G Q V t
  unfolding ask_transition update_transition
  update_gives p w u new t k m =
      let a : (not p.ready ≡ false) × (cond (not (all_of_chain p.name.chain (objects_named u.command))) (Err refusals.TwoChains) (accepted_ask_transition p (asks.Update u)) ≡ Ok t) =
      refused (not p.ready) refusals.NotReady (cond (not (all_of_chain p.name.chain (objects_named u.command))) (Err refusals.TwoChains) (accepted_ask_transition p (asks.Update u))) k in
      let b : (not (all_of_chain p.name.chain (objects_named u.command)) ≡ false) × (accepted_ask_transition p (asks.Update u) ≡ Ok t) =
      refused (not (all_of_chain p.name.chain (objects_named u.command))) refusals.TwoChains (accepted_ask_transition p (asks.Update u)) a.1 in
      let d : _ = refused (not (is_first p)) (refusals.NotHead (first_of p.members)) (cond (p.last_ticket == greatest) (Err refusals.Exhausted) (update_transition p u (said (newest p) u.client u.number))) b.1 in
      let e : _ = refused (p.last_ticket == greatest) refusals.Exhausted (update_transition p u (said (newest p) u.client u.number)) d.1 in
      by_reply (said (newest p) u.client u.number) refl (not-false p.ready a.0) e.1
    where
      by_reply : (o : Option Reply) → said (newest p) u.client u.number ≡ o → p.ready ≡ true → update_transition p u o ≡ Ok t → Gives P R G Q V t
      by_reply (Some reply) is ready i = replies_after p w (position_of p u.client) reply [] tt (new.old reply is) ready t i m
      by_reply None is ready i =
          let e : Entry = entry_for p u in
          let entries : ℕ → List Out = λ to. send_all p to (entry_bodies (e ∷ [])) in
          let g : _ = refused (length_of p == greatest || some_used_up (newest p).objects (objects_named u.command)) refusals.Exhausted (new_update_transition p e) i in
          replies_after (with_entry p e) (like_waits P R G Q V p (with_entry p e) w refl refl refl) e.position e.reply (to_neighbour (successor p) entries)
          (reported_neighbour G Q V (successor p) entries (λ to. reported_sends G Q V p to (entry_bodies (e ∷ [])) (says_entry_bodies G Q V (id_of p) to (e ∷ [])))) (new.new is) ready t g.1 m

  -- the conditions for a read that is requested, by its mode
  abbrev pub MayRead : Plain → ReadMode → List ℕ → Type 0
  MayRead p Eventual key = G (p.last_ticket + 1) (read_answer (newest_object p key))
  MayRead p (Bounded k) key = G (p.last_ticket + 1) (read_answer (object_within p key ((clean_object p key).0 + k)))
  MayRead p Strong key = (is_clean p key ≡ true → G (p.last_ticket + 1) (read_answer (newest_object p key))) × R (record { ticket = p.last_ticket + 1; key = key })

  -- a read keeps the history
  pub record ReadGives (p : Plain) (t : Transition) : Type 0 where
    pub gives : Gives P R G Q V t
    pub same : SameHistory p t.0
    pub ready : p.ready ≡ true

  answered : (p : Plain) → Waits P R G Q V p → p.ready ≡ true → (answer : Answer) → G (p.last_ticket + 1) answer → (r : Result Transition Refusal) → r ≡ Ok (answered_transition p answer []) → (t : Transition) → r ≡ Ok t → ReadGives p t
  answered p w ready answer g r is t k =
      let S : Transition → Type 0 = λ t. ReadGives p t in
      subst S (transition_same (answered_transition p answer []) t r is k)
      (record { gives = record { updates = w.updates; reads = w.reads; reported = (g, tt) }; same = record { base = refl; state = refl; entries = refl; acknowledged = refl; ready = refl }; ready = ready })

  reads : (p : Plain) → Waits P R G Q V p → p.ready ≡ true → (mode : ReadMode) (key : List ℕ) → MayRead p mode key → (t : Transition) → read_transition p mode key ≡ Ok t → ReadGives p t
  unfolding read_transition waiting_read_transition
  reads p w ready Eventual key g t k = answered p w ready (read_answer (newest_object p key)) g (read_transition p Eventual key) refl t k
  reads p w ready (Bounded b) key g t k = answered p w ready (read_answer (object_within p key ((clean_object p key).0 + b))) g (read_transition p (Bounded b) key) refl t k
  reads p w ready Strong key g t k =
      let r : WaitingRead = record { ticket = p.last_ticket + 1; key = key } in
      let q : Plain = record p { waiting_reads = p.waiting_reads ++ r ∷ [] } in
      let os : List Out = send p (last_of p.members) (bodies.Query (p.last_ticket + 1) key) ∷ [] in
      let rest : Result Transition Refusal = cond (is_full p) (Err refusals.PendingFull) (Ok (accepted_transition q os)) in
      cond_both (is_clean p key) (Ok (answered_transition p (read_answer (newest_object p key)) [])) rest (λ (x : Result Transition Refusal). x ≡ Ok t → ReadGives p t)
      (λ e i. answered p w ready (read_answer (newest_object p key)) (g.0 e) (Ok (answered_transition p (read_answer (newest_object p key)) [])) refl t i)
      (λ e i.
      let f : (is_full p ≡ false) × (Ok (accepted_transition q os) ≡ Ok t) = refused (is_full p) refusals.PendingFull (Ok (accepted_transition q os)) i in
      let S : Transition → Type 0 = λ t. ReadGives p t in
      subst S (transition_same (accepted_transition q os) t (Ok (accepted_transition q os)) refl f.1)
      (record {
        gives = record { updates = w.updates; reads = all_append R p.waiting_reads (r ∷ []) w.reads (g.1, tt); reported = ((refl, w.asks r g.1), tt) };
        same = record { base = refl; state = refl; entries = refl; acknowledged = refl; ready = refl };
        ready = ready;
      }))
      k

  pub read_gives : (p : Plain) → Waits P R G Q V p → (mode : ReadMode) (object : ObjectId) → (p.ready ≡ true → MayRead p mode object.key) → (t : Transition) → ask_transition p (asks.Read mode object) ≡ Ok t → ReadGives p t
  unfolding ask_transition
  read_gives p w mode object g t k =
      let here : Bool = all_of_chain p.name.chain (object ∷ []) in
      let a : _ = refused (not p.ready) refusals.NotReady (cond (not here) (Err refusals.TwoChains) (accepted_ask_transition p (asks.Read mode object))) k in
      let b : _ = refused (not here) refusals.TwoChains (accepted_ask_transition p (asks.Read mode object)) a.1 in
      let d : _ = refused (p.last_ticket == greatest) refusals.Exhausted (read_transition p mode object.key) b.1 in
      let ready : p.ready ≡ true = not-false p.ready a.0 in
      reads p w ready mode object.key (g ready) t d.1
