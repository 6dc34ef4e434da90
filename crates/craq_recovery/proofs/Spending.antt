-- The cost of a message pays for its effects, line by line; and a node that becomes ready pays for
-- the messages that it sends then.
use Rattle.std.proofs.Common.{◌≡◌, ◌⊎◌, inl, inr, ℕ, suc, ◌+◌, ◌-◌, ◌≤◌, ◌==◌, nat_le, nat_lt, Bool, true, false, not, cond, ◌||◌, ◌&&◌, List, [], ◌∷◌, ◌++◌, filter, is_some, length, map, Option, Some, None, refl, ap, sym, subst, ◌∙◌, arith}
use Rattle.std.proofs.lemmas.Bool.{cond_both, not-false, not-true}
use Rattle.std.proofs.lemmas.List.{length-append}
use Rattle.std.specs.List.{AllByRecursion}
use Rattle.std.specs.Slice.Iter.{chunk_count}
use Rattle.craq_names.specs.Limits.{greatest_count}
use Rattle.craq_names.specs.Maps.{at_number}
use Rattle.craq_commands.specs.declared.entry.Entry.{Entry}
use Rattle.craq_commands.specs.declared.state.State.{State}
use Rattle.craq_model.specs.declared.gathering.Gathering.{Gathering}
use Rattle.craq_model.specs.declared.message.Body.{Body}
use Rattle.craq_model.specs.declared.message.Body.TheVariants as bodies
use Rattle.craq_model.specs.declared.message.LinkMessage.{LinkMessage}
use Rattle.craq_model.specs.declared.message.StatePart.{StatePart}
use Rattle.craq_model.specs.declared.step.Out.{Out}
use Rattle.craq_model.specs.declared.step.Out.TheVariants as outs
use Rattle.craq_model.specs.declared.step.Why.{Why}
use Rattle.craq_model.specs.declared.step.Why.TheVariants.{OtherEpoch, NotNeighbour, OutOfOrder, AlreadyHave, NotReadyHere, UnknownTicket, TooFar}
use Rattle.craq_model.specs.declared.waiting.WaitingRead.{WaitingRead}
use Rattle.craq_model.specs.Deliveries.{ack_transition, acknowledgement_transition, answering_version, appending_transition, are_applicable, blank_transition, body_transition, config_transition, copy_transition, delivery_transition, pending_updates, entries_above, entries_transition, fill_bodies, final_position, first_position, floor_transition, forwarding_transition, gathered_transition, gathering_transition, is_outdated, part_transition, query_transition, read_with, reads_without, taken_entries_transition, reported_version_transition, transition_in_epoch, version_transition, with_copy}
use Rattle.craq_model.specs.Members.{is_id, is_member, last_of}
use Rattle.craq_model.specs.Parts.{gathered_position, gathering_for, is_in_order, is_whole, joined_state, with_part}
use Rattle.craq_model.specs.Plain.{Plain, acknowledging, id_of, is_tail, length_of, newest, newest_object, object_within, predecessor, successor, with_entries}
use Rattle.craq_model.specs.Sends.{entry_bodies, send, send_all, tick_sends, to_neighbour}
use Rattle.craq_model.specs.Settle.{Transition, all_committed, all_given, answer_outs, is_reached, read_answer, readiness_transition, settling_transition, transition_ignoring, transition_with, update_given, without_reached}
use Rattle.craq_refinement.proofs.Members.{is_id-some}
use Rattle.craq_runs.specs.Chain.{sent_in}
use Rattle.craq_recovery.proofs.Costs.{Costs, Fits, Within, cost, cost_all, costs_answers, costs_both, costs_neighbour, costs_none, costs_one, fill_cost, passed_cost, ready_tick_cost, runs_of_batch, tick_cost, top}
use Rattle.craq_recovery.proofs.Lines.{by_test}

-- a node holds what another does, or has a predecessor that sent it more
abbrev pub Grows : Plain → Plain → Type 0
Grows p q = ((length_of q ≡ length_of p) × (newest q ≡ newest p)) ⊎ ((id : ℕ) × (predecessor q ≡ Some id))

-- the cost of a node until it becomes ready
abbrev pub load : ℕ → Plain → ℕ
load s p = cond p.ready 0 s

module _ (e i r : ℕ) (small : top e i r ≤ greatest_count) where
  -- a step for which this amount pays
  pub record Turned (b : ℕ) (p : Plain) (t : Transition) : Type 0 where
    pub readies : load (top e i r) t.0 ≤ load (top e i r) p
    pub reads : length t.0.waiting_reads ≤ length p.waiting_reads
    pub grows : Grows p t.0
    pub spends : Within e i r t.0 → cost_all (top e i r) (sent_in t.1.outs) + load (top e i r) t.0 ≤ b + load (top e i r) p
    pub most : Within e i r t.0 → cost_all (top e i r) (sent_in t.1.outs) ≤ suc (top e i r)
    pub fits : Within e i r t.0 → AllByRecursion Fits t.1.outs

  load_same : (p q : Plain) → q.ready ≡ p.ready → load (top e i r) q ≡ load (top e i r) p
  load_same p q is = ap (λ (b : Bool). cond b 0 (top e i r)) is

  -- a step of a node whose readiness is unchanged
  turned : (b n : ℕ) (p : Plain) (t : Transition) → t.0.ready ≡ p.ready → length t.0.waiting_reads ≤ length p.waiting_reads → Grows p t.0
      → (Within e i r t.0 → Costs (top e i r) n t.1.outs) → n ≤ b → (Within e i r t.0 → n ≤ suc (top e i r)) → Turned b p t
  turned b n p t ready reads grows does pays few =
      let l : load (top e i r) t.0 ≡ load (top e i r) p = load_same p t.0 ready in
      record {
        readies = omega (arith, l);
        reads = reads;
        grows = grows;
        spends = λ w. let c : Costs (top e i r) n t.1.outs = does w in omega (arith, l, c.costs, pays);
        most = λ w. let c : Costs (top e i r) n t.1.outs = does w in omega (arith, c.costs, few w);
        fits = λ w. let c : Costs (top e i r) n t.1.outs = does w in c.fits;
      }

  -- a step that sends nothing
  silent : (b : ℕ) (p : Plain) (t : Transition) → t.0.ready ≡ p.ready → length t.0.waiting_reads ≤ length p.waiting_reads → Grows p t.0 → t.1.outs ≡ [] → Turned b p t
  silent b p t ready reads grows none =
      let C : List Out → Type 0 = λ os. Costs (top e i r) 0 os in
      turned b 0 p t ready reads grows (λ w. subst C (sym none) (costs_none (top e i r))) (omega arith) (λ w. omega arith)

  still : (p : Plain) → Grows p p
  still p = inl (refl, refl)

  ignored : (b : ℕ) (p : Plain) (why : Why) → Turned b p (transition_ignoring p why)
  ignored b p why = silent b p (transition_ignoring p why) refl (omega arith) (still p) refl

  unless : (b : ℕ) (p : Plain) (test : Bool) (why : Why) (t : Transition) → Turned b p t → Turned b p (cond test (transition_ignoring p why) t)
  unless b p test why t h = by_test test (Turned b p) (transition_ignoring p why) t (ignored b p why) h

  -- the sender is the predecessor, or the message is ignored
  of_predecessor : (b : ℕ) (p : Plain) (sender : ℕ) (t : Transition) → (predecessor p ≡ Some sender → Turned b p t) → Turned b p (cond (not (is_id (predecessor p) sender)) (transition_ignoring p NotNeighbour) t)
  of_predecessor b p sender t go =
      cond_both (not (is_id (predecessor p) sender)) (transition_ignoring p NotNeighbour) t (Turned b p)
      (λ h. ignored b p NotNeighbour)
      (λ h. go (is_id-some (predecessor p) sender (not-false (is_id (predecessor p) sender) h)))

  committed_grows : (p q : Plain) → Grows p q → Grows p (all_committed q)
  unfolding newest
  committed_grows p q g = g

  -- a node that settles in a membership
  settled : (b : ℕ) (p q : Plain) → suc (top e i r) ≤ b → q.ready ≡ p.ready → length q.waiting_reads ≤ length p.waiting_reads → Grows p q → Turned b p (settling_transition q)
  unfolding settling_transition
  settled b p q pays ready reads grows =
      let c : Plain = all_committed q in
      by_test (is_tail q) (Turned b p) (transition_with c (answer_outs (all_given q) ++ tick_sends c)) (transition_with q (tick_sends q))
      (turned b (0 + suc (top e i r)) p (transition_with c (answer_outs (all_given q) ++ tick_sends c)) ready (omega arith) (committed_grows p q grows)
      (λ w. costs_both (costs_answers (top e i r) (all_given q)) (tick_cost e i r small c w)) (omega (arith, pays)) (λ w. omega arith))
      (turned b (suc (top e i r)) p (transition_with q (tick_sends q)) ready reads grows (λ w. tick_cost e i r small q w) pays (λ w. omega arith))

  -- a step of a node that becomes ready
  begun : (b n : ℕ) (p : Plain) (t : Transition) → p.ready ≡ false → t.0.ready ≡ true → length t.0.waiting_reads ≤ length p.waiting_reads → Grows p t.0
      → n ≤ top e i r → (Within e i r t.0 → Costs (top e i r) n t.1.outs) → Turned b p t
  begun b n p t unready ready reads grows few does =
      let was : load (top e i r) p ≡ top e i r = ap (λ (b : Bool). cond b 0 (top e i r)) unready in
      let now : load (top e i r) t.0 ≡ 0 = ap (λ (b : Bool). cond b 0 (top e i r)) ready in
      record {
        readies = omega (arith, now);
        reads = reads;
        grows = grows;
        spends = λ w. let c : Costs (top e i r) n t.1.outs = does w in omega (arith, was, now, c.costs, few);
        most = λ w. let c : Costs (top e i r) n t.1.outs = does w in omega (arith, c.costs, few);
        fits = λ w. let c : Costs (top e i r) n t.1.outs = does w in c.fits;
      }

  opened : (b : ℕ) (p q : Plain) → p.ready ≡ false → q.ready ≡ true → length q.waiting_reads ≤ length p.waiting_reads → Grows p q → Turned b p (settling_transition q)
  unfolding settling_transition
  opened b p q unready ready reads grows =
      let c : Plain = all_committed q in
      by_test (is_tail q) (Turned b p) (transition_with c (answer_outs (all_given q) ++ tick_sends c)) (transition_with q (tick_sends q))
      (begun b (0 + top e i r) p (transition_with c (answer_outs (all_given q) ++ tick_sends c)) unready ready (omega arith) (committed_grows p q grows) (omega arith)
      (λ w. costs_both (costs_answers (top e i r) (all_given q)) (ready_tick_cost e i r small c w ready)))
      (begun b (top e i r) p (transition_with q (tick_sends q)) unready ready reads grows (omega arith) (λ w. ready_tick_cost e i r small q w ready))

  both_front : (a b : Bool) → (a && b) ≡ true → a ≡ true
  both_front true b h = refl
  both_front false b h = absurd (cc)

  -- a node that may become ready
  readied : (b : ℕ) (p q : Plain) → q.ready ≡ p.ready → length q.waiting_reads ≤ length p.waiting_reads → Grows p q → Turned b p (readiness_transition q)
  unfolding readiness_transition without_reached newest
  readied b p q ready reads grows =
      let o : Plain = record q { ready = true; gathering = None } in
      cond_both (not q.ready && is_reached q.floor (length_of q)) (settling_transition o) (transition_with (without_reached q) []) (Turned b p)
      (λ h. opened b p o (sym ready ∙ not-true q.ready (both_front (not q.ready) (is_reached q.floor (length_of q)) h)) refl reads grows)
      (λ h. by_test (nat_le (gathered_position q.gathering) (length_of q)) (λ (x : Plain). Turned b p (transition_with x [])) (record q { gathering = None }) q
      (silent b p (transition_with (record q { gathering = None }) []) ready reads grows refl)
      (silent b p (transition_with q []) ready reads grows refl))

  -- ---- line by line

  config_turned : (p : Plain) (epoch : ℕ) (members : List ℕ) → Turned (suc (top e i r)) p (config_transition p epoch members)
  unfolding config_transition newest
  config_turned p epoch members =
      let b : ℕ = suc (top e i r) in
      let q : Plain = record p { epoch = epoch; members = members; floor = None; gathering = None } in
      unless b p (nat_le epoch p.epoch) OtherEpoch (cond (not (is_member members (id_of p))) (transition_ignoring p NotNeighbour) (settling_transition q))
      (unless b p (not (is_member members (id_of p))) NotNeighbour (settling_transition q) (settled b p q (omega arith) refl (omega arith) (inl (refl, refl))))

  forwarded : (b : ℕ) (p q : Plain) (es : List Entry) → chunk_count (length es) 16 ≤ b → 1 ≤ b → length es ≤ length_of q → q.ready ≡ p.ready → length q.waiting_reads ≤ length p.waiting_reads → Grows p q
      → Turned b p (forwarding_transition q es)
  unfolding forwarding_transition newest
  forwarded b p q es pays some held ready reads grows =
      let a : Plain = acknowledging q (length_of q) in
      let back : List Out = to_neighbour (predecessor q) (λ to. send q to (bodies.Ack (length_of q)) ∷ []) in
      let on : List Out = to_neighbour (successor q) (λ to. send_all q to (entry_bodies es)) in
      by_test (is_tail q) (Turned b p) (transition_with a back) (transition_with q on)
      (turned b 1 p (transition_with a back) ready reads grows
      (λ w. costs_neighbour (predecessor q) (λ to. send q to (bodies.Ack (length_of q)) ∷ []) (λ to. costs_one (top e i r) q to (bodies.Ack (length_of q)) refl)) some (λ w. omega arith))
      (turned b (chunk_count (length es) 16) p (transition_with q on) ready reads grows (λ w. passed_cost (top e i r) q es) pays (λ w. few_of (length es) (length_of q) held w.entries))
    where
      few_of : (n held : ℕ) → n ≤ held → held ≤ e → chunk_count n 16 ≤ suc (top e i r)
      few_of n held le bound = omega (arith, le, bound)

  filter_shorter : {A : Type 0} (f : A → Bool) (xs : List A) → length (filter f xs) ≤ length xs
  filter_shorter f [] = omega arith
  filter_shorter f (x ∷ xs) = let h : length (filter f xs) ≤ length xs = filter_shorter f xs in by_test (f x) (λ l. length l ≤ suc (length xs)) (x ∷ filter f xs) (filter f xs) (omega (arith, h)) (omega (arith, h))

  entries_turned : (b : ℕ) (p : Plain) (sender : ℕ) (es : List Entry) → suc (length es - 16) ≤ b → Turned b p (entries_transition p sender es)
  unfolding entries_transition entries_above
  entries_turned b p sender es pays =
      let new : List Entry = entries_above (length_of p) es in
      let q : Plain = with_entries p new in
      let shorter : length new ≤ length es = filter_shorter (λ (x : Entry). nat_lt (length_of p) x.position) es in
      let held : length new ≤ length_of q = omega (arith, length-append p.past.entries new) in
      let pay : chunk_count (length new) 16 ≤ b = omega (arith, runs_of_batch (length new) (length es) shorter, pays) in
      let t3 : Transition = appending_transition p new in
      let t2 : Transition = cond (nat_lt (length_of p + 1) (first_position es)) (transition_ignoring p OutOfOrder) t3 in
      let t1 : Transition = cond (nat_le (final_position es) (length_of p)) (transition_ignoring p AlreadyHave) t2 in
      of_predecessor b p sender t1
      (λ before.
      let grows : Grows p q = inr (sender, before) in
      unless b p (nat_le (final_position es) (length_of p)) AlreadyHave t2
      (unless b p (nat_lt (length_of p + 1) (first_position es)) OutOfOrder t3
      (by_test (are_applicable (newest p) new) (Turned b p) (taken_entries_transition q new) (transition_ignoring p TooFar)
      (by_test q.ready (Turned b p) (forwarding_transition q new) (readiness_transition q)
      (forwarded b p q new pay (omega (arith, pays)) held refl (omega arith) grows)
      (readied b p q refl (omega arith) grows))
      (ignored b p TooFar))))

  ack_turned : (p : Plain) (sender position : ℕ) → Turned 1 p (ack_transition p sender position)
  unfolding ack_transition acknowledgement_transition newest
  ack_turned p sender position =
      let answers : List Out = answer_outs (map update_given (pending_updates position p.waiting_updates)) in
      let back : List Out = to_neighbour (predecessor p) (λ to. send p to (bodies.Ack position) ∷ []) in
      let t4 : Transition = acknowledgement_transition p position in
      let t3 : Transition = cond (nat_lt (length_of p) position) (transition_ignoring p TooFar) t4 in
      let t2 : Transition = cond (nat_le position p.past.acknowledged) (transition_ignoring p AlreadyHave) t3 in
      let t1 : Transition = cond (not p.ready) (transition_ignoring p NotReadyHere) t2 in
      unless 1 p (not (is_id (successor p) sender)) NotNeighbour t1
      (unless 1 p (not p.ready) NotReadyHere t2
      (unless 1 p (nat_le position p.past.acknowledged) AlreadyHave t3
      (unless 1 p (nat_lt (length_of p) position) TooFar t4
      (turned 1 (0 + 1) p t4 refl (omega arith) (inl (refl, refl))
      (λ w. costs_both (costs_answers (top e i r) (map update_given (pending_updates position p.waiting_updates)))
      (costs_neighbour (predecessor p) (λ to. send p to (bodies.Ack position) ∷ []) (λ to. costs_one (top e i r) p to (bodies.Ack position) refl)))
      (omega arith) (λ w. omega arith)))))

  query_turned : (p : Plain) (sender ticket : ℕ) (key : List ℕ) → Turned 1 p (query_transition p sender ticket key)
  unfolding query_transition
  query_turned p sender ticket key =
      let body : Body = bodies.VersionIs ticket (newest_object p key).0 in
      let t2 : Transition = transition_with p (send p sender body ∷ []) in
      let t1 : Transition = cond (not (is_tail p)) (transition_ignoring p NotReadyHere) t2 in
      unless 1 p ((sender == id_of p) || not (is_member p.members sender)) NotNeighbour t1
      (unless 1 p (not (is_tail p)) NotReadyHere t2 (turned 1 1 p t2 refl (omega arith) (still p) (λ w. costs_one (top e i r) p sender body refl) (omega arith) (λ w. omega arith)))

  reported_turned : (p : Plain) (version : ℕ) (o : Option WaitingRead) → Turned 1 p (reported_version_transition p version o)
  unfolding reported_version_transition reads_without newest sent_in
  reported_turned p version None = ignored 1 p UnknownTicket
  reported_turned p version (Some x) =
      let t : Transition = transition_with (record p { waiting_reads = reads_without x.ticket p.waiting_reads }) (outs.Answer x.ticket (read_answer (object_within p x.key (answering_version p x.key version))) ∷ []) in
      unless 1 p (nat_lt (newest_object p x.key).0 version) TooFar t
      (turned 1 0 p t refl (filter_shorter (λ (y : WaitingRead). not (y.ticket == x.ticket)) p.waiting_reads) (inl (refl, refl)) (λ w. record { costs = omega arith; fits = (refl, tt) }) (omega arith) (λ w. omega arith))

  version_turned : (p : Plain) (sender ticket version : ℕ) → Turned 1 p (version_transition p sender ticket version)
  unfolding version_transition
  version_turned p sender ticket version =
      let t1 : Transition = reported_version_transition p version (read_with ticket p.waiting_reads) in
      unless 1 p (not (sender == last_of p.members)) NotNeighbour t1 (reported_turned p version (read_with ticket p.waiting_reads))

  blank_turned : (p : Plain) (sender count : ℕ) → Turned (suc (top e i r)) p (blank_transition p sender count)
  unfolding blank_transition
  blank_turned p sender count =
      let b : ℕ = suc (top e i r) in
      let t2 : Transition = transition_with p (send_all p sender (fill_bodies p count)) in
      let t1 : Transition = cond (not p.ready) (transition_ignoring p NotReadyHere) t2 in
      unless b p (not (is_id (successor p) sender)) NotNeighbour t1
      (unless b p (not p.ready) NotReadyHere t2
      (turned b (top e i r) p t2 refl (omega arith) (still p) (λ w. fill_cost e i r small p sender count w) (omega arith) (λ w. omega arith)))

  copy_turned : (p : Plain) (sender position : ℕ) (state : State) → Turned 1 p (copy_transition p sender position state)
  unfolding copy_transition
  copy_turned p sender position state =
      let q : Plain = with_copy p position state in
      let t2 : Transition = readiness_transition q in
      let t1 : Transition = cond (p.ready || nat_le position (length_of p)) (transition_ignoring p AlreadyHave) t2 in
      of_predecessor 1 p sender t1
      (λ before. unless 1 p (p.ready || nat_le position (length_of p)) AlreadyHave t2 (readied 1 p q refl (omega arith) (inr (sender, before))))

  gathering_turned : (p : Plain) (sender : ℕ) (g : Gathering) (part : StatePart) → predecessor p ≡ Some sender → Turned 1 p (gathering_transition p g part)
  unfolding newest
  gathering_turned p sender g part before =
      let h : Gathering = with_part g part in
      let q : Plain = with_copy p h.position (joined_state h.parts) in
      let t3 : Transition = gathered_transition p h in
      let t2 : Transition = cond (not (is_in_order g part)) (transition_ignoring p TooFar) t3 in
      let t1 : Transition = cond (is_some (at_number g.parts part.number)) (transition_ignoring p AlreadyHave) t2 in
      unless 1 p (not (part.count == g.count)) TooFar t1
      (unless 1 p (is_some (at_number g.parts part.number)) AlreadyHave t2
      (unless 1 p (not (is_in_order g part)) TooFar t3
      (by_test (is_whole h) (Turned 1 p) (readiness_transition q) (transition_with (record p { gathering = Some h }) [])
      (readied 1 p q refl (omega arith) (inr (sender, before)))
      (silent 1 p (transition_with (record p { gathering = Some h }) []) refl (omega arith) (inl (refl, refl)) refl))))

  part_turned : (p : Plain) (sender : ℕ) (part : StatePart) → Turned 1 p (part_transition p sender part)
  unfolding part_transition
  part_turned p sender part =
      let t2 : Transition = gathering_transition p (gathering_for part p.gathering) part in
      let t1 : Transition = cond (p.ready || is_outdated p part) (transition_ignoring p AlreadyHave) t2 in
      of_predecessor 1 p sender t1 (λ before. unless 1 p (p.ready || is_outdated p part) AlreadyHave t2 (gathering_turned p sender (gathering_for part p.gathering) part before))

  floor_turned : (p : Plain) (sender count : ℕ) → Turned 1 p (floor_transition p sender count)
  unfolding floor_transition newest
  floor_turned p sender count =
      let q : Plain = record p { floor = Some count } in
      let t2 : Transition = readiness_transition q in
      let t1 : Transition = cond p.ready (transition_ignoring p AlreadyHave) t2 in
      unless 1 p (not (is_id (predecessor p) sender)) NotNeighbour t1 (unless 1 p p.ready AlreadyHave t2 (readied 1 p q refl (omega arith) (inl (refl, refl))))

  epoch_turned : (b : ℕ) (p : Plain) (m : LinkMessage) (t : Transition) → Turned b p t → Turned b p (transition_in_epoch p m t)
  epoch_turned b p m t h = by_test (m.epoch == p.epoch) (Turned b p) t (transition_ignoring p OtherEpoch) h (ignored b p OtherEpoch)

  body_turned : (p : Plain) (m : LinkMessage) (b : Body) → Turned (cost (top e i r) b) p (body_transition p m b)
  body_turned p m (bodies.Config members) = config_turned p m.epoch members
  body_turned p m (bodies.Entry x) = epoch_turned 1 p m (entries_transition p m.sender (x ∷ [])) (entries_turned 1 p m.sender (x ∷ []) (omega arith))
  body_turned p m (bodies.Batch es) = epoch_turned (suc (length es - 16)) p m (entries_transition p m.sender es) (entries_turned (suc (length es - 16)) p m.sender es (omega arith))
  body_turned p m (bodies.Part part) = epoch_turned 1 p m (part_transition p m.sender part) (part_turned p m.sender part)
  body_turned p m (bodies.Ack position) = epoch_turned 1 p m (ack_transition p m.sender position) (ack_turned p m.sender position)
  body_turned p m (bodies.Query ticket key) = epoch_turned 1 p m (query_transition p m.sender ticket key) (query_turned p m.sender ticket key)
  body_turned p m (bodies.VersionIs ticket version) = epoch_turned 1 p m (version_transition p m.sender ticket version) (version_turned p m.sender ticket version)
  body_turned p m (bodies.Blank count) = epoch_turned (suc (top e i r)) p m (blank_transition p m.sender count) (blank_turned p m.sender count)
  body_turned p m (bodies.Copy position state) = epoch_turned 1 p m (copy_transition p m.sender position state) (copy_turned p m.sender position state)
  body_turned p m (bodies.Floor count) = epoch_turned 1 p m (floor_transition p m.sender count) (floor_turned p m.sender count)

  pub delivery_turned : (p : Plain) (m : LinkMessage) → Turned (cost (top e i r) m.body) p (delivery_transition p m)
  delivery_turned p m = body_turned p m m.body
