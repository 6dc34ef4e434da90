-- The replies, queries and waiting requests after a step, line by line.
use Rattle.std.proofs.Common.{◌≡◌, ℕ, ◌+◌, ◌≤◌, ◌==◌, nat_le, nat_lt, max, Bool, true, false, not, cond, ◌&&◌, ◌||◌, List, [], ◌∷◌, ◌++◌, map, filter, find, is_some, Option, Some, None, refl, sym, subst}
use Rattle.std.specs.Prelude.{⊤}
use Rattle.std.specs.List.{AllByRecursion}
use Rattle.std.proofs.lemmas.Bool.{cond_both, leb-true, ltb-false, not-false, eqb-true}
use Rattle.craq_commands.specs.declared.entry.Entry.{Entry}
use Rattle.craq_commands.specs.declared.state.State.{State}
use Rattle.craq_model.specs.declared.message.Body.{Body}
use Rattle.craq_model.specs.declared.message.Body.TheVariants as bodies
use Rattle.craq_model.specs.declared.message.LinkMessage.{LinkMessage}
use Rattle.craq_names.specs.Maps.{at_number}
use Rattle.craq_names.proofs.Lists.{all_append, all_filter}
use Rattle.craq_model.specs.declared.gathering.Gathering.{Gathering}
use Rattle.craq_model.specs.declared.message.StatePart.{StatePart}
use Rattle.craq_model.specs.Parts.{gathered_position, gathering_for, is_in_order, with_part, is_whole, joined_state}
use Rattle.craq_model.specs.declared.ask.Answer.{Answer}
use Rattle.craq_model.specs.declared.ask.Answer.TheVariants as answers
use Rattle.craq_model.specs.declared.step.Out.{Out}
use Rattle.craq_model.specs.declared.step.Out.TheVariants as outs
use Rattle.craq_model.specs.declared.step.Why.{Why}
use Rattle.craq_model.specs.declared.step.Why.TheVariants.{OtherEpoch, NotNeighbour, OutOfOrder, AlreadyHave, NotReadyHere, UnknownTicket, TooFar}
use Rattle.craq_model.specs.declared.waiting.WaitingUpdate.{WaitingUpdate}
use Rattle.craq_model.specs.declared.waiting.WaitingRead.{WaitingRead}
use Rattle.craq_model.specs.Members.{is_member, is_id, last_of}
use Rattle.craq_model.specs.Plain.{Plain, id_of, successor, predecessor, is_tail, length_of, newest, newest_object, clean, object_within, with_entries, acknowledging}
use Rattle.craq_model.specs.Sends.{send, send_all, to_neighbour, entry_bodies, copy_bodies, catch_up, tick_sends}
use Rattle.craq_model.specs.Settle.{Transition, transition_with, transition_ignoring, read_answer, Given, update_given, read_given, insert_given, by_ticket, all_given, all_committed, answer_outs, is_reached, settling_transition, without_reached, readiness_transition}
use Rattle.craq_model.specs.Deliveries.{config_transition, are_applicable, forwarding_transition, taken_entries_transition, first_position, final_position, entries_above, entries_transition, pending_updates, later_updates, acknowledgement_transition, ack_transition, query_transition, read_with, reads_without, answering_version, reported_version_transition, version_transition, fill_bodies, blank_transition, with_copy, copy_transition, gathered_transition, gathering_transition, is_outdated, part_transition, floor_transition, transition_in_epoch, body_transition}
use Rattle.craq_strong_answers.proofs.Outs.{Says, AllReported, reported_both, reported_answers, reported_sends, reported_neighbour, says_entry_bodies, says_copy_bodies, says_catch_up, reported_tick}

-- a property of each element that passes a test
pub all_passing : {A : Type 0} (P S : A → Type 0) (test : A → Bool) (xs : List A) → ((x : A) → P x → test x ≡ true → S x) → AllByRecursion P xs → AllByRecursion S (filter test xs)
all_passing P S test [] f a = tt
all_passing {A} P S test (x ∷ xs) f a =
    cond_both (test x) (x ∷ filter test xs) (filter test xs) (λ (l : List A). AllByRecursion S l) (λ e. (f x a.0 e, all_passing P S test xs f a.1)) (λ e. all_passing P S test xs f a.1)

all_mapped : {A B : Type 0} (P : A → Type 0) (S : B → Type 0) (f : A → B) (xs : List A) → ((x : A) → P x → S (f x)) → AllByRecursion P xs → AllByRecursion S (map f xs)
all_mapped P S f [] g a = tt
all_mapped P S f (x ∷ xs) g a = (g x a.0, all_mapped P S f xs g a.1)

all_inserted : (S : Given → Type 0) (g : Given) (gs : List Given) → S g → AllByRecursion S gs → AllByRecursion S (insert_given g gs)
unfolding insert_given
all_inserted S g [] s a = (s, tt)
all_inserted S g (h ∷ hs) s a =
    cond_both (nat_lt g.0 h.0) (g ∷ h ∷ hs) (h ∷ insert_given g hs) (λ (l : List Given). AllByRecursion S l) (λ e. (s, (a.0, a.1))) (λ e. (a.0, all_inserted S g hs s a.1))

all_sorted : (S : Given → Type 0) (gs : List Given) → AllByRecursion S gs → AllByRecursion S (by_ticket gs)
unfolding by_ticket
all_sorted S [] a = tt
all_sorted S (g ∷ gs) a = all_inserted S g (by_ticket gs) a.0 (all_sorted S gs a.1)

module _ (P : WaitingUpdate → Type 0) (R : WaitingRead → Type 0) (G : ℕ → Answer → Type 0) (Q : ℕ → ℕ → List ℕ → Type 0) (V : ℕ → ℕ → ℕ → Type 0) where
  -- the requests that wait, and the content of a step's outputs
  pub record Gives (t : Transition) : Type 0 where
    pub updates : AllByRecursion P t.0.waiting_updates
    pub reads : AllByRecursion R t.0.waiting_reads
    pub reported : AllReported G Q V t.1.outs

  -- the replies that a node may give after its step
  pub record MayAnswer (q : Plain) : Type 0 where
    pub tail_updates : is_tail q ≡ true → (u : WaitingUpdate) → P u → G u.ticket (answers.Update u.reply)
    pub tail_reads : is_tail q ≡ true → (r : WaitingRead) → R r → G r.ticket (read_answer (newest_object q r.key))
    pub acknowledged : q.ready ≡ true → (u : WaitingUpdate) → P u → u.position ≤ q.past.acknowledged → G u.ticket (answers.Update u.reply)

  -- the requests that wait at a node, and the queries about them
  pub record Waits (p : Plain) : Type 0 where
    pub updates : AllByRecursion P p.waiting_updates
    pub reads : AllByRecursion R p.waiting_reads
    pub asks : (r : WaitingRead) → R r → Q (id_of p) r.ticket r.key

  questions : (p : Plain) → Waits p → AllByRecursion (λ (r : WaitingRead). Q (id_of p) r.ticket r.key) p.waiting_reads
  questions p w = like p.waiting_reads w.reads
    where
      like : (rs : List WaitingRead) → AllByRecursion R rs → AllByRecursion (λ (r : WaitingRead). Q (id_of p) r.ticket r.key) rs
      like [] a = tt
      like (r ∷ rs) a = (w.asks r a.0, like rs a.1)

  quiet : (p : Plain) → Waits p → (os : List Out) → AllReported G Q V os → Gives (transition_with p os)
  quiet p w os a = record { updates = w.updates; reads = w.reads; reported = a }

  ignored : (p : Plain) → Waits p → (why : Why) → Gives (transition_ignoring p why)
  ignored p w why = record { updates = w.updates; reads = w.reads; reported = tt }

  -- a test by which a message is ignored
  guard : (p : Plain) → Waits p → (b : Bool) (why : Why) (t : Transition) → MayAnswer (cond b (transition_ignoring p why) t).0 → (b ≡ false → MayAnswer t.0 → Gives t) → Gives (cond b (transition_ignoring p why) t)
  guard p w b why t m go = cond_both b (transition_ignoring p why) t (λ (t : Transition). MayAnswer t.0 → Gives t) (λ e m. ignored p w why) (λ e m. go e m) m

  all_answers : (p : Plain) → Waits p → is_tail p ≡ true → MayAnswer (all_committed p) → AllByRecursion (λ (g : Given). G g.0 g.1) (all_given p)
  unfolding all_given newest
  all_answers p w t m =
      let S : Given → Type 0 = λ g. G g.0 g.1 in
      all_sorted S (map update_given p.waiting_updates ++ map (read_given p) p.waiting_reads)
      (all_append S (map update_given p.waiting_updates) (map (read_given p) p.waiting_reads)
      (all_mapped P S update_given p.waiting_updates (λ u h. m.tail_updates t u h) w.updates)
      (all_mapped R S (read_given p) p.waiting_reads (λ r h. m.tail_reads t r h) w.reads))

  settling : (p : Plain) → Waits p → MayAnswer (settling_transition p).0 → Gives (settling_transition p)
  unfolding settling_transition
  settling p w m =
      let all : List Out = answer_outs (all_given p) ++ tick_sends (all_committed p) in
      cond_both (is_tail p) (transition_with (all_committed p) all) (transition_with p (tick_sends p)) (λ (t : Transition). MayAnswer t.0 → Gives t)
      (λ e m. record {
        updates = tt;
        reads = tt;
        reported = reported_both G Q V (answer_outs (all_given p)) (tick_sends (all_committed p)) (reported_answers G Q V (all_given p) (all_answers p w e m)) (reported_tick G Q V (all_committed p) tt);
      })
      (λ e m. quiet p w (tick_sends p) (reported_tick G Q V p (questions p w)))
      m

  pub like_waits : (p q : Plain) → Waits p → q.waiting_updates ≡ p.waiting_updates → q.waiting_reads ≡ p.waiting_reads → id_of q ≡ id_of p → Waits q
  like_waits p q w u r i = record {
    updates = let S : List WaitingUpdate → Type 0 = λ l. AllByRecursion P l in subst S (sym u) w.updates;
    reads = let S : List WaitingRead → Type 0 = λ l. AllByRecursion R l in subst S (sym r) w.reads;
    asks = λ x h. let S : ℕ → Type 0 = λ j. Q j x.ticket x.key in subst S (sym i) (w.asks x h);
  }

  waits_on : (p : Plain) → Waits p → Waits (without_reached p)
  unfolding without_reached
  waits_on p w =
      let q : Plain = record p { gathering = None } in
      cond_both (nat_le (gathered_position p.gathering) (length_of p)) q p (λ (x : Plain). Waits x) (λ e. like_waits p q w refl refl refl) (λ e. w)

  becoming : (p : Plain) → Waits p → MayAnswer (readiness_transition p).0 → Gives (readiness_transition p)
  unfolding readiness_transition
  becoming p w m =
      let q : Plain = record p { ready = true; gathering = None } in
      cond_both (not p.ready && is_reached p.floor (length_of p)) (settling_transition q) (transition_with (without_reached p) []) (λ (t : Transition). MayAnswer t.0 → Gives t)
      (λ e m. settling q (like_waits p q w refl refl refl) m)
      (λ e m. quiet (without_reached p) (waits_on p w) [] tt)
      m

  config_gives : (p : Plain) → Waits p → (epoch : ℕ) (members : List ℕ) → MayAnswer (config_transition p epoch members).0 → Gives (config_transition p epoch members)
  unfolding config_transition
  config_gives p w epoch members m =
      let q : Plain = record p { epoch = epoch; members = members; floor = None; gathering = None } in
      guard p w (nat_le epoch p.epoch) OtherEpoch (cond (not (is_member members (id_of p))) (transition_ignoring p NotNeighbour) (settling_transition q)) m
      (λ e m. guard p w (not (is_member members (id_of p))) NotNeighbour (settling_transition q) m (λ f m. settling q (like_waits p q w refl refl refl) m))

  forwarding : (p : Plain) → Waits p → (es : List Entry) → Gives (forwarding_transition p es)
  unfolding forwarding_transition
  forwarding p w es =
      let acks : ℕ → List Out = λ to. send p to (bodies.Ack (length_of p)) ∷ [] in
      let entries : ℕ → List Out = λ to. send_all p to (entry_bodies es) in
      let q : Plain = acknowledging p (length_of p) in
      cond_both (is_tail p) (transition_with q (to_neighbour (predecessor p) acks)) (transition_with p (to_neighbour (successor p) entries)) (λ (t : Transition). Gives t)
      (λ t. quiet q (like_waits p q w refl refl refl) (to_neighbour (predecessor p) acks) (reported_neighbour G Q V (predecessor p) acks (λ to. ((refl, tt), tt))))
      (λ t. quiet p w (to_neighbour (successor p) entries) (reported_neighbour G Q V (successor p) entries (λ to. reported_sends G Q V p to (entry_bodies es) (says_entry_bodies G Q V (id_of p) to es))))

  entries_give : (p : Plain) → Waits p → (sender : ℕ) (es : List Entry) → MayAnswer (entries_transition p sender es).0 → Gives (entries_transition p sender es)
  unfolding entries_transition
  entries_give p w sender es m =
      let new : List Entry = entries_above (length_of p) es in
      let q : Plain = with_entries p new in
      let wq : Waits q = like_waits p q w refl refl refl in
      let last : Transition = taken_entries_transition q new in
      let third : Transition = cond (are_applicable (newest p) new) last (transition_ignoring p TooFar) in
      let second : Transition = cond (nat_lt (length_of p + 1) (first_position es)) (transition_ignoring p OutOfOrder) third in
      let first : Transition = cond (nat_le (final_position es) (length_of p)) (transition_ignoring p AlreadyHave) second in
      guard p w (not (is_id (predecessor p) sender)) NotNeighbour first m
      (λ a m. guard p w (nat_le (final_position es) (length_of p)) AlreadyHave second m
      (λ b m. guard p w (nat_lt (length_of p + 1) (first_position es)) OutOfOrder third m
      (λ d m. cond_both (are_applicable (newest p) new) last (transition_ignoring p TooFar) (λ (t : Transition). MayAnswer t.0 → Gives t)
      (λ g m. cond_both p.ready (forwarding_transition q new) (readiness_transition q) (λ (t : Transition). MayAnswer t.0 → Gives t) (λ r m. forwarding q wq new) (λ r m. becoming q wq m) m)
      (λ g m. ignored p w TooFar)
      m)))

  hearing : (p : Plain) → Waits p → (position : ℕ) → p.ready ≡ true → MayAnswer (acknowledgement_transition p position).0 → Gives (acknowledgement_transition p position)
  unfolding acknowledgement_transition pending_updates later_updates
  hearing p w position ready m =
      let S : Given → Type 0 = λ g. G g.0 g.1 in
      let pending : WaitingUpdate → Bool = λ u. nat_le u.position position in
      let gs : List Given = map update_given (filter pending p.waiting_updates) in
      let acks : ℕ → List Out = λ to. send p to (bodies.Ack position) ∷ [] in
      let T : WaitingUpdate → Type 0 = λ u. G u.ticket (answers.Update u.reply) in
      record {
        updates = all_filter P (λ (u : WaitingUpdate). nat_lt position u.position) p.waiting_updates w.updates;
        reads = w.reads;
        reported = reported_both G Q V (answer_outs gs) (to_neighbour (predecessor p) acks)
            (reported_answers G Q V gs (all_mapped T S update_given (filter pending p.waiting_updates) (λ u h. h)
            (all_passing P T pending p.waiting_updates (λ u h e. m.acknowledged ready u h (leb-true u.position position e)) w.updates)))
            (reported_neighbour G Q V (predecessor p) acks (λ to. ((refl, tt), tt)));
      }

  ack_gives : (p : Plain) → Waits p → (sender position : ℕ) → MayAnswer (ack_transition p sender position).0 → Gives (ack_transition p sender position)
  unfolding ack_transition
  ack_gives p w sender position m =
      let last : Transition = acknowledgement_transition p position in
      let third : Transition = cond (nat_lt (length_of p) position) (transition_ignoring p TooFar) last in
      let second : Transition = cond (nat_le position p.past.acknowledged) (transition_ignoring p AlreadyHave) third in
      let first : Transition = cond (not p.ready) (transition_ignoring p NotReadyHere) second in
      guard p w (not (is_id (successor p) sender)) NotNeighbour first m
      (λ a m. guard p w (not p.ready) NotReadyHere second m
      (λ b m. guard p w (nat_le position p.past.acknowledged) AlreadyHave third m
      (λ d m. guard p w (nat_lt (length_of p) position) TooFar last m
      (λ g m. hearing p w position (not-false p.ready b) m))))

  -- a tail's report of a version
  query_gives : (p : Plain) → Waits p → (sender ticket : ℕ) (key : List ℕ) → (is_tail p ≡ true → V sender ticket (newest_object p key).0) → Gives (query_transition p sender ticket key)
  unfolding query_transition
  query_gives p w sender ticket key v =
      let last : Transition = transition_with p (send p sender (bodies.VersionIs ticket (newest_object p key).0) ∷ []) in
      cond_both ((sender == id_of p) || not (is_member p.members sender)) (transition_ignoring p NotNeighbour) (cond (not (is_tail p)) (transition_ignoring p NotReadyHere) last) (λ (t : Transition). Gives t)
      (λ e. ignored p w NotNeighbour)
      (λ e. cond_both (not (is_tail p)) (transition_ignoring p NotReadyHere) last (λ (t : Transition). Gives t)
      (λ f. ignored p w NotReadyHere)
      (λ f. quiet p w (send p sender (bodies.VersionIs ticket (newest_object p key).0) ∷ []) ((refl, v (not-false (is_tail p) f)), tt)))

  -- the reply to a read whose version is reported
  reported_gives : (p : Plain) → Waits p → (ticket version : ℕ) (o : Option WaitingRead)
      → ((r : WaitingRead) → o ≡ Some r → R r → version ≤ (newest_object p r.key).0 → G r.ticket (read_answer (object_within p r.key (answering_version p r.key version))))
      → ((r : WaitingRead) → o ≡ Some r → R r) → Gives (reported_version_transition p version o)
  unfolding reported_version_transition reads_without
  reported_gives p w ticket version None f g = ignored p w UnknownTicket
  reported_gives p w ticket version (Some r) f g =
      let q : Plain = record p { waiting_reads = filter (λ (x : WaitingRead). not (x.ticket == r.ticket)) p.waiting_reads } in
      let os : List Out = outs.Answer r.ticket (read_answer (object_within p r.key (answering_version p r.key version))) ∷ [] in
      cond_both (nat_lt (newest_object p r.key).0 version) (transition_ignoring p TooFar) (transition_with q os) (λ (t : Transition). Gives t)
      (λ e. ignored p w TooFar)
      (λ e. record { updates = w.updates; reads = all_filter R (λ (x : WaitingRead). not (x.ticket == r.ticket)) p.waiting_reads w.reads; reported = (f r refl (g r refl) (ltb-false (newest_object p r.key).0 version e), tt) })

  read_found : (ticket : ℕ) (rs : List WaitingRead) (r : WaitingRead) → AllByRecursion R rs → read_with ticket rs ≡ Some r → R r × (r.ticket ≡ ticket)
  unfolding read_with
  read_found ticket [] r a h = absurd (cc)
  read_found ticket (x ∷ rs) r a h =
      cond_both (x.ticket == ticket) (Some x) (find (λ (r : WaitingRead). r.ticket == ticket) rs) (λ (o : Option WaitingRead). o ≡ Some r → R r × (r.ticket ≡ ticket))
      (λ e i. let same : x ≡ r = cc in let S : WaitingRead → Type 0 = λ r. R r × (r.ticket ≡ ticket) in subst S same (a.0, eqb-true x.ticket ticket e))
      (λ e i. read_found ticket rs r a.1 i)
      h

  version_gives : (p : Plain) → Waits p → (sender ticket version : ℕ)
      → ((r : WaitingRead) → R r → r.ticket ≡ ticket → version ≤ (newest_object p r.key).0 → G r.ticket (read_answer (object_within p r.key (answering_version p r.key version))))
      → Gives (version_transition p sender ticket version)
  unfolding version_transition
  version_gives p w sender ticket version f =
      cond_both (not (sender == last_of p.members)) (transition_ignoring p NotNeighbour) (reported_version_transition p version (read_with ticket p.waiting_reads)) (λ (t : Transition). Gives t)
      (λ e. ignored p w NotNeighbour)
      (λ e. reported_gives p w ticket version (read_with ticket p.waiting_reads)
      (λ r h x le. f r x (read_found ticket p.waiting_reads r w.reads h).1 le)
      (λ r h. (read_found ticket p.waiting_reads r w.reads h).0))

  says_fill : (p : Plain) (count to : ℕ) → AllByRecursion (Says Q V (id_of p) to) (fill_bodies p count)
  unfolding fill_bodies
  says_fill p count to =
      let copies : List Body = copy_bodies p.past.acknowledged (clean p) in
      all_append (Says Q V (id_of p) to) (cond (nat_lt count p.past.acknowledged) copies []) (catch_up p (max count p.past.acknowledged))
      (cond_both (nat_lt count p.past.acknowledged) copies [] (λ (l : List Body). AllByRecursion (Says Q V (id_of p) to) l) (λ e. says_copy_bodies G Q V (id_of p) to p.past.acknowledged (clean p)) (λ e. tt))
      (says_catch_up G Q V p (max count p.past.acknowledged) (id_of p) to)

  blank_gives : (p : Plain) → Waits p → (sender count : ℕ) → Gives (blank_transition p sender count)
  unfolding blank_transition
  blank_gives p w sender count =
      let last : Transition = transition_with p (send_all p sender (fill_bodies p count)) in
      cond_both (not (is_id (successor p) sender)) (transition_ignoring p NotNeighbour) (cond (not p.ready) (transition_ignoring p NotReadyHere) last) (λ (t : Transition). Gives t)
      (λ e. ignored p w NotNeighbour)
      (λ e. cond_both (not p.ready) (transition_ignoring p NotReadyHere) last (λ (t : Transition). Gives t)
      (λ f. ignored p w NotReadyHere)
      (λ f. quiet p w (send_all p sender (fill_bodies p count)) (reported_sends G Q V p sender (fill_bodies p count) (says_fill p count sender))))

  copy_gives : (p : Plain) → Waits p → (sender position : ℕ) (state : State) → MayAnswer (copy_transition p sender position state).0 → Gives (copy_transition p sender position state)
  unfolding copy_transition
  copy_gives p w sender position state m =
      let q : Plain = with_copy p position state in
      guard p w (not (is_id (predecessor p) sender)) NotNeighbour (cond (p.ready || nat_le position (length_of p)) (transition_ignoring p AlreadyHave) (readiness_transition q)) m
      (λ a m. guard p w (p.ready || nat_le position (length_of p)) AlreadyHave (readiness_transition q) m (λ b m. becoming q (like_waits p q w refl refl refl) m))

  gathered_gives : (p : Plain) → Waits p → (g : Gathering) → MayAnswer (gathered_transition p g).0 → Gives (gathered_transition p g)
  gathered_gives p w g m =
      let q : Plain = with_copy p g.position (joined_state g.parts) in
      let r : Plain = record p { gathering = Some g } in
      cond_both (is_whole g) (readiness_transition q) (transition_with r []) (λ (t : Transition). MayAnswer t.0 → Gives t)
      (λ e m. becoming q (like_waits p q w refl refl refl) m)
      (λ e m. quiet r (like_waits p r w refl refl refl) [] tt)
      m

  part_gives : (p : Plain) → Waits p → (sender : ℕ) (part : StatePart) → MayAnswer (part_transition p sender part).0 → Gives (part_transition p sender part)
  unfolding part_transition
  part_gives p w sender part m =
      let g : Gathering = gathering_for part p.gathering in
      let last : Transition = gathered_transition p (with_part g part) in
      let fourth : Transition = cond (not (is_in_order g part)) (transition_ignoring p TooFar) last in
      let third : Transition = cond (is_some (at_number g.parts part.number)) (transition_ignoring p AlreadyHave) fourth in
      let second : Transition = gathering_transition p g part in
      let first : Transition = cond (p.ready || is_outdated p part) (transition_ignoring p AlreadyHave) second in
      guard p w (not (is_id (predecessor p) sender)) NotNeighbour first m
      (λ a m. guard p w (p.ready || is_outdated p part) AlreadyHave second m
      (λ b m. guard p w (not (part.count == g.count)) TooFar third m
      (λ d m. guard p w (is_some (at_number g.parts part.number)) AlreadyHave fourth m
      (λ e m. guard p w (not (is_in_order g part)) TooFar last m (λ f m. gathered_gives p w (with_part g part) m)))))

  floor_gives : (p : Plain) → Waits p → (sender count : ℕ) → MayAnswer (floor_transition p sender count).0 → Gives (floor_transition p sender count)
  unfolding floor_transition
  floor_gives p w sender count m =
      let q : Plain = record p { floor = Some count } in
      guard p w (not (is_id (predecessor p) sender)) NotNeighbour (cond p.ready (transition_ignoring p AlreadyHave) (readiness_transition q)) m
      (λ a m. guard p w p.ready AlreadyHave (readiness_transition q) m (λ b m. becoming q (like_waits p q w refl refl refl) m))

  -- ---- any message

  -- the further conditions for a message, by its body
  abbrev pub MayTell : Plain → LinkMessage → Body → Type 0
  MayTell p m (bodies.Config members) = ⊤
  MayTell p m (bodies.Entry e) = ⊤
  MayTell p m (bodies.Ack position) = ⊤
  MayTell p m (bodies.Query ticket key) = is_tail p ≡ true → V m.sender ticket (newest_object p key).0
  MayTell p m (bodies.VersionIs ticket version) =
      (r : WaitingRead) → R r → r.ticket ≡ ticket → version ≤ (newest_object p r.key).0 → G r.ticket (read_answer (object_within p r.key (answering_version p r.key version)))
  MayTell p m (bodies.Blank count) = ⊤
  MayTell p m (bodies.Batch es) = ⊤
  MayTell p m (bodies.Copy position state) = ⊤
  MayTell p m (bodies.Part part) = ⊤
  MayTell p m (bodies.Floor count) = ⊤

  -- the conditions for replies, by the message's body
  abbrev pub AnswersOf : Plain → LinkMessage → Body → Type 0
  AnswersOf p m (bodies.Config members) = MayAnswer (body_transition p m (bodies.Config members)).0
  AnswersOf p m (bodies.Entry e) = MayAnswer (body_transition p m (bodies.Entry e)).0
  AnswersOf p m (bodies.Ack position) = MayAnswer (body_transition p m (bodies.Ack position)).0
  AnswersOf p m (bodies.Query ticket key) = ⊤
  AnswersOf p m (bodies.VersionIs ticket version) = ⊤
  AnswersOf p m (bodies.Blank count) = ⊤
  AnswersOf p m (bodies.Batch es) = MayAnswer (body_transition p m (bodies.Batch es)).0
  AnswersOf p m (bodies.Copy position state) = MayAnswer (body_transition p m (bodies.Copy position state)).0
  AnswersOf p m (bodies.Part part) = MayAnswer (body_transition p m (bodies.Part part)).0
  AnswersOf p m (bodies.Floor count) = MayAnswer (body_transition p m (bodies.Floor count)).0

  in_epoch : (p : Plain) → Waits p → (m : LinkMessage) (t : Transition) → MayAnswer (transition_in_epoch p m t).0 → (MayAnswer t.0 → Gives t) → Gives (transition_in_epoch p m t)
  in_epoch p w m t a go = cond_both (m.epoch == p.epoch) t (transition_ignoring p OtherEpoch) (λ (t : Transition). MayAnswer t.0 → Gives t) (λ e a. go a) (λ e a. ignored p w OtherEpoch) a

  still_in_epoch : (p : Plain) → Waits p → (m : LinkMessage) (t : Transition) → Gives t → Gives (transition_in_epoch p m t)
  still_in_epoch p w m t go = cond_both (m.epoch == p.epoch) t (transition_ignoring p OtherEpoch) (λ (t : Transition). Gives t) (λ e. go) (λ e. ignored p w OtherEpoch)

  pub body_gives : (p : Plain) → Waits p → (m : LinkMessage) (b : Body) → AnswersOf p m b → MayTell p m b → Gives (body_transition p m b)
  body_gives p w m (bodies.Config members) a x = config_gives p w m.epoch members a
  body_gives p w m (bodies.Entry e) a x = in_epoch p w m (entries_transition p m.sender (e ∷ [])) a (λ a. entries_give p w m.sender (e ∷ []) a)
  body_gives p w m (bodies.Batch es) a x = in_epoch p w m (entries_transition p m.sender es) a (λ a. entries_give p w m.sender es a)
  body_gives p w m (bodies.Part part) a x = in_epoch p w m (part_transition p m.sender part) a (λ a. part_gives p w m.sender part a)
  body_gives p w m (bodies.Ack position) a x = in_epoch p w m (ack_transition p m.sender position) a (λ a. ack_gives p w m.sender position a)
  body_gives p w m (bodies.Query ticket key) a x = still_in_epoch p w m (query_transition p m.sender ticket key) (query_gives p w m.sender ticket key x)
  body_gives p w m (bodies.VersionIs ticket version) a x = still_in_epoch p w m (version_transition p m.sender ticket version) (version_gives p w m.sender ticket version x)
  body_gives p w m (bodies.Blank count) a x = still_in_epoch p w m (blank_transition p m.sender count) (blank_gives p w m.sender count)
  body_gives p w m (bodies.Copy position state) a x = in_epoch p w m (copy_transition p m.sender position state) a (λ a. copy_gives p w m.sender position state a)
  body_gives p w m (bodies.Floor count) a x = in_epoch p w m (floor_transition p m.sender count) a (λ a. floor_gives p w m.sender count a)

  pub tick_gives : (p : Plain) → Waits p → Gives (transition_with p (tick_sends p))
  tick_gives p w = quiet p w (tick_sends p) (reported_tick G Q V p (questions p w))

  pub stop_gives : (p : Plain) → Waits p → Gives (transition_with (record p { running = false }) [])
  stop_gives p w = record { updates = w.updates; reads = w.reads; reported = tt }
