-- A request that waits at a node waits on after a message, or is answered by it.
use Rattle.std.proofs.Common.{◌≡◌, ℕ, ◌+◌, ◌==◌, nat_le, nat_lt, Bool, true, false, not, cond, ◌||◌, List, [], ◌∷◌, ◌++◌, map, None, refl, ap, sym, subst, ◌∙◌, ◌⊎◌, ⊎_elim, inl, inr, ◌<◌}
use Rattle.std.proofs.lemmas.Bool.{cond_both, both_ways, eq-eqb, eqb-true, leb-false, lt-ltb}
use Rattle.craq_model.specs.declared.message.Body.TheVariants as bodies
use Rattle.craq_model.specs.declared.message.LinkMessage.{LinkMessage}
use Rattle.craq_model.specs.declared.step.Out.{Out}
use Rattle.craq_model.specs.declared.step.Out.TheVariants as outs
use Rattle.craq_model.specs.declared.waiting.WaitingRead.{WaitingRead}
use Rattle.craq_model.specs.Deliveries.{acknowledgement_transition, delivery_transition, reads_without, pending_updates, later_updates}
use Rattle.craq_model.specs.Members.{is_member}
use Rattle.craq_model.specs.Plain.{Plain, is_tail, predecessor}
use Rattle.craq_model.specs.Sends.{send, tick_sends, to_neighbour}
use Rattle.craq_model.specs.Settle.{Transition, all_committed, all_given, answer_outs, settling_transition, transition_with, Given, by_ticket, insert_given, read_given, update_given}
use Rattle.craq_recovery.proofs.Lines.{ByMessage, by_message, by_test}
use Rattle.craq_model.specs.declared.ask.Answer.{Answer}
use Rattle.craq_model.specs.declared.waiting.WaitingUpdate.{WaitingUpdate}
use Rattle.craq_recovery.specs.Answers.{answered_tickets, waiting_tickets}

-- ---- tickets in lists

or_parts : (a b : Bool) → (a || b) ≡ true → (a ≡ true) ⊎ (b ≡ true)
or_parts true b h = inl refl
or_parts false b h = inr h

also : (a b : Bool) → b ≡ true → (a || b) ≡ true
also true b h = refl
also false b h = h

first_is : (a b : Bool) → a ≡ true → (a || b) ≡ true
first_is true b h = refl
first_is false b h = absurd (cc)

by_cases : (a b c : Bool) → (a || b) ≡ true → (b ≡ true → c ≡ true) → (a || c) ≡ true
by_cases true b c h f = refl
by_cases false b c h f = f h

split : (a b c d : Bool) → (a || c) ≡ true → (c ≡ true → (b ≡ true) ⊎ (d ≡ true)) → ((a || b) ≡ true) ⊎ (d ≡ true)
split true b c d h f = inl refl
split false b c d h f = f h

kept_true : {A : Type 0} (b : Bool) (x y : A) (P : A → Type 0) → b ≡ true → P x → P (cond b x y)
kept_true {A} b x y P e h = cond_both b x y P (λ t. h) (λ f. absurd (both_ways b f e))

not_pending : (a b : ℕ) → nat_le a b ≡ false → nat_lt b a ≡ true
not_pending a b e = let lt : b < a = leb-false a b e in lt-ltb b a lt

alone : (a k : ℕ) → a ≡ k → is_member (a ∷ []) k ≡ true
unfolding is_member
alone a k e = first_is (a == k) false (eq-eqb a k e)

in_front : (xs ys : List ℕ) (k : ℕ) → is_member xs k ≡ true → is_member (xs ++ ys) k ≡ true
unfolding is_member
in_front [] ys k h = absurd (cc)
in_front (x ∷ xs) ys k h = by_cases (x == k) (is_member xs k) (is_member (xs ++ ys) k) h (λ i. in_front xs ys k i)

in_back : (xs ys : List ℕ) (k : ℕ) → is_member ys k ≡ true → is_member (xs ++ ys) k ≡ true
unfolding is_member
in_back [] ys k h = h
in_back (x ∷ xs) ys k h = also (x == k) (is_member (xs ++ ys) k) (in_back xs ys k h)

in_either : (xs ys : List ℕ) (k : ℕ) → is_member (xs ++ ys) k ≡ true → (is_member xs k ≡ true) ⊎ (is_member ys k ≡ true)
unfolding is_member
in_either [] ys k h = inr h
in_either (x ∷ xs) ys k h = split (x == k) (is_member xs k) (is_member (xs ++ ys) k) (is_member ys k) h (λ i. in_either xs ys k i)

abbrev pub ticket_of : Given → ℕ
ticket_of g = g.0

answered_first : (gs : List Given) (os : List Out) (k : ℕ) → is_member (map ticket_of gs) k ≡ true → is_member (answered_tickets (answer_outs gs ++ os)) k ≡ true
unfolding is_member
answered_first [] os k h = absurd (cc)
answered_first (g ∷ gs) os k h = by_cases (g.0 == k) (is_member (map ticket_of gs) k) (is_member (answered_tickets (answer_outs gs ++ os)) k) h (λ i. answered_first gs os k i)

inserted : (g : Given) (gs : List Given) (k : ℕ) → is_member (map ticket_of (g ∷ gs)) k ≡ true → is_member (map ticket_of (insert_given g gs)) k ≡ true
unfolding is_member insert_given
inserted g [] k h = h
inserted g (x ∷ gs) k h =
    let later : is_member (map ticket_of (x ∷ insert_given g gs)) k ≡ true =
    ⊎_elim
    (λ (i : (g.0 == k) ≡ true). also (x.0 == k) (is_member (map ticket_of (insert_given g gs)) k) (inserted g gs k (first_is (g.0 == k) (is_member (map ticket_of gs) k) i)))
    (λ (i : ((x.0 == k) || is_member (map ticket_of gs) k) ≡ true).
    by_cases (x.0 == k) (is_member (map ticket_of gs) k) (is_member (map ticket_of (insert_given g gs)) k) i (λ j. inserted g gs k (also (g.0 == k) (is_member (map ticket_of gs) k) j)))
    (or_parts (g.0 == k) ((x.0 == k) || is_member (map ticket_of gs) k) h) in
    by_test (nat_lt g.0 x.0) (λ (l : List Given). is_member (map ticket_of l) k ≡ true) (g ∷ x ∷ gs) (x ∷ insert_given g gs) h later

sorted_too : (gs : List Given) (k : ℕ) → is_member (map ticket_of gs) k ≡ true → is_member (map ticket_of (by_ticket gs)) k ≡ true
unfolding is_member by_ticket
sorted_too [] k h = h
sorted_too (g ∷ gs) k h =
    inserted g (by_ticket gs) k (by_cases (g.0 == k) (is_member (map ticket_of gs) k) (is_member (map ticket_of (by_ticket gs)) k) h (λ i. sorted_too gs k i))

reads_given : (p : Plain) (rs : List WaitingRead) → map ticket_of (map (read_given p) rs) ≡ map (λ (r : WaitingRead). r.ticket) rs
reads_given p [] = refl
reads_given p (r ∷ rs) = ap (λ l. r.ticket ∷ l) (reads_given p rs)

updates_given : (us : List WaitingUpdate) → map ticket_of (map update_given us) ≡ map (λ (u : WaitingUpdate). u.ticket) us
updates_given [] = refl
updates_given (u ∷ us) = ap (λ l. u.ticket ∷ l) (updates_given us)

both_given : (p : Plain) (us : List WaitingUpdate) (rs : List WaitingRead)
    → map ticket_of (map update_given us ++ map (read_given p) rs) ≡ map (λ (u : WaitingUpdate). u.ticket) us ++ map (λ (r : WaitingRead). r.ticket) rs
both_given p [] rs = reads_given p rs
both_given p (u ∷ us) rs = ap (λ l. u.ticket ∷ l) (both_given p us rs)

all_are_given : (p : Plain) (k : ℕ) → is_member (waiting_tickets p) k ≡ true → is_member (map ticket_of (all_given p)) k ≡ true
unfolding all_given
all_are_given p k h =
    let M : List ℕ → Type 0 = λ l. is_member l k ≡ true in
    sorted_too (map update_given p.waiting_updates ++ map (read_given p) p.waiting_reads) k (subst M (sym (both_given p p.waiting_updates p.waiting_reads)) h)

pending_or_later : (position : ℕ) (us : List WaitingUpdate) (k : ℕ) → is_member (map (λ (u : WaitingUpdate). u.ticket) us) k ≡ true
    → (is_member (map ticket_of (map update_given (pending_updates position us))) k ≡ true) ⊎ (is_member (map (λ (u : WaitingUpdate). u.ticket) (later_updates position us)) k ≡ true)
unfolding is_member pending_updates later_updates
pending_or_later position [] k h = absurd (cc)
pending_or_later position (u ∷ us) k h =
    let D : List WaitingUpdate → Type 0 = λ l. is_member (map ticket_of (map update_given l)) k ≡ true in
    let L : List WaitingUpdate → Type 0 = λ l. is_member (map (λ (u : WaitingUpdate). u.ticket) l) k ≡ true in
    let pending : List WaitingUpdate = pending_updates position us in
    let later : List WaitingUpdate = later_updates position us in
    ⊎_elim
    (λ (i : (u.ticket == k) ≡ true).
    cond_both (nat_le u.position position) true false (λ (b : Bool). D (pending_updates position (u ∷ us)) ⊎ L (later_updates position (u ∷ us)))
    (λ e. inl (kept_true (nat_le u.position position) (u ∷ pending) pending D e (first_is (u.ticket == k) (is_member (map ticket_of (map update_given pending)) k) i)))
    (λ e. inr (kept_true (nat_lt position u.position) (u ∷ later) later L (not_pending u.position position e) (first_is (u.ticket == k) (is_member (map (λ (u : WaitingUpdate). u.ticket) later) k) i))))
    (λ (i : is_member (map (λ (u : WaitingUpdate). u.ticket) us) k ≡ true).
    ⊎_elim
    (λ (j : D pending). inl (by_test (nat_le u.position position) D (u ∷ pending) pending (also (u.ticket == k) (is_member (map ticket_of (map update_given pending)) k) j) j))
    (λ (j : L later). inr (by_test (nat_lt position u.position) L (u ∷ later) later (also (u.ticket == k) (is_member (map (λ (u : WaitingUpdate). u.ticket) later) k) j) j))
    (pending_or_later position us k i))
    (or_parts (u.ticket == k) (is_member (map (λ (u : WaitingUpdate). u.ticket) us) k) h)

reported_or_left : (reported : ℕ) (rs : List WaitingRead) (k : ℕ) → is_member (map (λ (r : WaitingRead). r.ticket) rs) k ≡ true
    → (reported ≡ k) ⊎ (is_member (map (λ (r : WaitingRead). r.ticket) (reads_without reported rs)) k ≡ true)
unfolding is_member reads_without
reported_or_left reported [] k h = absurd (cc)
reported_or_left reported (r ∷ rs) k h =
    let L : List WaitingRead → Type 0 = λ l. is_member (map (λ (r : WaitingRead). r.ticket) l) k ≡ true in
    let left : List WaitingRead = reads_without reported rs in
    ⊎_elim
    (λ (i : (r.ticket == k) ≡ true).
    cond_both (r.ticket == reported) true false (λ (b : Bool). (reported ≡ k) ⊎ L (reads_without reported (r ∷ rs)))
    (λ e. inl (sym (eqb-true r.ticket reported e) ∙ eqb-true r.ticket k i))
    (λ e. inr (kept_true (not (r.ticket == reported)) (r ∷ left) left L (ap not e) (first_is (r.ticket == k) (is_member (map (λ (r : WaitingRead). r.ticket) left) k) i))))
    (λ (i : is_member (map (λ (r : WaitingRead). r.ticket) rs) k ≡ true).
    ⊎_elim
    (λ (j : reported ≡ k). inl j)
    (λ (j : L left). inr (by_test (not (r.ticket == reported)) L (r ∷ left) left (also (r.ticket == k) (is_member (map (λ (r : WaitingRead). r.ticket) left) k) j) j))
    (reported_or_left reported rs k i))
    (or_parts (r.ticket == k) (is_member (map (λ (r : WaitingRead). r.ticket) rs) k) h)

-- ---- the fate of the request

module _ (k : ℕ) where
  abbrev pub StillWaits : Plain → Type 0
  StillWaits p = is_member (waiting_tickets p) k ≡ true

  abbrev pub Fate : Transition → Type 0
  Fate t = StillWaits t.0 ⊎ (is_member (answered_tickets t.1.outs) k ≡ true)

  settling_fate : (p : Plain) → StillWaits p → Fate (settling_transition p)
  unfolding settling_transition
  settling_fate p h =
      by_test (is_tail p) Fate (transition_with (all_committed p) (answer_outs (all_given p) ++ tick_sends (all_committed p))) (transition_with p (tick_sends p))
      (inr (answered_first (all_given p) (tick_sends (all_committed p)) k (all_are_given p k h))) (inl h)

  acknowledgement_fate : (p : Plain) (position : ℕ) → StillWaits p → Fate (acknowledgement_transition p position)
  unfolding acknowledgement_transition
  acknowledgement_fate p position h =
      let us : List WaitingUpdate = p.waiting_updates in
      let sends : List Out = to_neighbour (predecessor p) (λ to. send p to (bodies.Ack position) ∷ []) in
      let later : List ℕ = map (λ (u : WaitingUpdate). u.ticket) (later_updates position us) in
      let reads : List ℕ = map (λ (r : WaitingRead). r.ticket) p.waiting_reads in
      ⊎_elim
      (λ (i : is_member (map (λ (u : WaitingUpdate). u.ticket) us) k ≡ true).
      ⊎_elim
      (λ (j : is_member (map ticket_of (map update_given (pending_updates position us))) k ≡ true). inr (answered_first (map update_given (pending_updates position us)) sends k j))
      (λ (j : is_member later k ≡ true). inl (in_front later reads k j))
      (pending_or_later position us k i))
      (λ (i : is_member reads k ≡ true). inl (in_back later reads k i))
      (in_either (map (λ (u : WaitingUpdate). u.ticket) us) reads k h)

  answer_fate : (p : Plain) (r : WaitingRead) (answer : Answer) → StillWaits p → Fate (transition_with (record p { waiting_reads = reads_without r.ticket p.waiting_reads }) (outs.Answer r.ticket answer ∷ []))
  answer_fate p r answer h =
      let updates : List ℕ = map (λ (u : WaitingUpdate). u.ticket) p.waiting_updates in
      let left : List ℕ = map (λ (r : WaitingRead). r.ticket) (reads_without r.ticket p.waiting_reads) in
      ⊎_elim
      (λ (i : is_member updates k ≡ true). inl (in_front updates left k i))
      (λ (i : is_member (map (λ (r : WaitingRead). r.ticket) p.waiting_reads) k ≡ true).
      ⊎_elim
      (λ (j : r.ticket ≡ k). inr (alone r.ticket k j))
      (λ (j : is_member left k ≡ true). inl (in_back updates left k j))
      (reported_or_left r.ticket p.waiting_reads k i))
      (in_either updates (map (λ (r : WaitingRead). r.ticket) p.waiting_reads) k h)

  message_fate : (m : LinkMessage) → ByMessage StillWaits Fate m
  message_fate m = record {
    silent = λ t none h. inl h;
    sends = λ p past to bs h. inl h;
    joins = λ p epoch members h. settling_fate (record p { epoch = epoch; members = members; floor = None; gathering = None }) h;
    readies = λ p h. settling_fate (record p { ready = true; gathering = None }) h;
    commits = λ p position h. acknowledgement_fate p position h;
    answers = λ p r answer h. answer_fate p r answer h;
    takes = λ p past floor h. h;
    drops = λ p h. h;
    gathers = λ p part g says from at count lacks h. h;
  }

  -- after a message the request waits on or is answered
  pub delivery_fate : (p : Plain) (m : LinkMessage) → StillWaits p → Fate (delivery_transition p m)
  delivery_fate p m h = by_message StillWaits Fate m (message_fate m) p h
