-- The effect of a message at a node, in the account and the world after it.
use Rattle.std.proofs.Common.{◌≡◌, ℕ, zero, suc, ◌-◌, ◌≤◌, ◌==◌, true, List, [], ◌∷◌, length, take, drop, slice_get, slice_index, Option, Some, None, ap, sym, subst, ◌∙◌, arith}
use Rattle.std.specs.List.{AllZip}
use Rattle.std.proofs.lemmas.Bool.{cond_both}
use Rattle.craq_names.specs.declared.name.ObjectId.{ObjectId}
use Rattle.craq_commands.specs.declared.entry.Entry.{Entry}
use Rattle.craq_commands.specs.declared.read_mode.ReadMode.TheVariants.{Strong}
use Rattle.craq_commands.specs.Objects.{object_of, version_of}
use Rattle.craq_model.specs.declared.ask.Ask.{Ask}
use Rattle.craq_model.specs.declared.ask.Ask.TheVariants as asks
use Rattle.craq_model.specs.declared.message.Body.{Body}
use Rattle.craq_model.specs.declared.message.Body.TheVariants as bodies
use Rattle.craq_model.specs.declared.message.LinkMessage.{LinkMessage}
use Rattle.craq_model.specs.declared.step.Why.TheVariants.{OtherEpoch}
use Rattle.craq_model.specs.declared.waiting.WaitingRead.{WaitingRead}
use Rattle.craq_model.specs.Plain.{Plain, is_tail, clean, newest_object, object_within, entries_after}
use Rattle.craq_model.specs.Settle.{Transition, transition_ignoring, read_answer}
use Rattle.craq_model.specs.Deliveries.{body_transition, transition_in_epoch, query_transition, version_transition, answering_version}
use Rattle.craq_protocol.specs.Machine.{MachineState}
use Rattle.craq_protocol.specs.Promises.{IsPrefix}
use Rattle.craq_protocol.proofs.Prefix.{prefix_is_take}
use Rattle.craq_runs.specs.Chain.{message_at}
use Rattle.craq_runs.specs.Seen.{Asked, ask_with}
use Rattle.craq_runs.specs.Explain.{Account, read_place, word_of}
use Rattle.craq_refinement.specs.Follows.{IsPlaced, seen_of, NodeFollows}
use Rattle.craq_refinement.proofs.Lists.{placed_take}
use Rattle.craq_updates.proofs.Known.{Known, some_same}
use Rattle.craq_strong_answers.proofs.Gives.{Gives, MayAnswer, Waits, MayTell, AnswersOf, body_gives}
use Rattle.craq_strong_answers.proofs.Same.{SameHistory, same_self, same_newest, same_clean, version_same}
use Rattle.craq_strong_answers.proofs.Stands.{state_after, before, PendingUpdate, AskedRead, PendingRead, ReportedVersion, IsReported, IsAnswer}
use Rattle.craq_strong_answers.proofs.Nodes.{holds_log, Holds}
use Rattle.craq_strong_answers.proofs.Looks.{PlacedRead, reported_placed}
use Rattle.craq_strong_answers.proofs.Answering.{Answered, Questions, Versions, owed_by, before_log, At, at_node, at_holds, at_running, tail_object, may_answer}

pub holds_same : (asked : List Asked) (w : MachineState Entry) (p q : Plain) (h : List Entry) → SameHistory p q → Holds asked w q h → Holds asked w p h
unfolding entries_after
holds_same asked w p q h s o =
    let A : ℕ → Type 0 = λ k. (clean p ≡ state_after k h) × (drop (k - p.past.base) p.past.entries ≡ drop k h) × (k ≤ length h) × (k ≤ length w.log) × (take k h ≡ take k w.log) in
    let after : drop (q.past.acknowledged - p.past.base) p.past.entries ≡ drop q.past.acknowledged h = ap (λ n. drop (q.past.acknowledged - n) p.past.entries) (sym s.base) ∙ (ap (drop (q.past.acknowledged - q.past.base)) (sym s.entries) ∙ o.after_is) in
    let all : A q.past.acknowledged = (sym (same_clean p q s) ∙ o.clean_is, after, o.known, o.committed, o.same) in
    let mine : A p.past.acknowledged = subst A s.acknowledged all in
    record {
      numbered = o.numbered;
      valid_entry = o.valid_entry;
      newest_is = sym (same_newest p q s) ∙ o.newest_is;
      clean_is = mine.0;
      after_is = mine.1;
      known = mine.2;
      committed = mine.3;
      same = mine.4;
    }

-- the entries of the log are at their positions
log_placed : (b : Account) (v : MachineState Entry) (id : ℕ) (q : Plain) → At b v id q → IsPrefix v.log (v.history id) → IsPlaced 0 v.log
log_placed b v id q h l =
    let n : NodeFollows v (seen_of q) = at_node b v id q h in
    let P : ℕ → Type 0 = λ j. IsPlaced 0 (v.history j) in
    let Q : List Entry → Type 0 = λ es. IsPlaced 0 es in
    subst Q (prefix_is_take l) (placed_take 0 (length v.log) (v.history id) (subst P h.same n.placed))

-- ---- a query

query_stays : (p : Plain) (m : LinkMessage) (ticket : ℕ) (key : List ℕ) → (transition_in_epoch p m (query_transition p m.sender ticket key)).0 ≡ p
unfolding query_transition
query_stays p m ticket key = grind arith

query_reported : (b : Account) (v : MachineState Entry) (id : ℕ) (p : Plain) (sender ticket : ℕ) (key : List ℕ) → At b v id p → p.running ≡ true → AskedRead b sender ticket key → is_tail p ≡ true
    → ReportedVersion b v sender ticket (newest_object p key).0 (length v.log)
query_reported b v id p sender ticket key h u a t =
    let P : List ℕ → Type 0 = λ k. version_of (state_after (length v.log) v.log).objects k ≡ (newest_object p key).0 in
    record {
      ask = a.ask;
      object = a.object;
      is_ask = a.is_ask;
      is = a.is;
      not_before = before_log b v h.known a.ask;
      committed = omega arith;
      version_is = subst P (sym a.key_is) (ap (λ (o : ℕ × List ℕ). o.0) (tail_object b v id p key h u t));
    }

-- ---- a version

read_object : (k : Ask) (o q : ObjectId) → k ≡ asks.Read Strong o → k ≡ asks.Read Strong q → o ≡ q
read_object k o q h i = let e : asks.Read Strong o ≡ asks.Read Strong q = sym h ∙ i in cc

version_reported : (b : Account) (v : MachineState Entry) (id : ℕ) (p q : Plain) (ticket version sent : ℕ) (position : List ℕ → ℕ) → At b v id q → q.running ≡ true → SameHistory p q → ReportedVersion b v id ticket version sent
    → ((key : List ℕ) → position key ≡ read_place v.log (Some p) (Some (version, sent)) key) → (r : WaitingRead) → PendingRead b v id r → r.ticket ≡ ticket
    → IsAnswer b v position id r.ticket (read_answer (object_within p r.key (answering_version p r.key version)))
version_reported b v id p q ticket version sent position h u s t at r d same =
    let k : Known b v = h.known in
    let a : AskedRead b id r.ticket r.key = d.asked in
    let l : IsPrefix v.log (v.history id) = holds_log v id k.reached d.ready (at_running b v id q h u) in
    let o : Holds b.asks v p (v.history id) = holds_same b.asks v p q (v.history id) s (at_holds b v id q h) in
    let P : ℕ → Type 0 = λ j. ask_with b.asks id j ≡ Some a.ask in
    let ask : a.ask ≡ t.ask = some_same (ask_with b.asks id ticket) (subst P same a.is_ask) t.is_ask in
    let object : a.object ≡ t.object = read_object a.ask.ask a.object t.object a.is (ap (λ (x : Asked). x.ask) ask ∙ t.is) in
    let key : t.object.key ≡ r.key = ap (λ (o : ObjectId). o.key) (sym object) ∙ a.key_is in
    let V : List ℕ → Type 0 = λ k. version_of (state_after sent v.log).objects k ≡ version in
    let held : _ = k.held in
    let placed : PlacedRead v sent (read_place v.log (Some p) (Some (version, sent)) r.key) r.key (object_within p r.key (answering_version p r.key version)) =
    reported_placed b.asks v p (v.history id) r.key version sent o l (log_placed b v id q h l) held.log t.committed (subst V key t.version_is) in
    let answer : ℕ × List ℕ = object_within p r.key (answering_version p r.key version) in
    let place : position a.object.key ≡ read_place v.log (Some p) (Some (version, sent)) r.key = at a.object.key ∙ ap (read_place v.log (Some p) (Some (version, sent))) a.key_is in
    let S : List ℕ → Type 0 = λ k. object_of (state_after (position a.object.key) v.log).objects k ≡ answer in
    let N : ℕ → Type 0 = λ n. object_of (state_after n v.log).objects r.key ≡ answer in
    let early : before b a.ask ≡ before b t.ask = ap (before b) ask in
    owed_by b v position id r.ticket (read_answer answer) a.ask (asks.Read Strong a.object) a.is_ask a.is (record {
      not_before = omega (arith, early, t.not_before, placed.from, place);
      not_beyond = omega (arith, placed.within_log, place);
      begins = l;
      is_said = subst S (sym a.key_is) (subst N (sym place) placed.is);
    })

-- ---- any message

-- the message among those that were sent, with the number committed then
pub sent_with : (b : Account) (v : MachineState Entry) (ms : List LinkMessage) (sents : List ℕ) (number : ℕ) (m : LinkMessage) → AllZip (IsReported b v) ms sents → message_at ms number ≡ Some m → IsReported b v m (slice_index sents (number - 1))
sent_with b v ms sents zero m z h = absurd (cc)
sent_with b v ms sents (suc i) m z h =
    let P : ℕ → Type 0 = λ j. IsReported b v m (slice_index sents j) in
    let same : i ≡ suc i - 1 = omega arith in
    subst P same (zipped ms sents i z h)
  where
    zipped : (ms : List LinkMessage) (sents : List ℕ) (i : ℕ) → AllZip (IsReported b v) ms sents → slice_get ms i ≡ Some m → IsReported b v m (slice_index sents i)
    zipped [] sents i z h = absurd (cc)
    zipped (x ∷ ms) [] i z h = absurd z
    zipped (x ∷ ms) (s ∷ sents) zero z h = let same : x ≡ m = cc in let Q : LinkMessage → Type 0 = λ m. IsReported b v m s in subst Q same z.0
    zipped (x ∷ ms) (s ∷ sents) (suc i) z h = zipped ms sents i z.1 h

version_keeps : (p : Plain) (m : LinkMessage) (ticket version : ℕ) → SameHistory p (transition_in_epoch p m (version_transition p m.sender ticket version)).0
version_keeps p m ticket version =
    cond_both (m.epoch == p.epoch) (version_transition p m.sender ticket version) (transition_ignoring p OtherEpoch) (λ (t : Transition). SameHistory p t.0) (λ e. version_same p m.sender ticket version) (λ e. same_self p)

pub hears : (b : Account) (v : MachineState Entry) (id : ℕ) (p : Plain) (m : LinkMessage) (body : Body) (t : Transition) (sent : ℕ) (word : Option (ℕ × ℕ)) (position : List ℕ → ℕ)
    → At b v id t.0 → t.0.running ≡ true → p.running ≡ true → Waits (PendingUpdate b v id) (PendingRead b v id) (Answered b v position id) (Questions b) (Versions b v) p
    → m.body ≡ body → m.receiver ≡ id → body_transition p m body ≡ t → IsReported b v m sent → word ≡ word_of sent body → ((key : List ℕ) → position key ≡ read_place v.log (Some p) word key)
    → Gives (PendingUpdate b v id) (PendingRead b v id) (Answered b v position id) (Questions b) (Versions b v) t
hears b v id p m body t sent word position h u up w is to transition reported says at =
    let P : Transition → Type 0 = λ t. Gives (PendingUpdate b v id) (PendingRead b v id) (Answered b v position id) (Questions b) (Versions b v) t in
    subst P transition (body_gives (PendingUpdate b v id) (PendingRead b v id) (Answered b v position id) (Questions b) (Versions b v) p w m body (answers body transition says) (tells body is transition says))
  where
    M : Plain → Type 0
    M q = MayAnswer (PendingUpdate b v id) (PendingRead b v id) (Answered b v position id) (Questions b) (Versions b v) q

    last : word ≡ None → M t.0
    last none = may_answer b v id t.0 position h u (λ key. at key ∙ ap (λ o. read_place v.log (Some p) o key) none)

    by : (body : Body) → body_transition p m body ≡ t → word ≡ None → M (body_transition p m body).0
    by body transition none = let Q : Transition → Type 0 = λ t. M t.0 in subst Q (sym transition) (last none)

    answers : (body : Body) → body_transition p m body ≡ t → word ≡ word_of sent body → AnswersOf (PendingUpdate b v id) (PendingRead b v id) (Answered b v position id) (Questions b) (Versions b v) p m body
    answers (bodies.Config members) transition says = by (bodies.Config members) transition says
    answers (bodies.Entry e) transition says = by (bodies.Entry e) transition says
    answers (bodies.Ack position) transition says = by (bodies.Ack position) transition says
    answers (bodies.Query ticket key) transition says = tt
    answers (bodies.VersionIs ticket version) transition says = tt
    answers (bodies.Blank count) transition says = tt
    answers (bodies.Batch es) transition says = by (bodies.Batch es) transition says
    answers (bodies.Copy position state) transition says = by (bodies.Copy position state) transition says
    answers (bodies.Part part) transition says = by (bodies.Part part) transition says
    answers (bodies.Floor count) transition says = by (bodies.Floor count) transition says

    tells : (body : Body) → m.body ≡ body → body_transition p m body ≡ t → word ≡ word_of sent body → MayTell (PendingUpdate b v id) (PendingRead b v id) (Answered b v position id) (Questions b) (Versions b v) p m body
    tells (bodies.Config members) is transition says = tt
    tells (bodies.Entry e) is transition says = tt
    tells (bodies.Ack position) is transition says = tt
    tells (bodies.Query ticket key) is transition says =
        let still : t.0 ≡ p = ap (λ (t : Transition). t.0) (sym transition) ∙ query_stays p m ticket key in
        let Q : Plain → Type 0 = λ q. At b v id q in
        let R : Body → Type 0 = λ x. IsReported b v (record m { body = x }) sent in
        query_reported b v id p m.sender ticket key (subst Q still h) up (subst R is reported)
    tells (bodies.VersionIs ticket version) is transition says =
        let same : SameHistory p t.0 = let Q : Transition → Type 0 = λ t. SameHistory p t.0 in subst Q transition (version_keeps p m ticket version) in
        let R : Body → Type 0 = λ x. IsReported b v (record m { body = x }) sent in
        let S : ℕ → Type 0 = λ j. ReportedVersion b v j ticket version sent in
        let known : ReportedVersion b v id ticket version sent = subst S to (subst R is reported) in
        λ r d e le. version_reported b v id p t.0 ticket version sent position h u same known (λ key. at key ∙ ap (λ o. read_place v.log (Some p) o key) says) r d e
    tells (bodies.Blank count) is transition says = tt
    tells (bodies.Batch es) is transition says = tt
    tells (bodies.Copy position state) is transition says = tt
    tells (bodies.Part part) is transition says = tt
    tells (bodies.Floor count) is transition says = tt
