-- A waiting read is answered in a round of two hops.
use Rattle.std.proofs.Common.{◌≡◌, ◌≢◌, ◌⊎◌, inl, inr, ℕ, suc, ◌-◌, ◌<◌, ◌≤◌, ◌==◌, nat_lt, Bool, true, false, not, cond, ◌||◌, ◌&&◌, List, [], ◌∷◌, ◌++◌, map, length, take, drop, Option, Some, None, slice_index, refl, ap, sym, subst, ◌∙◌, arith}
use Rattle.std.proofs.lemmas.Bool.{cond_both, both_ways, eq-eqb, eqb-true, ltb-true, not-true, false_from_ne_true}
use Rattle.std.proofs.lemmas.List.{take-append-drop, take-append-le}
use Rattle.std.specs.Prelude.{⊤}
use Rattle.std.specs.List.{AllByRecursion}
use Rattle.craq_commands.specs.declared.command.Update.{Update}
use Rattle.craq_commands.specs.declared.entry.Entry.{Entry}
use Rattle.craq_commands.specs.declared.state.State.{State}
use Rattle.craq_commands.specs.Objects.{Objects, version_of}
use Rattle.craq_commands.specs.SingleCopy.{after_entries, after_entry, apply, opening_state}
use Rattle.craq_laws.proofs.Histories.{IsNoOlder, more_updates}
use Rattle.craq_laws.proofs.Nodes.{node_id}
use Rattle.craq_model.specs.declared.message.Body.{Body}
use Rattle.craq_model.specs.declared.message.Body.TheVariants as bodies
use Rattle.craq_model.specs.declared.message.LinkMessage.{LinkMessage}
use Rattle.craq_model.specs.declared.step.Out.{Out}
use Rattle.craq_model.specs.declared.step.Out.TheVariants as outs
use Rattle.craq_model.specs.declared.step.Why.TheVariants.{NotNeighbour, NotReadyHere, TooFar}
use Rattle.craq_model.specs.declared.waiting.WaitingRead.{WaitingRead}
use Rattle.craq_model.specs.declared.waiting.WaitingUpdate.{WaitingUpdate}
use Rattle.craq_model.specs.Deliveries.{answering_version, body_transition, delivery_transition, query_transition, read_with, reads_without, reported_version_transition, version_transition}
use Rattle.craq_model.specs.Members.{is_member, last_of}
use Rattle.craq_model.specs.Plain.{Plain, id_of, is_last, is_tail, newest_object, object_within, predecessor, successor}
use Rattle.craq_model.specs.Sends.{catch_up, queries, ready_sends, send, send_all, tick_sends, to_neighbour, unready_sends}
use Rattle.craq_model.specs.Settle.{Transition, read_answer, transition_ignoring, transition_with}
use Rattle.craq_protocol.specs.Machine.{MachineState}
use Rattle.craq_protocol.specs.Members as protocol
use Rattle.craq_protocol.specs.Promises.{IsPrefix, IsSafe}
use Rattle.craq_protocol.proofs.Invariant.{Clauses, Invariant}
use Rattle.craq_protocol.proofs.Reached.{reached_inv, reached_safe}
use Rattle.craq_refinement.specs.Follows.{Follows, NodeFollows, seen_of}
use Rattle.craq_refinement.specs.Lines.{IsFollowed}
use Rattle.craq_refinement.proofs.Members.{is_member-same}
use Rattle.craq_runs.specs.declared.run.Run.{Run}
use Rattle.craq_runs.specs.Chain.{Chain, message_at, node_at, sent_in}
use Rattle.craq_runs.specs.Explain.{Account, opening_account}
use Rattle.craq_runs.specs.Runs.{after_move}
use Rattle.craq_runs.specs.Seen.{Asked, answers_from, ask_with}
use Rattle.craq_runs.specs.Typed.{IsTypedRunOf}
use Rattle.craq_names.specs.declared.name.ObjectId.{ObjectId}
use Rattle.craq_names.proofs.Lists.{all_like}
use Rattle.craq_commands.specs.declared.read_mode.ReadMode.TheVariants.{Strong}
use Rattle.craq_commands.proofs.Entries.{after_entries-append}
use Rattle.craq_model.specs.declared.ask.Ask.{Ask}
use Rattle.craq_model.specs.declared.ask.Ask.TheVariants as asks
use Rattle.craq_updates.specs.ValidEntries.{AllValid, IsValidEntry}
use Rattle.craq_updates.proofs.Explained.{chain_of_account}
use Rattle.craq_updates.proofs.Known.{Known, newest_is}
use Rattle.craq_updates.proofs.Machine.{Held}
use Rattle.craq_updates.proofs.Runs.{run_account}
use Rattle.craq_strong_answers.proofs.Clients.{Clients}
use Rattle.craq_strong_answers.proofs.Hearing.{sent_with}
use Rattle.craq_strong_answers.proofs.Served.{RequestsServed}
use Rattle.craq_strong_answers.proofs.Stands.{AskedRead, PendingRead, IsReported, ReportedVersion, state_after}
use Rattle.craq_strong_answers.proofs.Strong.{ClientsRun, clients_run}
use Rattle.craq_recovery.specs.Recovered.{IsReadyAt, Knows, NoReadWaits, after_round, chain_after_moves}
use Rattle.craq_recovery.specs.Rounds.{round}
use Rattle.craq_recovery.specs.Taken.{HaveNumbers}
use Rattle.craq_recovery.proofs.Acks.{Receiver, in_epoch, receiver_kept}
use Rattle.craq_recovery.proofs.Applicable.{valid_back}
use Rattle.craq_recovery.proofs.Extending.{IsReachedBy, reached_here, reached_move}
use Rattle.craq_recovery.proofs.Finding.{all_pass, found_is, found_of, none_found}
use Rattle.craq_recovery.proofs.Heads.{Good, good_run}
use Rattle.craq_recovery.proofs.Ids.{not_master}
use Rattle.craq_recovery.proofs.Series.{Has, One, has_back, sent_both}
use Rattle.craq_recovery.proofs.Taking.{round_travels}
use Rattle.craq_recovery.proofs.Travels.{Either, Leads, Met, NodeIs, ends, one_by_one, kept_lasts, lasts_on, met}
use Rattle.craq_recovery.proofs.TwoHops.{Replies, crosses_back}
use Rattle.craq_recovery.proofs.Waits.{Waiting, waits_last}

-- ---- versions along a history

-- later writes have no lower version
never_fall : (asked : List Asked) (key : List ℕ) (s : State) (es : List Entry) → AllValid asked s es → version_of s.objects key ≤ version_of (after_entries s es).objects key
never_fall asked key s [] g = omega arith
never_fall asked key s (e ∷ es) g =
    let one : IsValidEntry asked s e = g.0 in
    let S : State → Type 0 = λ t. version_of s.objects key ≤ version_of t.objects key in
    let here : version_of s.objects key ≤ version_of (after_entry s e).objects key = subst S (sym one.applied) (no_lower s one.update key) in
    let rest : version_of (after_entry s e).objects key ≤ version_of (after_entries (after_entry s e) es).objects key = never_fall asked key (after_entry s e) es g.1 in
    omega (arith, here, rest)
  where
    by_age : (m n : Objects) (key : List ℕ) → IsNoOlder m n key → version_of m key ≤ version_of n key
    by_age m n key (inl lt) = omega (arith, lt)
    by_age m n key (inr e) = let v : version_of n key ≡ version_of m key = ap (λ (o : ℕ × List ℕ). o.0) e in omega (arith, v)

    no_lower : (s : State) (u : Update) (key : List ℕ) → version_of s.objects key ≤ version_of (apply s u).objects key
    no_lower s u key = by_age s.objects (apply s u).objects key (more_updates s (u ∷ []) key)

-- a prefix of the list, and a history that begins with the list
shorter : (asked : List Asked) (key : List ℕ) (count : ℕ) (log history : List Entry) → count ≤ length log → IsPrefix log history → AllValid asked opening_state history
    → version_of (after_entries opening_state (take count log)).objects key ≤ version_of (after_entries opening_state history).objects key
shorter asked key count log history le p g =
    let same : take count history ≡ take count log = ap (take count) (sym p.is) ∙ take-append-le count log p.rest le in
    let split : take count history ++ drop count history ≡ history = take-append-drop count history in
    let G : List Entry → Type 0 = λ l. AllValid asked opening_state l in
    let V : List Entry → Type 0 = λ l. version_of (after_entries opening_state (take count history)).objects key ≤ version_of (after_entries opening_state l).objects key in
    let T : List Entry → Type 0 = λ l. version_of (after_entries opening_state l).objects key ≤ version_of (after_entries opening_state history).objects key in
    let S : State → Type 0 = λ s. version_of (after_entries opening_state (take count history)).objects key ≤ version_of s.objects key in
    subst T same
    (subst V split
    (subst S (sym (after_entries-append opening_state (take count history) (drop count history)))
    (never_fall asked key (after_entries opening_state (take count history)) (drop count history) (valid_back asked opening_state (take count history) (drop count history) (subst G (sym split) g)))))

-- ---- a version that was reported is not above a ready node's

same_object : (a b : ObjectId) (k : Ask) → k ≡ asks.Read Strong a → k ≡ asks.Read Strong b → a ≡ b
same_object a b k h g = cc

reported_in : (chain : ℕ) (run : Run) (number : ℕ) (m : LinkMessage) (p : Plain) (r : WaitingRead) (ticket version : ℕ) → IsTypedRunOf chain run → node_at (chain_after_moves chain run).nodes (id_of p) ≡ Some p
    → p.running ≡ true → p.ready ≡ true → message_at (chain_after_moves chain run).messages number ≡ Some m → m.body ≡ bodies.VersionIs ticket version → m.receiver ≡ id_of p
    → read_with ticket p.waiting_reads ≡ Some r → version ≤ (newest_object p r.key).0
unfolding read_with
reported_in chain run number m p r ticket version typed at runs ready there says to found =
    let a : Account = run_account chain run in
    let k : ClientsRun a (answers_from 1 [] run.moves) = clients_run chain run typed in
    let cl : Clients a k.world k.receivers (answers_from 1 [] run.moves) = k.clients in
    let kn : Known a k.world = cl.known in
    let s : RequestsServed a k.world = cl.served in
    let w : MachineState Entry = k.world in
    let chain_is : a.chain ≡ chain_after_moves chain run = chain_of_account run.moves (opening_account chain run.members) in
    let here : node_at a.chain.nodes (id_of p) ≡ Some p = ap (λ (c : Chain). node_at c.nodes (id_of p)) chain_is ∙ at in
    let sent : ℕ = slice_index a.sent_at (number - 1) in
    let message : message_at a.chain.messages number ≡ Some m = ap (λ (c : Chain). message_at c.messages number) chain_is ∙ there in
    let known : IsReported a w m sent = sent_with a w a.chain.messages a.sent_at number m s.messages message in
    let B : Body → Type 0 = λ b. IsReported a w (record m { body = b }) sent in
    let T : ℕ → Type 0 = λ id. ReportedVersion a w id ticket version sent in
    let t : ReportedVersion a w (id_of p) ticket version sent = subst T to (subst B says known) in
    let f : WaitingRead → Bool = λ (x : WaitingRead). x.ticket == ticket in
    let pending : PendingRead a w (id_of p) r = found_of (PendingRead a w (id_of p)) f r p.waiting_reads found (s.reads (id_of p) p here) in
    let ticket_is : r.ticket ≡ ticket = eqb-true r.ticket ticket (found_is f r p.waiting_reads found) in
    let A : ℕ → Type 0 = λ n. AskedRead a (id_of p) n r.key in
    let asked : AskedRead a (id_of p) ticket r.key = subst A ticket_is pending.asked in
    let one_ask : asked.ask ≡ t.ask = let x : ask_with a.asks (id_of p) ticket ≡ Some asked.ask = asked.is_ask in let y : ask_with a.asks (id_of p) ticket ≡ Some t.ask = t.is_ask in cc in
    let same : asked.object ≡ t.object = same_object asked.object t.object t.ask.ask (sym (ap (λ (x : Asked). x.ask) one_ask) ∙ asked.is) t.is in
    let key_is : t.object.key ≡ r.key = sym (ap (λ (o : ObjectId). o.key) same) ∙ asked.key_is in
    let n : NodeFollows w (seen_of p) = let g : Follows a.chain w = kn.follows in g.nodes (id_of p) p here in
    let safe : IsSafe w = reached_safe kn.reached in
    let begins : IsPrefix w.log (w.history (id_of p)) = safe.committed (id_of p) (n.ready ∙ ready) (safe.alive (id_of p) (n.running ∙ runs)) in
    let h : Held (AllValid a.asks opening_state) w = kn.held in
    let le : version_of (state_after sent w.log).objects r.key ≤ version_of (after_entries opening_state (w.history (id_of p))).objects r.key =
    shorter a.asks r.key sent w.log (w.history (id_of p)) t.committed begins (h.histories (id_of p)) in
    let V : ℕ → Type 0 = λ v. v ≤ version_of (after_entries opening_state (w.history (id_of p))).objects r.key in
    let version_is : version_of (state_after sent w.log).objects r.key ≡ version = ap (λ k. version_of (state_after sent w.log).objects k) (sym key_is) ∙ t.version_is in
    let S : State → Type 0 = λ s. version ≤ version_of s.objects r.key in
    subst S (sym (newest_is p n)) (subst V version_is le)

reported_there : (chain : ℕ) (d : Chain) (number : ℕ) (m : LinkMessage) (p : Plain) (r : WaitingRead) (ticket version : ℕ) → IsReachedBy chain d → node_at d.nodes (id_of p) ≡ Some p
    → p.running ≡ true → p.ready ≡ true → message_at d.messages number ≡ Some m → m.body ≡ bodies.VersionIs ticket version → m.receiver ≡ id_of p
    → read_with ticket p.waiting_reads ≡ Some r → version ≤ (newest_object p r.key).0
reported_there chain d number m p r ticket version reach at runs ready there says to found =
    let P : Chain → Type 0 = λ c. node_at c.nodes (id_of p) ≡ Some p → message_at c.messages number ≡ Some m → version ≤ (newest_object p r.key).0 in
    subst P reach.leads (λ at there. reported_in chain reach.run number m p r ticket version reach.typed at runs ready there says to found) at there

-- ---- the messages

pub record IsQuery (epoch from to ticket : ℕ) (m : LinkMessage) : Type 0 where
  pub key : List ℕ
  pub says : m.body ≡ bodies.Query ticket key
  pub made : m.epoch ≡ epoch
  pub comes_from : m.sender ≡ from
  pub goes_to : m.receiver ≡ to

pub record IsVersion (epoch from to ticket : ℕ) (m : LinkMessage) : Type 0 where
  pub version : ℕ
  pub says : m.body ≡ bodies.VersionIs ticket version
  pub made : m.epoch ≡ epoch
  pub comes_from : m.sender ≡ from
  pub goes_to : m.receiver ≡ to

-- each waiting read has its query
asks_about : (p : Plain) (rs : List WaitingRead) → AllByRecursion (λ (r : WaitingRead). Has (IsQuery p.epoch (id_of p) (last_of p.members) r.ticket) (sent_in (map (λ (r : WaitingRead). send p (last_of p.members) (bodies.Query r.ticket r.key)) rs))) rs
unfolding sent_in
asks_about p [] = tt
asks_about p (r ∷ rs) =
    let to : ℕ = last_of p.members in
    let rest : List LinkMessage = sent_in (map (λ (r : WaitingRead). send p to (bodies.Query r.ticket r.key)) rs) in
    let m : LinkMessage = record { chain = p.name.chain; sender = id_of p; receiver = to; stamp = 1; index = 0; epoch = p.epoch; body = bodies.Query r.ticket r.key } in (
      inl (record { key = r.key; says = refl; made = refl; comes_from = refl; goes_to = refl }),
      all_like (λ (x : WaitingRead). Has (IsQuery p.epoch (id_of p) to x.ticket) rest) (λ (x : WaitingRead). Has (IsQuery p.epoch (id_of p) to x.ticket) (m ∷ rest)) rs (λ x h. inr h) (asks_about p rs),
    )

ready_asks : (p : Plain) (Is : LinkMessage → Type 0) → is_last p ≡ false → Has Is (sent_in (queries p)) → Has Is (sent_in (ready_sends p))
unfolding ready_sends
ready_asks p Is other h =
    let first : List Out = to_neighbour (successor p) (λ to. send_all p to (catch_up p p.past.acknowledged)) in
    let second : List Out = to_neighbour (predecessor p) (λ to. send p to (bodies.Ack p.past.acknowledged) ∷ []) in
    let third : List Out = cond (is_last p) [] (queries p) in
    let H : List LinkMessage → Type 0 = λ l. Has Is l in
    let here : Has Is (sent_in third) =
    cond_both (is_last p) [] (queries p) (λ (os : List Out). Has Is (sent_in os)) (λ e. absurd (both_ways (is_last p) other e)) (λ e. h) in
    subst H (sym (sent_both (first ++ second) third)) (has_back Is (sent_in (first ++ second)) (sent_in third) here)

tick_asks : (p : Plain) (Is : LinkMessage → Type 0) → p.ready ≡ true → 0 < p.epoch → is_last p ≡ false → Has Is (sent_in (queries p)) → Has Is (sent_in (tick_sends p))
unfolding tick_sends
tick_asks p Is ready late other h =
    let Q : List Out → Type 0 = λ os. Has Is (sent_in os) in
    cond_both (p.epoch == 0) [] (cond p.ready (ready_sends p) (unready_sends p)) Q
    (λ e. let z : p.epoch ≡ 0 = eqb-true p.epoch 0 e in absurd (omega (arith, z, late)))
    (λ e. cond_both p.ready (ready_sends p) (unready_sends p) Q
    (λ r. ready_asks p Is other h)
    (λ r. absurd (both_ways p.ready r ready)))

-- ---- the last member replies

one_version : (q : Plain) (to ticket version : ℕ) → Has (IsVersion q.epoch (id_of q) to ticket) (sent_in (send q to (bodies.VersionIs ticket version) ∷ []))
unfolding sent_in
one_version q to ticket version = inl (record { version = version; says = refl; made = refl; comes_from = refl; goes_to = refl })

tells : (q : Plain) (sender ticket : ℕ) (key : List ℕ) → sender ≢ id_of q → is_member q.members sender ≡ true → is_tail q ≡ true → Has (IsVersion q.epoch (id_of q) sender ticket) (sent_in (query_transition q sender ticket key).1.outs)
unfolding query_transition
tells q sender ticket key ne member tail =
    let t2 : Transition = transition_with q (send q sender (bodies.VersionIs ticket (newest_object q key).0) ∷ []) in
    let t1 : Transition = cond (not (is_tail q)) (transition_ignoring q NotReadyHere) t2 in
    let P : Transition → Type 0 = λ t. Has (IsVersion q.epoch (id_of q) sender ticket) (sent_in t.1.outs) in
    let other : (sender == id_of q) ≡ false = false_from_ne_true (sender == id_of q) (λ e. ne (eqb-true sender (id_of q) e)) in
    cond_both ((sender == id_of q) || not (is_member q.members sender)) (transition_ignoring q NotNeighbour) t1 P
    (λ e. absurd (both_ways ((sender == id_of q) || not (is_member q.members sender)) (neither (sender == id_of q) (is_member q.members sender) other member) e))
    (λ e. cond_both (not (is_tail q)) (transition_ignoring q NotReadyHere) t2 P
    (λ e. absurd (both_ways (is_tail q) (not-true (is_tail q) e) tail))
    (λ e. one_version q sender ticket (newest_object q key).0))
  where
    neither : (a b : Bool) → a ≡ false → b ≡ true → (a || not b) ≡ false
    neither a b h k = ap (λ x. x || not b) h ∙ ap not k

last_replies : (chain : ℕ) (c : Chain) (from to ticket : ℕ) → last_of c.members ≡ to → from ≢ to → is_member c.members from ≡ true
    → Replies (IsReachedBy chain) c to (IsQuery c.epoch from to ticket) (Receiver c.epoch) (IsVersion c.epoch to from ticket)
last_replies chain c from to ticket last ne member d number m x r s f on g there e is =
    let k : Met c d x m to (Receiver c.epoch) = met c d to number m x (Receiver c.epoch) (λ p h. h.late) s f on g there e is.goes_to is.made in
    let q : Plain = k.node in
    let h : Receiver c.epoch q = k.holds in
    let M : List ℕ → Type 0 = λ l. is_member l from ≡ true in
    let S : ℕ → Type 0 = λ i. is_member q.members i ≡ true in
    let sender : is_member q.members m.sender ≡ true = subst S (sym is.comes_from) (subst M (sym k.members) member) in
    let apart : m.sender ≢ id_of q = λ z. ne (sym is.comes_from ∙ (z ∙ k.own)) in
    let is_end : is_last q ≡ true = eq-eqb (last_of q.members) (id_of q) (ap last_of k.members ∙ (last ∙ sym k.own)) in
    let tail : is_tail q ≡ true = ap (λ b. b && is_last q) h.ready ∙ is_end in
    let does : delivery_transition q m ≡ query_transition q m.sender ticket is.key = ap (body_transition q m) is.says ∙ one_by_one k (query_transition q m.sender ticket is.key) in
    let W : Transition → Type 0 = λ t. Has (IsVersion q.epoch (id_of q) m.sender ticket) (sent_in t.1.outs) in
    let got : W (delivery_transition q m) = subst W (sym does) (tells q m.sender ticket is.key apart sender tail) in
    let news : List LinkMessage = sent_in (delivery_transition q m).1.outs in
    let E : ℕ → Type 0 = λ n. Has (IsVersion n (id_of q) m.sender ticket) news in
    let I : ℕ → Type 0 = λ i. Has (IsVersion c.epoch i m.sender ticket) news in
    let F : ℕ → Type 0 = λ i. Has (IsVersion c.epoch to i ticket) news in
    (news, k.sends, subst F is.comes_from (subst I k.own (subst E (sym k.made ∙ is.made) got)))

-- ---- the read is answered

abbrev pub Any : WaitingUpdate → Type 0
Any u = ⊤

-- no read waits under the ticket
abbrev pub Gone : ℕ → Plain → Type 0
Gone ticket p = Waiting Any (λ (r : WaitingRead). r.ticket ≢ ticket) p

anyone : (us : List WaitingUpdate) → AllByRecursion Any us
anyone [] = tt
anyone (u ∷ us) = (tt, anyone us)

other_ticket : (a b : ℕ) → (a == b) ≡ false → a ≢ b
other_ticket a b h = λ e. absurd (both_ways (a == b) h (eq-eqb a b e))

reported_gone : (p : Plain) (ticket version : ℕ) (o : Option WaitingRead) → read_with ticket p.waiting_reads ≡ o → ((r : WaitingRead) → o ≡ Some r → version ≤ (newest_object p r.key).0)
    → AllByRecursion (λ (r : WaitingRead). r.ticket ≢ ticket) (reported_version_transition p version o).0.waiting_reads
unfolding reported_version_transition reads_without read_with
reported_gone p ticket version None found fits =
    all_like (λ (r : WaitingRead). (r.ticket == ticket) ≡ false) (λ (r : WaitingRead). r.ticket ≢ ticket) p.waiting_reads (λ r h. other_ticket r.ticket ticket h) (none_found (λ (r : WaitingRead). r.ticket == ticket) p.waiting_reads found)
reported_gone p ticket version (Some r) found fits =
    let left : List WaitingRead = reads_without r.ticket p.waiting_reads in
    let same : r.ticket ≡ ticket = eqb-true r.ticket ticket (found_is (λ (x : WaitingRead). x.ticket == ticket) r p.waiting_reads found) in
    let near : version ≤ (newest_object p r.key).0 = fits r refl in
    cond_both (nat_lt (newest_object p r.key).0 version) (transition_ignoring p TooFar)
    (transition_with (record p { waiting_reads = left }) (outs.Answer r.ticket (read_answer (object_within p r.key (answering_version p r.key version))) ∷ []))
    (λ (t : Transition). AllByRecursion (λ (x : WaitingRead). x.ticket ≢ ticket) t.0.waiting_reads)
    (λ e. let far : (newest_object p r.key).0 < version = ltb-true (newest_object p r.key).0 version e in absurd (omega (arith, far, near)))
    (λ e. all_like (λ (x : WaitingRead). not (x.ticket == r.ticket) ≡ true) (λ (x : WaitingRead). x.ticket ≢ ticket) left
    (λ x h. λ z. other_ticket x.ticket r.ticket (not-true (x.ticket == r.ticket) h) (z ∙ sym same))
    (all_pass (λ (x : WaitingRead). not (x.ticket == r.ticket)) p.waiting_reads))

version_gone : (p : Plain) (sender ticket version : ℕ) → last_of p.members ≡ sender → ((r : WaitingRead) → read_with ticket p.waiting_reads ≡ Some r → version ≤ (newest_object p r.key).0)
    → AllByRecursion (λ (r : WaitingRead). r.ticket ≢ ticket) (version_transition p sender ticket version).0.waiting_reads
unfolding version_transition
version_gone p sender ticket version last fits =
    let t1 : Transition = reported_version_transition p version (read_with ticket p.waiting_reads) in
    cond_both (not (sender == last_of p.members)) (transition_ignoring p NotNeighbour) t1 (λ (t : Transition). AllByRecursion (λ (r : WaitingRead). r.ticket ≢ ticket) t.0.waiting_reads)
    (λ e. absurd (both_ways (sender == last_of p.members) (not-true (sender == last_of p.members) e) (eq-eqb sender (last_of p.members) (sym last))))
    (λ e. reported_gone p ticket version (read_with ticket p.waiting_reads) refl fits)

version_leads : (chain : ℕ) (c : Chain) (from to ticket : ℕ) → last_of c.members ≡ to
    → Leads (IsReachedBy chain) c from (One (IsVersion c.epoch to from ticket)) (Either (Receiver c.epoch) (Gone ticket))
version_leads chain c from to ticket last a b d number m x r s f on g0 there e step =
    let is : IsVersion c.epoch to from ticket m = step.2 in
    let P0 : ℕ → Type 0 = λ n. NodeIs d from (Either (Receiver c.epoch) (Gone ticket) n) in
    let P1 : ℕ → Type 0 = λ n. NodeIs x.0 from (Either (Receiver c.epoch) (Gone ticket) n) in
    let g : NodeIs d from (Receiver c.epoch) = subst P0 step.0 g0 in
    let k : Met c d x m from (Receiver c.epoch) = met c d from number m x (Receiver c.epoch) (λ p h. h.late) s f on g there e is.goes_to is.made in
    let p : Plain = k.node in
    let h : Receiver c.epoch p = k.holds in
    let end : last_of p.members ≡ m.sender = ap last_of k.members ∙ (last ∙ sym is.comes_from) in
    let does : delivery_transition p m ≡ version_transition p m.sender ticket is.version = ap (body_transition p m) is.says ∙ one_by_one k (version_transition p m.sender ticket is.version) in
    let W : Transition → Type 0 = λ t. AllByRecursion (λ (r : WaitingRead). r.ticket ≢ ticket) t.0.waiting_reads in
    let got : W (version_transition p m.sender ticket is.version) =
    version_gone p m.sender ticket is.version end (λ y found. reported_there chain d number m p y ticket is.version r k.at k.running h.ready there is.says (is.goes_to ∙ sym k.own) found) in
    subst P1 (sym step.1) (ends k (Gone ticket) (anyone (delivery_transition p m).0.waiting_updates, subst W (sym does) got))

-- ---- in a round

-- one of these reads has the ticket
abbrev Among : List WaitingRead → WaitingRead → Type 0
Among [] x = ⊥
Among (r ∷ rs) x = (x.ticket ≡ r.ticket) ⊎ Among rs x

among_more : (r : WaitingRead) (rs xs : List WaitingRead) → AllByRecursion (Among rs) xs → AllByRecursion (Among (r ∷ rs)) xs
among_more r rs xs a = all_like (Among rs) (Among (r ∷ rs)) xs (λ x h. inr h) a

among_self : (rs : List WaitingRead) → AllByRecursion (Among rs) rs
among_self [] = tt
among_self (r ∷ rs) = (inl refl, among_more r rs rs (among_self rs))

-- the node of the id has no read under any of their tickets
abbrev AllGone : Chain → ℕ → List WaitingRead → Type 0
AllGone d id rs = AllByRecursion (λ (r : WaitingRead). NodeIs d id (Gone r.ticket)) rs

not_among : (d : Chain) (id : ℕ) (n : Plain) (x : WaitingRead) (xs rs : List WaitingRead) → node_at d.nodes id ≡ Some n → n.waiting_reads ≡ x ∷ xs → AllGone d id rs → Among rs x → ⊥
not_among d id n x xs [] at is a h = h
not_among d id n x xs (r ∷ rs) at is a (inr h) = not_among d id n x xs rs at is a.1 h
not_among d id n x xs (r ∷ rs) at is a (inl h) =
    let g : NodeIs d id (Gone r.ticket) = a.0 in
    let same : g.node ≡ n = let there : node_at d.nodes id ≡ Some g.node = g.at in cc in
    let G : Plain → Type 0 = λ p. Gone r.ticket p in
    let gone : Gone r.ticket n = subst G same g.holds in
    let L : List WaitingRead → Type 0 = λ l. AllByRecursion (λ (y : WaitingRead). y.ticket ≢ r.ticket) l in
    (subst L is gone.1).0 h

none_waits : (d : Chain) (id : ℕ) (n : Plain) (rs : List WaitingRead) → node_at d.nodes id ≡ Some n → AllByRecursion (Among rs) n.waiting_reads → AllGone d id rs → (xs : List WaitingRead) → n.waiting_reads ≡ xs → n.waiting_reads ≡ []
none_waits d id n rs at a gone [] is = is
none_waits d id n rs at a gone (x ∷ xs) is =
    let L : List WaitingRead → Type 0 = λ l. AllByRecursion (Among rs) l in
    absurd (not_among d id n x xs rs at is gone (subst L is a).0)

pub reads_answered : (chain : ℕ) (run : Run) (count id : ℕ) → IsTypedRunOf chain run → IsReadyAt (chain_after_moves chain run) id → IsReadyAt (chain_after_moves chain run) (last_of (chain_after_moves chain run).members)
    → id ≢ last_of (chain_after_moves chain run).members → HaveNumbers (chain_after_moves chain run) (round after_move (suc (suc count)) (chain_after_moves chain run))
    → NoReadWaits (after_round (suc (suc count)) (chain_after_moves chain run)) id
reads_answered chain run count id typed rp rq ne numbers =
    let c : Chain = chain_after_moves chain run in
    let p : Plain = rp.node in
    let q : Plain = rq.node in
    let to : ℕ = last_of c.members in
    let kp : Knows c p = rp.knows in
    let kq : Knows c q = rq.knows in
    let pe : p.epoch ≡ c.epoch = kp.epoch in
    let qe : q.epoch ≡ c.epoch = kq.epoch in
    let own : id_of p ≡ id = node_id c.nodes id p rp.at in
    let g : Good c = good_run chain run typed.run_of in
    let f : IsFollowed c = g.followed in
    let w : MachineState Entry = f.0 in
    let fo : Follows c w = f.2 in
    let N : ℕ → Type 0 = λ j. node_at c.nodes j ≡ Some p in
    let n : NodeFollows w (seen_of p) = fo.nodes (id_of p) p (subst N (sym own) rp.at) in
    let i : Invariant w = reached_inv f.1 in
    let cl : Clauses w i.ages = i.clauses in
    let M : List ℕ → Type 0 = λ l. protocol.is_member l (id_of p) ≡ true in
    let K : ℕ → Type 0 = λ j. is_member c.members j ≡ true in
    let member : is_member c.members id ≡ true = subst K own (is_member-same c.members (id_of p) ∙ subst M fo.members (cl.running_is_member (id_of p) (n.running ∙ kp.running))) in
    let some : 1 ≤ id = not_master c.nodes id p rp.at g.ids in
    let late : 0 < p.epoch = in_epoch c id p f rp.at rp.ready in
    let other : is_last p ≡ false = false_from_ne_true (is_last p) (λ e. ne (sym own ∙ (sym (eqb-true (last_of p.members) (id_of p) e) ∙ ap last_of kp.members))) in
    let d : Chain = after_round (suc (suc count)) c in
    let gone : (r : WaitingRead) → Has (IsQuery p.epoch (id_of p) (last_of p.members) r.ticket) (sent_in (queries p)) → NodeIs d id (Gone r.ticket) = λ r h.
    let E : ℕ → Type 0 = λ e. Has (IsQuery e (id_of p) (last_of p.members) r.ticket) (sent_in (tick_sends p)) in
    let I : ℕ → Type 0 = λ j. Has (IsQuery c.epoch j (last_of p.members) r.ticket) (sent_in (tick_sends p)) in
    let L : List ℕ → Type 0 = λ l. Has (IsQuery c.epoch id (last_of l) r.ticket) (sent_in (tick_sends p)) in
    let asks : Has (IsQuery c.epoch id to r.ticket) (sent_in (tick_sends p)) = subst L kp.members (subst I own (subst E pe (tick_asks p (IsQuery p.epoch (id_of p) (last_of p.members) r.ticket) rp.ready late other h))) in
    crosses_back count c id to p (IsReachedBy chain) (IsQuery c.epoch id to r.ticket) (Receiver c.epoch) (IsVersion c.epoch to id r.ticket) (Receiver c.epoch) (Gone r.ticket)
    (λ d m t i. reached_move chain d m t i) (kept_lasts (Receiver c.epoch) (receiver_kept c.epoch)) (kept_lasts (Receiver c.epoch) (receiver_kept c.epoch)) (waits_last Any (λ (y : WaitingRead). y.ticket ≢ r.ticket))
    (λ z. omega (arith, some, z)) member rp.at kp.running asks (λ m is. is.goes_to) (last_replies chain c id to r.ticket refl ne member) (λ m is. is.goes_to) (version_leads chain c id to r.ticket refl)
    (reached_here chain run typed) g.sound f
    (record { node = q; at = rq.at; runs = kq.running; holds = record { ready = rq.ready; late = omega (arith, qe) } })
    (record { node = p; at = rp.at; runs = kp.running; holds = record { ready = rp.ready; late = omega (arith, pe) } })
    numbers in
    let all : AllGone d id p.waiting_reads = all_like (λ (r : WaitingRead). Has (IsQuery p.epoch (id_of p) (last_of p.members) r.ticket) (sent_in (queries p))) (λ (r : WaitingRead). NodeIs d id (Gone r.ticket)) p.waiting_reads gone (asks_about p p.waiting_reads) in
    let kept : NodeIs d id (Waiting Any (Among p.waiting_reads)) =
    lasts_on (Waiting Any (Among p.waiting_reads)) (waits_last Any (Among p.waiting_reads)) (round after_move (suc (suc count)) c) c id (round_travels (suc (suc count)) c) f
    (record { node = p; at = rp.at; runs = kp.running; holds = (anyone p.waiting_updates, among_self p.waiting_reads) }) in
    record { node = kept.node; at = kept.at; none = none_waits d id kept.node p.waiting_reads kept.at kept.holds.1 all kept.node.waiting_reads refl }
