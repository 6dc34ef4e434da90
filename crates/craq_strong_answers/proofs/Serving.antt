-- Each move preserves the invariant `RequestsServed`, and each of its replies has the properties that its
-- request demands.
use Rattle.std.proofs.Common.{◌≡◌, ◌⊎◌, inl, inr, ⊎_elim, ℕ, ◌+◌, ◌-◌, max, true, List, [], ◌∷◌, ◌++◌, map, length, slice_index, Option, Some, None, Ok, refl, ap, sym, subst, ◌∙◌, arith}
use Rattle.std.specs.List.{AllByRecursion, AllZip}
use Rattle.std.proofs.lemmas.Bool.{cases_eq}
use Rattle.craq_names.proofs.Lists.{all_append, all_like}
use Rattle.craq_commands.specs.declared.entry.Entry.{Entry}
use Rattle.craq_model.specs.declared.ask.Ask.{Ask}
use Rattle.craq_model.specs.declared.ask.Ask.TheVariants as asks
use Rattle.craq_model.specs.declared.ask.Event.{Event}
use Rattle.craq_model.specs.declared.ask.Event.TheVariants as events
use Rattle.craq_model.specs.declared.message.LinkMessage.{LinkMessage}
use Rattle.craq_model.specs.declared.step.Out.{Out}
use Rattle.craq_model.specs.declared.step.Out.TheVariants as outs
use Rattle.craq_model.specs.declared.step.Step.{Step}
use Rattle.craq_model.specs.declared.waiting.WaitingUpdate.{WaitingUpdate}
use Rattle.craq_model.specs.declared.waiting.WaitingRead.{WaitingRead}
use Rattle.craq_model.specs.Plain.{Plain, position_of, opening_joined}
use Rattle.craq_model.specs.Settle.{Transition}
use Rattle.craq_model.specs.Deliveries.{delivery_transition}
use Rattle.craq_model.specs.Node.{event_transition}
use Rattle.craq_protocol.specs.Machine.{MachineState}
use Rattle.craq_runs.specs.declared.explanation.Place.{Place}
use Rattle.craq_runs.specs.declared.run.Move.{Move}
use Rattle.craq_runs.specs.declared.run.Move.TheVariants as moves
use Rattle.craq_runs.specs.declared.run.Taken.{Taken}
use Rattle.craq_runs.specs.Chain.{Chain, Progress, node_at, message_at, sent_in, config_to, chain_step}
use Rattle.craq_runs.specs.Seen.{Asked}
use Rattle.craq_runs.specs.Explain.{Account, account_with, pending_in, tail_word, word_in, read_place}
use Rattle.craq_refinement.proofs.Master.{node_pushed}
use Rattle.craq_updates.proofs.EachMove.{place_of, arrives_at}
use Rattle.craq_updates.proofs.Transitions.{Delivers, body_delivers}
use Rattle.craq_updates.proofs.Places.{AtNode, AtMaster, OneMore, happens_at}
use Rattle.craq_updates.proofs.AtNodes.{was_id, now_id, now_at, others_stay, for_node, tick_same, stop_same}
use Rattle.craq_updates.proofs.Known.{Known, some_same, grow_at_node, grow_at_master}
use Rattle.craq_updates.proofs.NewAsks.{TookAsk, took_ask}
use Rattle.craq_updates.proofs.Accounts.{next_account}
use Rattle.craq_strong_answers.proofs.Outs.{AllReported}
use Rattle.craq_strong_answers.proofs.Gives.{Gives, Waits, tick_gives, stop_gives}
use Rattle.craq_strong_answers.proofs.Stands.{PendingUpdate, PendingRead, AskedRead, IsReported}
use Rattle.craq_strong_answers.proofs.Stays.{GoesOn, update_stays, read_stays, messages_stay}
use Rattle.craq_strong_answers.proofs.Served.{IsPendingAt, RequestsServed, pending_grows}
use Rattle.craq_strong_answers.proofs.Answering.{Answered, Questions, Versions, At}
use Rattle.craq_strong_answers.proofs.Hearing.{hears, sent_with}
use Rattle.craq_strong_answers.proofs.Asking.{asks_update, asks_read}

-- the position of a strong read that is answered in a step
abbrev pub position_in : Account → Taken → Progress → List ℕ → ℕ
position_in a t x key = read_place (next_account a t x).committed (node_at a.chain.nodes (place_of a.chain t.chosen)) (tail_word a t.chosen) key

-- the claims about the step of a node
abbrev pub StepGives : Account → Taken → Progress → MachineState Entry → Transition → Type 0
StepGives a t x v transition =
    Gives (PendingUpdate (next_account a t x) v (place_of a.chain t.chosen)) (PendingRead (next_account a t x) v (place_of a.chain t.chosen))
    (Answered (next_account a t x) v (position_in a t x) (place_of a.chain t.chosen)) (Questions (next_account a t x)) (Versions (next_account a t x) v) transition

abbrev StepWaits : Account → Taken → Progress → MachineState Entry → Plain → Type 0
StepWaits a t x v p =
    Waits (PendingUpdate (next_account a t x) v (place_of a.chain t.chosen)) (PendingRead (next_account a t x) v (place_of a.chain t.chosen))
    (Answered (next_account a t x) v (position_in a t x) (place_of a.chain t.chosen)) (Questions (next_account a t x)) (Versions (next_account a t x) v) p

pub next_chain : (a : Account) (t : Taken) (x : Progress) → (next_account a t x).chain ≡ x.0
unfolding account_with
next_chain a t x = refl

at_now : (a : Account) (t : Taken) (x : Progress) (v : MachineState Entry) → Known (next_account a t x) v → (h : AtNode a.chain t.chosen x) → At (next_account a t x) v (place_of a.chain t.chosen) h.transition.0
at_now a t x v n h = record { known = n; at = ap (λ (c : Chain). node_at c.nodes (place_of a.chain t.chosen)) (next_chain a t x) ∙ now_at h; same = now_id h }

still_waits : (a : Account) (w v : MachineState Entry) (t : Taken) (x : Progress) → RequestsServed a w → GoesOn a (next_account a t x) w v → (h : AtNode a.chain t.chosen x) → StepWaits a t x v h.was
still_waits a w v t x s g h =
    let b : Account = next_account a t x in
    let id : ℕ = place_of a.chain t.chosen in
    record {
      updates = all_like (PendingUpdate a w id) (PendingUpdate b v id) h.was.waiting_updates (λ u d. update_stays g id u d) (s.updates id h.was h.at);
      reads = all_like (PendingRead a w id) (PendingRead b v id) h.was.waiting_reads (λ r d. read_stays g id r d) (s.reads id h.was h.at);
      asks = λ r d. let P : ℕ → Type 0 = λ j. AskedRead b j r.ticket r.key in subst P (sym (was_id h)) d.asked;
    }

message_same : (m k : LinkMessage) → events.Deliver m ≡ events.Deliver k → m ≡ k
message_same m k e = cc

delivered : (a : Account) (w v : MachineState Entry) (number : ℕ) (step : Step) (x : Progress) → Known a w → RequestsServed a w → Known (next_account a (record { chosen = moves.Deliver number; step = step }) x) v
    → GoesOn a (next_account a (record { chosen = moves.Deliver number; step = step }) x) w v → (h : AtNode a.chain (moves.Deliver number) x) → StepGives a (record { chosen = moves.Deliver number; step = step }) x v h.transition
delivered a w v number step x k s n g h =
    let t : Taken = record { chosen = moves.Deliver number; step = step } in
    let b : Account = next_account a t x in
    let id : ℕ = place_of a.chain (moves.Deliver number) in
    let p : Plain = h.was in
    let m : LinkMessage = h.by.0 in
    let at : message_at a.chain.messages number ≡ Some m = h.by.1 in
    let E : Event → Type 0 = λ e. event_transition p e ≡ Ok h.transition in
    let transition : delivery_transition p m ≡ h.transition = for_node p m h.transition (subst E h.by.2 h.does) in
    let d : Delivers p m.body (delivery_transition p m) = body_delivers p m m.body in
    let R : Transition → Type 0 = λ t. t.0.running ≡ true in
    let sent : ℕ = slice_index a.sent_at (number - 1) in
    hears b v id p m m.body h.transition sent (tail_word a (moves.Deliver number)) (position_in a t x) (at_now a t x v n h) (subst R transition (d.runs ∙ h.running)) h.running (still_waits a w v t x s g h)
    refl (sym (arrives_at a.chain number m at)) transition (sent_with b v a.chain.messages a.sent_at number m (messages_stay g a.chain.messages a.sent_at s.messages) at) (ap (word_in sent) at)
    (λ key. λ i. read_place (n.committed i) (h.at i) (tail_word a (moves.Deliver number)) key)

asked : (a : Account) (w v : MachineState Entry) (node : ℕ) (ask : Ask) (step : Step) (x : Progress) → x.1 ≡ step → Known a w → RequestsServed a w → Known (next_account a (record { chosen = moves.Ask node ask; step = step }) x) v
    → GoesOn a (next_account a (record { chosen = moves.Ask node ask; step = step }) x) w v → (h : AtNode a.chain (moves.Ask node ask) x) → StepGives a (record { chosen = moves.Ask node ask; step = step }) x v h.transition
unfolding took_ask
asked a w v node (asks.Update u) step x same k s n g h =
    let t : Taken = record { chosen = moves.Ask node (asks.Update u); step = step } in
    let took : TookAsk a.chain node (asks.Update u) x step = took_ask a.chain node (asks.Update u) x step h same in
    asks_update a w v node u x step (position_in a t x) k s n g took (at_now a t x v n took.here) (took.accepts.runs ∙ took.here.running) (λ key. ap length n.committed) (still_waits a w v t x s g took.here)
asked a w v node (asks.Read mode object) step x same k s n g h =
    let t : Taken = record { chosen = moves.Ask node (asks.Read mode object); step = step } in
    let took : TookAsk a.chain node (asks.Read mode object) x step = took_ask a.chain node (asks.Read mode object) x step h same in
    asks_read a w v node mode object x step (position_in a t x) k n g took (at_now a t x v n took.here) (took.accepts.runs ∙ took.here.running) (λ key. ap length n.committed) (still_waits a w v t x s g took.here)

serves : (a : Account) (w v : MachineState Entry) (chosen : Move) (step : Step) (x : Progress) → x.1 ≡ step → Known a w → RequestsServed a w → Known (next_account a (record { chosen = chosen; step = step }) x) v
    → GoesOn a (next_account a (record { chosen = chosen; step = step }) x) w v → (h : AtNode a.chain chosen x) → StepGives a (record { chosen = chosen; step = step }) x v h.transition
serves a w v (moves.Ask node ask) step x same k s n g h = asked a w v node ask step x same k s n g h
serves a w v (moves.Deliver number) step x same k s n g h = delivered a w v number step x k s n g h
serves a w v (moves.Tick node) step x same k s n g h =
    let t : Taken = record { chosen = moves.Tick node; step = step } in
    let E : Event → Type 0 = λ e. event_transition h.was e ≡ Ok h.transition in
    let P : Transition → Type 0 = λ u. StepGives a t x v u in
    subst P (tick_same h.was h.transition (subst E h.by h.does))
    (tick_gives (PendingUpdate (next_account a t x) v node) (PendingRead (next_account a t x) v node) (Answered (next_account a t x) v (position_in a t x) node) (Questions (next_account a t x)) (Versions (next_account a t x) v) h.was (still_waits a w v t x s g h))
serves a w v (moves.Stop node) step x same k s n g h =
    let t : Taken = record { chosen = moves.Stop node; step = step } in
    let E : Event → Type 0 = λ e. event_transition h.was e ≡ Ok h.transition in
    let P : Transition → Type 0 = λ u. StepGives a t x v u in
    subst P (stop_same h.was h.transition (subst E h.by h.does))
    (stop_gives (PendingUpdate (next_account a t x) v node) (PendingRead (next_account a t x) v node) (Answered (next_account a t x) v (position_in a t x) node) (Questions (next_account a t x)) (Versions (next_account a t x) v) h.was (still_waits a w v t x s g h))
serves a w v (moves.Remove node) step x same k s n g h = absurd h.by
serves a w v (moves.Join node) step x same k s n g h = absurd h.by

-- ---- sent messages, with the number committed then

reported_messages : (b : Account) (v : MachineState Entry) (position : List ℕ → ℕ) (id count : ℕ) (os : List Out) → count ≡ length v.log → AllReported (Answered b v position id) (Questions b) (Versions b v) os
    → AllZip (IsReported b v) (sent_in os) (map (λ (m : LinkMessage). count) (sent_in os))
unfolding sent_in
reported_messages b v position id count [] same a = tt
reported_messages b v position id count (outs.Send to m ∷ os) same a =
    let P : ℕ → Type 0 = λ n. IsReported b v m n in (subst P (sym same) a.0.1, reported_messages b v position id count os same a.1)
reported_messages b v position id count (outs.Answer ticket answer ∷ os) same a = reported_messages b v position id count os same a.1

zip_append : {A B : Type 0} (R : A → B → Type 0) (xs : List A) (ys : List B) (us : List A) (vs : List B) → AllZip R xs ys → AllZip R us vs → AllZip R (xs ++ us) (ys ++ vs)
zip_append R [] [] us vs z y = y
zip_append R [] (b ∷ ys) us vs z y = absurd z
zip_append R (a ∷ xs) [] us vs z y = absurd z
zip_append R (a ∷ xs) (b ∷ ys) us vs z y = (z.0, zip_append R xs ys us vs z.1 y)

-- the places pending after a move
pending_here : (a : Account) (w : MachineState Entry) (chosen : Move) (step : Step) (x : Progress) → x.1 ≡ step → AtNode a.chain chosen x
    → AllByRecursion (IsPendingAt x.0.nodes) (pending_in (length a.committed) step.ticket (node_at x.0.nodes (place_of a.chain chosen)) chosen)
pending_here a w (moves.Ask node (asks.Update u)) step x same h =
    let t : TookAsk a.chain node (asks.Update u) x step = took_ask a.chain node (asks.Update u) x step h same in
    let ticket : ℕ = t.here.was.last_ticket + 1 in
    let place : Place = record { node = node; ticket = ticket; position = max (position_of t.here.transition.0 u.client) (length a.committed) } in
    let is : pending_in (length a.committed) step.ticket (node_at x.0.nodes node) (moves.Ask node (asks.Update u)) ≡ place ∷ [] =
    ap (λ o. pending_in (length a.committed) o (node_at x.0.nodes node) (moves.Ask node (asks.Update u))) t.ticket
    ∙ ap (λ o. pending_in (length a.committed) (Some ticket) o (moves.Ask node (asks.Update u))) (now_at t.here) in
    let P : List Place → Type 0 = λ l. AllByRecursion (IsPendingAt x.0.nodes) l in
    subst P (sym is) (record { node = t.here.transition.0; at = now_at t.here; given = omega (arith, t.accepts.last) }, tt)
pending_here a w (moves.Ask node (asks.Read mode object)) step x same h =
    let t : TookAsk a.chain node (asks.Read mode object) x step = took_ask a.chain node (asks.Read mode object) x step h same in
    let is : pending_in (length a.committed) step.ticket (node_at x.0.nodes node) (moves.Ask node (asks.Read mode object)) ≡ [] =
    ap (λ o. pending_in (length a.committed) o (node_at x.0.nodes node) (moves.Ask node (asks.Read mode object))) t.ticket
    ∙ ap (λ o. pending_in (length a.committed) (Some (t.here.was.last_ticket + 1)) o (moves.Ask node (asks.Read mode object))) (now_at t.here) in
    let P : List Place → Type 0 = λ l. AllByRecursion (IsPendingAt x.0.nodes) l in
    subst P (sym is) tt
pending_here a w (moves.Deliver number) step x same h = tt
pending_here a w (moves.Tick node) step x same h = tt
pending_here a w (moves.Stop node) step x same h = tt
pending_here a w (moves.Remove node) step x same h = tt
pending_here a w (moves.Join node) step x same h = tt

pending_at_master : (a : Account) (chosen : Move) (x : Progress) (ticket : Option ℕ) (o : Option Plain) → AtMaster a.chain chosen x → pending_in (length a.committed) ticket o chosen ≡ []
pending_at_master a (moves.Ask node ask) x ticket o m = absurd (nonempty (m.no_ask 0 None))
  where
    nonempty : {y : Asked} {ys : List Asked} → y ∷ ys ≡ [] → ⊥
    nonempty h = cc
pending_at_master a (moves.Deliver number) x ticket o m = refl
pending_at_master a (moves.Tick node) x ticket o m = refl
pending_at_master a (moves.Stop node) x ticket o m = refl
pending_at_master a (moves.Remove node) x ticket o m = refl
pending_at_master a (moves.Join node) x ticket o m = refl

-- ---- a step

-- after a move each waiting request is served again, and its outputs have the properties that are
-- demanded
pub record ServedNext (a : Account) (t : Taken) (x : Progress) (v : MachineState Entry) : Type 0 where
  pub served : RequestsServed (next_account a t x) v
  pub reported : AllReported (Answered (next_account a t x) v (position_in a t x) (place_of a.chain t.chosen)) (Questions (next_account a t x)) (Versions (next_account a t x) v) t.step.outs

all_messages : (a : Account) (w v : MachineState Entry) (t : Taken) (x : Progress) → RequestsServed a w → GoesOn a (next_account a t x) w v → length (next_account a t x).committed ≡ length v.log → x.0.messages ≡ a.chain.messages ++ sent_in x.1.outs → x.1 ≡ t.step
    → AllReported (Answered (next_account a t x) v (position_in a t x) (place_of a.chain t.chosen)) (Questions (next_account a t x)) (Versions (next_account a t x) v) t.step.outs
    → AllZip (IsReported (next_account a t x) v) (next_account a t x).chain.messages (next_account a t x).sent_at
unfolding account_with
all_messages a w v t x s g same messages step reported =
    let b : Account = next_account a t x in
    let new : List LinkMessage = sent_in t.step.outs in
    let is : x.0.messages ≡ a.chain.messages ++ new = messages ∙ ap (λ (s : Step). a.chain.messages ++ sent_in s.outs) step in
    let P : List LinkMessage → Type 0 = λ l. AllZip (IsReported b v) l (a.sent_at ++ map (λ (m : LinkMessage). length b.committed) new) in
    subst P (sym is) (zip_append (IsReported b v) a.chain.messages a.sent_at new (map (λ (m : LinkMessage). length b.committed) new) (messages_stay g a.chain.messages a.sent_at s.messages)
    (reported_messages b v (position_in a t x) (place_of a.chain t.chosen) (length b.committed) t.step.outs same reported))

next_pending : (a : Account) (t : Taken) (x : Progress) → (next_account a t x).pending ≡ a.pending ++ pending_in (length a.committed) t.step.ticket (node_at x.0.nodes (place_of a.chain t.chosen)) t.chosen
unfolding account_with
next_pending a t x = refl

served_at_node : (a : Account) (w v : MachineState Entry) (t : Taken) (x : Progress) → x.1 ≡ t.step → Known a w → RequestsServed a w → Known (next_account a t x) v → GoesOn a (next_account a t x) w v → AtNode a.chain t.chosen x → ServedNext a t x v
served_at_node a w v t x same k s n g h =
    let b : Account = next_account a t x in
    let id : ℕ = place_of a.chain t.chosen in
    let gives : StepGives a t x v h.transition = serves a w v t.chosen t.step x same k s n g h in
    let step : h.transition.1 ≡ t.step = ap (λ (y : Progress). y.1) (sym h.is) ∙ same in
    let T : Step → Type 0 = λ s. AllReported (Answered b v (position_in a t x) id) (Questions b) (Versions b v) s.outs in
    let reported : T t.step = subst T step gives.reported in
    let node : (j : ℕ) (p : Plain) → node_at b.chain.nodes j ≡ Some p → (h.transition.0 ≡ p) × (j ≡ id) ⊎ (node_at a.chain.nodes j ≡ Some p) = λ j p at.
    let there : node_at x.0.nodes j ≡ Some p = sym (ap (λ (c : Chain). node_at c.nodes j) (next_chain a t x)) ∙ at in
    ⊎_elim
    (λ e. let P : ℕ → Type 0 = λ i. node_at x.0.nodes i ≡ Some p in inl (some_same (node_at x.0.nodes id) (now_at h) (subst P e there), e))
    (λ ne. inr (sym (others_stay h j ne) ∙ there))
    (cases_eq j id)
    in
    let D : List Place → Type 0 = λ l. AllByRecursion (IsPendingAt b.chain.nodes) l in
    let C : Chain → Type 0 = λ c. AllByRecursion (IsPendingAt c.nodes) (a.pending ++ pending_in (length a.committed) t.step.ticket (node_at x.0.nodes id) t.chosen) in
    record {
      served = record {
        updates = λ j p at. ⊎_elim
            (λ (e : (h.transition.0 ≡ p) × (j ≡ id)). let P : Plain → ℕ → Type 0 = λ q i. AllByRecursion (PendingUpdate b v i) q.waiting_updates in let Q : ℕ → Type 0 = λ i. P p i in let R : Plain → Type 0 = λ q. P q id in subst Q (sym e.1) (subst R e.0 gives.updates))
            (λ o. all_like (PendingUpdate a w j) (PendingUpdate b v j) p.waiting_updates (λ u d. update_stays g j u d) (s.updates j p o))
            (node j p at);
        reads = λ j p at. ⊎_elim
            (λ (e : (h.transition.0 ≡ p) × (j ≡ id)). let P : Plain → ℕ → Type 0 = λ q i. AllByRecursion (PendingRead b v i) q.waiting_reads in let Q : ℕ → Type 0 = λ i. P p i in let R : Plain → Type 0 = λ q. P q id in subst Q (sym e.1) (subst R e.0 gives.reads))
            (λ o. all_like (PendingRead a w j) (PendingRead b v j) p.waiting_reads (λ r d. read_stays g j r d) (s.reads j p o))
            (node j p at);
        messages = all_messages a w v t x s g (ap length n.committed) (ap (λ (y : Progress). y.0.messages) h.is ∙ ap (λ (y : Progress). a.chain.messages ++ sent_in y.1.outs) (sym h.is)) same reported;
        pending = subst D (sym (next_pending a t x)) (subst C (sym (next_chain a t x))
            (all_append (IsPendingAt x.0.nodes) a.pending (pending_in (length a.committed) t.step.ticket (node_at x.0.nodes id) t.chosen)
            (pending_grows a.chain.nodes x.0.nodes a.pending (grow_at_node h) s.pending) (pending_here a w t.chosen t.step x same h)));
      };
      reported = reported;
    }

configs_reported : (b : Account) (v : MachineState Entry) (position : List ℕ → ℕ) (id : ℕ) (c : Chain) (tos : List ℕ) → AllReported (Answered b v position id) (Questions b) (Versions b v) (map (config_to c) tos)
configs_reported b v position id c [] = tt
configs_reported b v position id c (to ∷ tos) = ((refl, tt), configs_reported b v position id c tos)

served_at_master : (a : Account) (w v : MachineState Entry) (t : Taken) (x : Progress) → x.1 ≡ t.step → Known a w → RequestsServed a w → Known (next_account a t x) v → GoesOn a (next_account a t x) w v → AtMaster a.chain t.chosen x → ServedNext a t x v
served_at_master a w v t x same k s n g m =
    let b : Account = next_account a t x in
    let id : ℕ = place_of a.chain t.chosen in
    let T : List Out → Type 0 = λ os. AllReported (Answered b v (position_in a t x) id) (Questions b) (Versions b v) os in
    let outs : map (config_to m.next) m.tos ≡ t.step.outs = sym m.outs ∙ ap (λ (s : Step). s.outs) same in
    let reported : T t.step.outs = subst T outs (configs_reported b v (position_in a t x) id m.next m.tos) in
    let there : (j : ℕ) (p : Plain) → node_at b.chain.nodes j ≡ Some p → node_at x.0.nodes j ≡ Some p = λ j p at. sym (ap (λ (c : Chain). node_at c.nodes j) (next_chain a t x)) ∙ at in
    let node : (j : ℕ) (p : Plain) → node_at x.0.nodes j ≡ Some p → (node_at a.chain.nodes j ≡ Some p) ⊎ ((p.waiting_updates ≡ []) × (p.waiting_reads ≡ [])) = λ j p at.
    ⊎_elim
    (λ e. inl (sym (ap (λ l. node_at l j) e) ∙ at))
    (λ (o : OneMore a.chain.nodes x.0.nodes). ⊎_elim
    (λ old. inl old)
    (λ (new : (opening_joined (record { chain = o.chain; node = o.new }) ≡ p) × (o.new ≡ j)). inr (sym (ap (λ (p : Plain). p.waiting_updates) new.0), sym (ap (λ (p : Plain). p.waiting_reads) new.0)))
    (node_pushed a.chain.nodes (opening_joined (record { chain = o.chain; node = o.new })) j p (sym (ap (λ l. node_at l j) o.is) ∙ at)))
    m.nodes
    in
    let D : List Place → Type 0 = λ l. AllByRecursion (IsPendingAt b.chain.nodes) l in
    let C : Chain → Type 0 = λ c. AllByRecursion (IsPendingAt c.nodes) (a.pending ++ pending_in (length a.committed) t.step.ticket (node_at x.0.nodes id) t.chosen) in
    let U : List WaitingUpdate → ℕ → Type 0 = λ l j. AllByRecursion (PendingUpdate b v j) l in
    let R : List WaitingRead → ℕ → Type 0 = λ l j. AllByRecursion (PendingRead b v j) l in
    let L : List Place → Type 0 = λ l. AllByRecursion (IsPendingAt x.0.nodes) l in
    record {
      served = record {
        updates = λ j p at. ⊎_elim
            (λ o. all_like (PendingUpdate a w j) (PendingUpdate b v j) p.waiting_updates (λ u d. update_stays g j u d) (s.updates j p o))
            (λ (e : (p.waiting_updates ≡ []) × (p.waiting_reads ≡ [])). let P : List WaitingUpdate → Type 0 = λ l. U l j in subst P (sym e.0) tt)
            (node j p (there j p at));
        reads = λ j p at. ⊎_elim
            (λ o. all_like (PendingRead a w j) (PendingRead b v j) p.waiting_reads (λ r d. read_stays g j r d) (s.reads j p o))
            (λ (e : (p.waiting_updates ≡ []) × (p.waiting_reads ≡ [])). let P : List WaitingRead → Type 0 = λ l. R l j in subst P (sym e.1) tt)
            (node j p (there j p at));
        messages = all_messages a w v t x s g (ap length n.committed) m.messages same reported;
        pending = subst D (sym (next_pending a t x)) (subst C (sym (next_chain a t x))
            (all_append (IsPendingAt x.0.nodes) a.pending (pending_in (length a.committed) t.step.ticket (node_at x.0.nodes id) t.chosen)
            (pending_grows a.chain.nodes x.0.nodes a.pending (grow_at_master m) s.pending) (subst L (sym (pending_at_master a t.chosen x t.step.ticket (node_at x.0.nodes id) m)) tt)));
      };
      reported = reported;
    }

pub served_next : (a : Account) (w v : MachineState Entry) (t : Taken) (x : Progress) → chain_step a.chain t.chosen ≡ Ok x → x.1 ≡ t.step → Known a w → RequestsServed a w → Known (next_account a t x) v → GoesOn a (next_account a t x) w v → ServedNext a t x v
served_next a w v t x does same k s n g =
    ⊎_elim (λ (h : AtNode a.chain t.chosen x). served_at_node a w v t x same k s n g h) (λ (m : AtMaster a.chain t.chosen x). served_at_master a w v t x same k s n g m) (happens_at a.chain t.chosen x does)
