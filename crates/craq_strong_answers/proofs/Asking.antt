-- The effect of a request at a node, in the account and the world after it.
use Rattle.std.proofs.Common.{◌≡◌, ◌⊎◌, inl, inr, ⊎_elim, ℕ, ◌+◌, ◌-◌, ◌≤◌, ◌==◌, max, Bool, true, false, ◌&&◌, List, [], ◌∷◌, ◌++◌, length, slice_index, Option, Some, None, Ok, refl, ap, sym, subst, ◌∙◌, arith}
use Rattle.std.specs.Prelude.{⊤}
use Rattle.std.specs.List.{AllByRecursion}
use Rattle.std.proofs.lemmas.Bool.{eqb-true, eq-eqb, and_parts, false_from_ne_true}
use Rattle.craq_names.specs.declared.name.ObjectId.{ObjectId}
use Rattle.craq_names.proofs.Lists.{all_like}
use Rattle.craq_commands.specs.declared.command.Update.{Update}
use Rattle.craq_commands.specs.declared.entry.Entry.{Entry}
use Rattle.craq_commands.specs.declared.reply.Reply.{Reply}
use Rattle.craq_commands.specs.declared.read_mode.ReadMode.{ReadMode}
use Rattle.craq_commands.specs.declared.read_mode.ReadMode.TheVariants.{Strong, Eventual, Bounded}
use Rattle.craq_commands.specs.Objects.{object_of, version_of}
use Rattle.craq_commands.specs.Kept.{said_of}
use Rattle.craq_commands.specs.declared.state.State.{State}
use Rattle.craq_commands.specs.SingleCopy.{opening_state, said, after_entries}
use Rattle.craq_model.specs.declared.ask.Ask.{Ask}
use Rattle.craq_model.specs.declared.ask.Ask.TheVariants as asks
use Rattle.craq_model.specs.declared.ask.Event.{Event}
use Rattle.craq_model.specs.declared.step.Step.{Step}
use Rattle.craq_model.specs.Plain.{Plain, newest, position_of, newest_object, clean_object, object_within}
use Rattle.craq_model.specs.Settle.{Transition, read_answer}
use Rattle.craq_model.specs.Asks.{ask_transition}
use Rattle.craq_model.specs.Node.{event_transition}
use Rattle.craq_protocol.specs.Machine.{MachineState}
use Rattle.craq_protocol.specs.Promises.{IsPrefix, Later}
use Rattle.craq_protocol.proofs.Prefix.{prefix_length, prefix_is_take}
use Rattle.craq_runs.specs.declared.explanation.Place.{Place}
use Rattle.craq_runs.specs.declared.run.Move.TheVariants as moves
use Rattle.craq_runs.specs.declared.run.Taken.{Taken}
use Rattle.craq_runs.specs.Chain.{Progress, node_at}
use Rattle.craq_runs.specs.Seen.{Asked, ask_with}
use Rattle.craq_runs.specs.Explain.{Account, account_with, pending_in}
use Rattle.craq_refinement.specs.Follows.{IsPlaced, IsHistory, seen_of, NodeFollows}
use Rattle.craq_refinement.proofs.Lists.{placed_back}
use Rattle.craq_refinement.proofs.Worlds.{history_length}
use Rattle.craq_updates.proofs.EachMove.{entry_for}
use Rattle.craq_updates.proofs.Found.{find_last}
use Rattle.craq_updates.proofs.Lens.{AreLens}
use Rattle.craq_updates.proofs.Updates.{numbers_of, numbers_length}
use Rattle.craq_updates.proofs.Known.{Known, some_same}
use Rattle.craq_updates.proofs.NewAsks.{TookAsk, new_ask_found}
use Rattle.craq_updates.proofs.AtNodes.{now_at}
use Rattle.craq_updates.proofs.Accounts.{next_account}
use Rattle.craq_strong_answers.proofs.Gives.{Gives, Waits}
use Rattle.craq_strong_answers.proofs.Same.{SameHistory, UpdateTransition, update_transitions}
use Rattle.craq_strong_answers.proofs.Asks.{MayReply, MayRead, ReadGives, update_gives, read_gives}
use Rattle.craq_strong_answers.proofs.Stands.{state_after, before, pending_of, PendingUpdate, PendingRead}
use Rattle.craq_strong_answers.proofs.Stays.{GoesOn}
use Rattle.craq_strong_answers.proofs.Nodes.{holds_log, Holds, GivenWithin, given_within, version_after, rises_between}
use Rattle.craq_strong_answers.proofs.Looks.{clean_committed}
use Rattle.craq_strong_answers.proofs.Kept.{kept_from, newest_position, IsNewest, Replied, replied_old, replied_new}
use Rattle.craq_strong_answers.proofs.Served.{IsPendingAt, RequestsServed}
use Rattle.craq_strong_answers.proofs.Answering.{Answered, Questions, Versions, owed_by, before_log, At, at_node, at_holds, at_running, may_answer}
use Rattle.craq_strong_answers.proofs.Hearing.{holds_same}

-- the move of a request
abbrev pub asking : ℕ → Ask → Step → Taken
asking node ask step = record { chosen = moves.Ask node ask; step = step }

-- ---- a new request in the account

pub new_asked : (a : Account) (w : MachineState Entry) (node : ℕ) (ask : Ask) (x : Progress) (step : Step) → Known a w → (t : TookAsk a.chain node ask x step)
    → ask_with (next_account a (asking node ask step) x).asks node (t.here.was.last_ticket + 1) ≡ Some (record { move = a.chain.moves + 1; node = node; ticket = step.ticket; ask = ask })
unfolding account_with
new_asked a w node ask x step k t =
    new_ask_found a.chain.nodes node (a.chain.moves + 1) (t.here.was.last_ticket + 1) step.ticket ask t.here.was a.asks t.here.at (omega arith) t.ticket k.ticketed

-- the number committed before a new request is the length of the log
pub before_new : (a b : Account) (w v : MachineState Entry) (ask : Asked) → Known a w → GoesOn a b w v → ask.move ≡ a.chain.moves + 1 → before b ask ≡ length w.log
before_new a b w v ask k g is =
    let l : AreLens a.chain.moves a.lens (numbers_of a.asks a.committed) = k.lens in
    let at : ask.move - 1 ≡ a.chain.moves = omega (arith, is) in
    ap (slice_index (0 ∷ b.lens)) at ∙ (g.lens a.chain.moves (omega (arith, l.count)) ∙ (l.ends ∙ (numbers_length a.asks a.committed ∙ ap length k.committed)))

new_pending : (a : Account) (w : MachineState Entry) (node : ℕ) (u : Update) (x : Progress) (step : Step) → RequestsServed a w → (t : TookAsk a.chain node (asks.Update u) x step)
    → pending_of (next_account a (asking node (asks.Update u) step) x).pending node (t.here.was.last_ticket + 1)
    ≡ Some (record { node = node; ticket = t.here.was.last_ticket + 1; position = max (position_of t.here.transition.0 u.client) (length a.committed) })
unfolding account_with
new_pending a w node u x step s t =
    let ticket : ℕ = t.here.was.last_ticket + 1 in
    let place : Place = record { node = node; ticket = ticket; position = max (position_of t.here.transition.0 u.client) (length a.committed) } in
    let test : Place → Bool = λ p. (p.node == node) && (p.ticket == ticket) in
    let is : pending_in (length a.committed) step.ticket (node_at x.0.nodes node) (moves.Ask node (asks.Update u)) ≡ place ∷ [] =
    ap (λ o. pending_in (length a.committed) o (node_at x.0.nodes node) (moves.Ask node (asks.Update u))) t.ticket
    ∙ ap (λ o. pending_in (length a.committed) (Some ticket) o (moves.Ask node (asks.Update u))) (now_at t.here) in
    let others : AllByRecursion (λ (d : Place). test d ≡ false) a.pending =
    all_like (IsPendingAt a.chain.nodes) (λ (d : Place). test d ≡ false) a.pending
    (λ d i. false_from_ne_true (test d) (λ h.
    let p : ((d.node == node) ≡ true) × ((d.ticket == ticket) ≡ true) = and_parts (d.node == node) (d.ticket == ticket) h in
    let P : ℕ → Type 0 = λ j. node_at a.chain.nodes j ≡ Some i.node in
    let same : t.here.was ≡ i.node = some_same (node_at a.chain.nodes node) t.here.at (subst P (eqb-true d.node node p.0) i.at) in
    let last : t.here.was.last_ticket ≡ i.node.last_ticket = ap (λ (p : Plain). p.last_ticket) same in
    let e : d.ticket ≡ ticket = eqb-true d.ticket ticket p.1 in
    omega (arith, i.given, last, e))) s.pending in
    ap (λ l. pending_of (a.pending ++ l) node ticket) is
    ∙ find_last test a.pending place others (ap (λ b. b && (ticket == ticket)) (eq-eqb node node refl) ∙ eq-eqb ticket ticket refl)

-- ---- updates

-- a new update that waits
pending_new : (a : Account) (w v : MachineState Entry) (node : ℕ) (u : Update) (x : Progress) (step : Step) → Known a w → RequestsServed a w → Known (next_account a (asking node (asks.Update u) step) x) v
    → GoesOn a (next_account a (asking node (asks.Update u) step) x) w v → (t : TookAsk a.chain node (asks.Update u) x step) → At (next_account a (asking node (asks.Update u) step) x) v node t.here.transition.0
    → t.here.transition.0.ready ≡ true → t.here.transition.0.running ≡ true → (position : ℕ) (reply : Reply) → Replied t.here.was t.here.transition.0 u position reply
    → PendingUpdate (next_account a (asking node (asks.Update u) step) x) v node (record { ticket = t.here.was.last_ticket + 1; position = position; reply = reply })
pending_new a w v node u x step k s n g t h ready runs position reply r =
    let b : Account = next_account a (asking node (asks.Update u) step) x in
    let q : Plain = t.here.transition.0 in
    let f : NodeFollows v (seen_of q) = at_node b v node q h in
    let H : List Entry = v.history node in
    let K : ℕ → Type 0 = λ j. IsHistory q.past.base q.past.base_state q.past.entries (v.history j) in
    let is_history : IsHistory q.past.base q.past.base_state q.past.entries H = subst K h.same f.history in
    let PL : ℕ → Type 0 = λ j. IsPlaced 0 (v.history j) in
    let PE : List Entry → Type 0 = λ l. IsPlaced 0 l in
    let PB : ℕ → Type 0 = λ j. IsPlaced j q.past.entries in
    let count : 0 + length is_history.front ≡ q.past.base = omega (arith, is_history.count) in
    let placed : IsPlaced q.past.base q.past.entries = subst PB count (placed_back 0 is_history.front q.past.entries (subst PE (sym is_history.whole) (subst PL h.same f.placed))) in
    let m : ℕ = position_of q u.client in
    let c : ℕ = length a.committed in
    let log : c ≡ length w.log = ap length k.committed in
    let later : Later w v = g.later in
    let grown : length w.log ≤ length v.log = prefix_length later.log in
    let node_ready : v.ready node ≡ true = let P : ℕ → Type 0 = λ j. v.ready j ≡ q.ready in subst P h.same f.ready ∙ ready in
    let l : IsPrefix v.log H = holds_log v node n.reached node_ready (at_running b v node q h runs) in
    let long : length v.log ≤ length H = prefix_length l in
    let newest : IsNewest u.client q.past.base q.past.base q.past.entries = newest_position u.client q.past.base q.past.base q.past.entries placed (omega arith) in
    let total : length H ≡ q.past.base + length q.past.entries = history_length is_history in
    let short : m ≤ length H = omega (arith, newest.short, total) in
    let held : max m c ≤ length H = omega (arith, short, log, grown, long) in
    let o : Holds b.asks v q H = at_holds b v node q h in
    let ask : Asked = record { move = a.chain.moves + 1; node = node; ticket = step.ticket; ask = asks.Update u } in
    let first : before b ask ≡ length w.log = before_new a b w v ask k g refl in
    record {
      ready = node_ready;
      ask = ask;
      update = u;
      is_ask = new_asked a w node (asks.Update u) x step k t;
      is = refl;
      place = record { node = node; ticket = t.here.was.last_ticket + 1; position = max m c };
      pending = new_pending a w node u x step s t;
      not_before = omega (arith, first, log);
      reached = ⊎_elim (λ le. inl (omega (arith, le, r.at))) (λ le. inr (omega (arith, le, log, grown))) (which m c);
      held = held;
      is_said = ap (λ o. said_of o u.number) (kept_from q H u.client (max m c) is_history placed (omega arith) held) ∙ (ap (λ (s : State). said s u.client u.number) (sym o.newest_is) ∙ r.is_said);
      newest = omega (arith, short, r.at);
      is_newest = ap (λ o. said_of o u.number) (kept_from q H u.client position is_history placed (omega (arith, r.at)) (omega (arith, short, r.at))) ∙ (ap (λ (s : State). said s u.client u.number) (sym o.newest_is) ∙ r.is_said);
    }
  where
    which : (m c : ℕ) → (max m c ≤ m) ⊎ (max m c ≤ c)
    which m c = ⊎_elim (λ le. inr (omega (arith, le))) (λ le. inl (omega (arith, le))) (either m c)
      where
        either : (m c : ℕ) → (m ≤ c) ⊎ (c ≤ m)
        either m c = grind arith

pub asks_update : (a : Account) (w v : MachineState Entry) (node : ℕ) (u : Update) (x : Progress) (step : Step) (position : List ℕ → ℕ) → Known a w → RequestsServed a w → Known (next_account a (asking node (asks.Update u) step) x) v
    → GoesOn a (next_account a (asking node (asks.Update u) step) x) w v → (t : TookAsk a.chain node (asks.Update u) x step) → At (next_account a (asking node (asks.Update u) step) x) v node t.here.transition.0
    → t.here.transition.0.running ≡ true → ((key : List ℕ) → position key ≡ length v.log)
    → (let b : Account = next_account a (asking node (asks.Update u) step) x in Waits (PendingUpdate b v node) (PendingRead b v node) (Answered b v position node) (Questions b) (Versions b v) t.here.was
    → Gives (PendingUpdate b v node) (PendingRead b v node) (Answered b v position node) (Questions b) (Versions b v) t.here.transition)
asks_update a w v node u x step position k s n g t h runs last waits =
    let b : Account = next_account a (asking node (asks.Update u) step) x in
    let p : Plain = t.here.was in
    let q : Plain = t.here.transition.0 in
    let E : Event → Type 0 = λ e. event_transition p e ≡ Ok t.here.transition in
    let does : ask_transition p (asks.Update u) ≡ Ok t.here.transition = subst E t.here.by t.here.does in
    let ut : UpdateTransition p u q = update_transitions p u t.here.transition does in
    let D : (position : ℕ) (reply : Reply) → Replied p q u position reply → PendingUpdate b v node (record { ticket = p.last_ticket + 1; position = position; reply = reply }) = λ position reply r. pending_new a w v node u x step k s n g t h ut.still runs position reply r in
    let both : MayReply (PendingUpdate b v node) (PendingRead b v node) (Answered b v position node) (Questions b) (Versions b v) p u = record {
      old = λ reply is. ⊎_elim
          (λ (o : (r : Reply) × (said (newest p) u.client u.number ≡ Some r) × (q.past.entries ≡ p.past.entries)). D (position_of p u.client) reply (replied_old p q u reply ut.base ut.state o.2 is))
          (λ (m : (said (newest p) u.client u.number ≡ None) × (q.past.entries ≡ p.past.entries ++ entry_for p u ∷ [])). absurd (none_some (said (newest p) u.client u.number) m.0 is))
          ut.entries;
      new = λ is. ⊎_elim
          (λ (o : (r : Reply) × (said (newest p) u.client u.number ≡ Some r) × (q.past.entries ≡ p.past.entries)). absurd (none_some (said (newest p) u.client u.number) is o.1))
          (λ (m : (said (newest p) u.client u.number ≡ None) × (q.past.entries ≡ p.past.entries ++ entry_for p u ∷ [])). D (entry_for p u).position (entry_for p u).reply (replied_new p q u ut.base ut.state m.1 m.0))
          ut.entries;
    } in
    update_gives (PendingUpdate b v node) (PendingRead b v node) (Answered b v position node) (Questions b) (Versions b v) p waits u both t.here.transition does (may_answer b v node q position h runs last)
  where
    none_some : {A : Type 0} {y : A} (o : Option A) → o ≡ None → o ≡ Some y → ⊥
    none_some o n s = cc

-- ---- reads

-- a read keeps the history
read_leaves : (p : Plain) (mode : ReadMode) (object : ObjectId) (t : Transition) → ask_transition p (asks.Read mode object) ≡ Ok t → SameHistory p t.0 × (p.ready ≡ true)
read_leaves p mode object t does =
    let r : ReadGives (λ u. ⊤) (λ r. ⊤) (λ t a. ⊤) (λ a b c. ⊤) (λ a b c. ⊤) p t =
    read_gives (λ u. ⊤) (λ r. ⊤) (λ t a. ⊤) (λ a b c. ⊤) (λ a b c. ⊤) p (record { updates = every p.waiting_updates; reads = every p.waiting_reads; asks = λ r h. tt }) mode object (λ ready. trivial mode) t does in
    (r.same, r.ready)
  where
    every : {A : Type 0} → (xs : List A) → AllByRecursion (λ (x : A). ⊤) xs
    every [] = tt
    every (x ∷ xs) = (tt, every xs)

    trivial : (mode : ReadMode) → MayRead (λ u. ⊤) (λ r. ⊤) (λ t a. ⊤) (λ a b c. ⊤) (λ a b c. ⊤) p mode object.key
    trivial Strong = (λ e. tt, tt)
    trivial Eventual = tt
    trivial (Bounded k) = tt

pub asks_read : (a : Account) (w v : MachineState Entry) (node : ℕ) (mode : ReadMode) (object : ObjectId) (x : Progress) (step : Step) (position : List ℕ → ℕ) → Known a w → Known (next_account a (asking node (asks.Read mode object) step) x) v
    → GoesOn a (next_account a (asking node (asks.Read mode object) step) x) w v → (t : TookAsk a.chain node (asks.Read mode object) x step) → At (next_account a (asking node (asks.Read mode object) step) x) v node t.here.transition.0
    → t.here.transition.0.running ≡ true → ((key : List ℕ) → position key ≡ length v.log)
    → (let b : Account = next_account a (asking node (asks.Read mode object) step) x in Waits (PendingUpdate b v node) (PendingRead b v node) (Answered b v position node) (Questions b) (Versions b v) t.here.was
    → Gives (PendingUpdate b v node) (PendingRead b v node) (Answered b v position node) (Questions b) (Versions b v) t.here.transition)
asks_read a w v node mode object x step position k n g t h runs last waits =
    let b : Account = next_account a (asking node (asks.Read mode object) step) x in
    let p : Plain = t.here.was in
    let q : Plain = t.here.transition.0 in
    let E : Event → Type 0 = λ e. event_transition p e ≡ Ok t.here.transition in
    let does : ask_transition p (asks.Read mode object) ≡ Ok t.here.transition = subst E t.here.by t.here.does in
    let leaves : SameHistory p q × (p.ready ≡ true) = read_leaves p mode object t.here.transition does in
    let same : SameHistory p q = leaves.0 in
    let o : Holds b.asks v p (v.history node) = holds_same b.asks v p q (v.history node) same (at_holds b v node q h) in
    let f : NodeFollows v (seen_of q) = at_node b v node q h in
    let ready : v.ready node ≡ true = let P : ℕ → Type 0 = λ j. v.ready j ≡ q.ready in subst P h.same f.ready ∙ (same.ready ∙ leaves.1) in
    let l : IsPrefix v.log (v.history node) = holds_log v node n.reached ready (at_running b v node q h runs) in
    let acked : v.acknowledged node ≡ p.past.acknowledged = let A : ℕ → Type 0 = λ j. v.acknowledged j ≡ q.past.acknowledged in subst A h.same f.acknowledged ∙ same.acknowledged in
    let r : ReadGives (PendingUpdate b v node) (PendingRead b v node) (Answered b v position node) (Questions b) (Versions b v) p t.here.transition =
    read_gives (PendingUpdate b v node) (PendingRead b v node) (Answered b v position node) (Questions b) (Versions b v) p waits mode object
    (λ _. by_mode mode o l ready acked (new_asked a w node (asks.Read mode object) x step k t)) t.here.transition does in
    r.gives
  where
    by_mode : (m : ReadMode) → Holds (next_account a (asking node (asks.Read mode object) step) x).asks v t.here.was (v.history node) → IsPrefix v.log (v.history node) → v.ready node ≡ true → v.acknowledged node ≡ t.here.was.past.acknowledged
        → ask_with (next_account a (asking node (asks.Read mode object) step) x).asks node (t.here.was.last_ticket + 1) ≡ Some (record { move = a.chain.moves + 1; node = node; ticket = step.ticket; ask = asks.Read m object })
        → (let b : Account = next_account a (asking node (asks.Read mode object) step) x in MayRead (PendingUpdate b v node) (PendingRead b v node) (Answered b v position node) (Questions b) (Versions b v) t.here.was m object.key)
    by_mode Eventual o l ready acked found =
        let b : Account = next_account a (asking node (asks.Read mode object) step) x in
        let p : Plain = t.here.was in
        let ask : Asked = record { move = a.chain.moves + 1; node = node; ticket = step.ticket; ask = asks.Read Eventual object } in
        owed_by b v position node (p.last_ticket + 1) (read_answer (newest_object p object.key)) ask (asks.Read Eventual object) found refl
        (record { begins = l; is_said = ap (λ (s : State). object_of s.objects object.key) (sym o.newest_is) })
    by_mode (Bounded bound) o l ready acked found =
        let b : Account = next_account a (asking node (asks.Read mode object) step) x in
        let p : Plain = t.here.was in
        let H : List Entry = v.history node in
        let key : List ℕ = object.key in
        let clean_version : ℕ = (clean_object p key).0 in
        let answer : ℕ × List ℕ = object_within p key (clean_version + bound) in
        let w : GivenWithin H p key (clean_version + bound) = given_within b.asks v p H key (clean_version + bound) o (omega arith) in
        let old : clean_version ≡ version_after H key p.past.acknowledged = ap (λ (s : State). version_of s.objects key) o.clean_is in
        let rise : version_after H key p.past.acknowledged ≤ version_after H key (length v.log) = rises_between b.asks H key p.past.acknowledged (length v.log) o.numbered o.valid_entry o.committed in
        let whole : version_after H key (length v.log) ≡ version_of (after_entries opening_state v.log).objects key = ap (λ es. version_of (after_entries opening_state es).objects key) (prefix_is_take l) in
        let clean_there : version_after H key (v.acknowledged node) ≡ version_after H key p.past.acknowledged = ap (version_after H key) acked in
        let mine : answer.0 ≡ version_after H key w.count = ap (λ (o : ℕ × List ℕ). o.0) w.is in
        let ask : Asked = record { move = a.chain.moves + 1; node = node; ticket = step.ticket; ask = asks.Read (Bounded bound) object } in
        owed_by b v position node (p.last_ticket + 1) (read_answer answer) ask (asks.Read (Bounded bound) object) found refl
        (record {
          begins = l;
          count = w.count;
          short = w.short;
          is_said = sym w.is;
          near = omega (arith, mine, w.below, old, rise, whole);
          near_clean = omega (arith, mine, w.below, old, clean_there);
          most = λ c le low. omega (arith, mine, w.most c (omega (arith, le, acked)) (omega (arith, low, old, clean_there)));
        })
    by_mode Strong o l ready acked found =
        let b : Account = next_account a (asking node (asks.Read mode object) step) x in
        let p : Plain = t.here.was in
        let key : List ℕ = object.key in
        let answer : ℕ × List ℕ = newest_object p key in
        let ask : Asked = record { move = a.chain.moves + 1; node = node; ticket = step.ticket; ask = asks.Read Strong object } in
        let place : position key ≡ length v.log = last key in
        let S : ℕ → Type 0 = λ j. object_of (state_after j v.log).objects key ≡ answer in (
          λ clean. owed_by b v position node (p.last_ticket + 1) (read_answer answer) ask (asks.Read Strong object) found refl (record {
            not_before = omega (arith, before_log b v n ask, place);
            not_beyond = omega (arith, place);
            begins = l;
            is_said = subst S (sym place) (clean_committed b.asks v p (v.history node) key o l clean);
          }),
          record { ready = ready; asked = record { ask = ask; object = object; is_ask = found; is = refl; key_is = refl } },
        )
