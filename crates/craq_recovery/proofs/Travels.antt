-- A message that a tick sends arrives in the same round.
use Rattle.std.proofs.Common.{◌≡◌, ◌≢◌, ⊎_elim, ℕ, zero, suc, ◌+◌, ◌≤◌, ◌==◌, Bool, true, false, ◌||◌, List, [], ◌∷◌, ◌++◌, length, drop, append_assoc, Some, Result, Ok, ap, sym, subst, ◌∙◌, arith, inl, inr, Option, Err, refl}
use Rattle.std.proofs.lemmas.Bool.{cases_eq, cond_both, both_ways, eqb-true, false_from_ne_true, cond-true, eq-eqb}
use Rattle.std.proofs.lemmas.List.{drop-append-le}
use Rattle.std.specs.Prelude.{⊤}
use Rattle.std.specs.List.{AllByRecursion}
use Rattle.craq_names.specs.declared.name.NodeName.{NodeName}
use Rattle.craq_names.specs.declared.refusal.Refusal.{Refusal}
use Rattle.craq_model.specs.declared.ask.Event.TheVariants as events
use Rattle.craq_model.specs.declared.message.LinkMessage.{LinkMessage}
use Rattle.craq_model.specs.Deliveries.{delivery_transition, transition_in_epoch}
use Rattle.craq_model.specs.Members.{is_member}
use Rattle.craq_model.specs.Plain.{Plain, id_of, opening_joined}
use Rattle.craq_model.specs.Sends.{tick_sends}
use Rattle.craq_model.specs.Settle.{Transition, transition_with, transition_ignoring}
use Rattle.craq_refinement.specs.Lines.{IsFollowed}
use Rattle.craq_laws.proofs.Nodes.{node_here, still_there}
use Rattle.craq_refinement.proofs.Stages.{Arrived, Took, arrived, took}
use Rattle.craq_runs.specs.declared.run.Move.{Move}
use Rattle.craq_runs.specs.declared.run.Move.TheVariants.{Deliver, Tick}
use Rattle.craq_runs.specs.Chain.{Chain, Progress, chain_step, config_progress, counted_progress, is_running, message_at, node_at, node_progress, sent_in, set_node}
use Rattle.craq_runs.specs.Runs.{after_move, progressed}
use Rattle.craq_recovery.specs.Rounds.{after_moves_by, round, ticks, ticks_of}
use Rattle.craq_recovery.specs.Taken.{HaveNumbers}
use Rattle.craq_model.specs.declared.step.Why.TheVariants.{OtherEpoch}
use Rattle.craq_recovery.specs.Recovered.{Knows}
use Rattle.craq_recovery.proofs.Hearing.{knows_at}
use Rattle.craq_recovery.proofs.Running.{delivery_transition-runs}
use Rattle.craq_names.specs.declared.refusal.Refusal.TheVariants as refusals
use Rattle.craq_model.specs.declared.ask.Event.{Event}
use Rattle.craq_model.specs.Node.{event_transition, is_for}
use Rattle.craq_runs.specs.declared.run.Move.TheVariants as moves
use Rattle.craq_updates.proofs.AtNodes.{now_at, others_stay}
use Rattle.craq_updates.proofs.EachMove.{place_of}
use Rattle.craq_updates.proofs.Places.{AtMaster, AtNode, EventOf, OneMore, happens_at}
use Rattle.craq_recovery.proofs.Lines.{IfTaken, by_test}
use Rattle.craq_recovery.proofs.Gains.{Goes, goes_move, Gains, Later, later_here, later_moves}
use Rattle.craq_recovery.proofs.Arriving.{BringAll, Stays, bring_more, bring_past, endures_all, news, round_brings, taken_ok, ticked, ticks_onward}
use Rattle.craq_recovery.proofs.Onward.{IsTravel, Onward, onward_move, onward_moves, onward_on}
use Rattle.craq_recovery.proofs.Series.{Has, One, Series, one_series, series_left, series_right}
use Rattle.craq_recovery.proofs.Ticking.{tick_keeps}
use Rattle.craq_laws.proofs.Kept.{event_keeps_name}
use Rattle.craq_recovery.proofs.Sound.{Sound, own_chain}
use Rattle.craq_recovery.proofs.Taking.{bears, for_it, no_fewer, tick_taken, ticks_travel}

-- ---- a property of a node that runs and goes on running

pub record NodeIs (d : Chain) (id : ℕ) (Holds : Plain → Type 0) : Type 0 where
  pub node : Plain
  pub at : node_at d.nodes id ≡ Some node
  pub runs : node.running ≡ true
  pub holds : Holds node

abbrev pub IsKept : (Plain → Type 0) → Type 0
IsKept F = (p q : Plain) → Gains p q → F p → F q

pub kept_on : (F : Plain → Type 0) → IsKept F → (ms : List Move) (c : Chain) (id : ℕ) → AllByRecursion IsTravel ms → IsFollowed c → NodeIs c id F → NodeIs (after_moves_by after_move c ms) id F
kept_on F kept ms c id t f i =
    let l : Later (after_moves_by after_move c ms) id i.node = later_moves ms c id i.node t f (later_here c id i.node i.at i.runs) in
    record { node = l.node; at = l.at; runs = l.runs; holds = kept i.node l.node l.gains i.holds }

pub kept_move : (F : Plain → Type 0) → IsKept F → (m : Move) (c : Chain) (id : ℕ) → IsTravel m → IsFollowed c → NodeIs c id F → NodeIs (after_move c m) id F
kept_move F kept m c id t f i = kept_on F kept (m ∷ []) c id (t, tt) f i

pub runs_there : {c : Chain} {id : ℕ} {F : Plain → Type 0} → NodeIs c id F → is_running (node_at c.nodes id) ≡ true
runs_there i = ap is_running i.at ∙ i.runs

-- a node for which a message is has not stopped
pub not_stopped : (d : Chain) (id : ℕ) (m : LinkMessage) (F : Plain → Type 0) → m.receiver ≡ id → NodeIs d id F → is_running (node_at d.nodes m.receiver) ≡ false → ⊥
not_stopped d id m F to i stopped =
    let P : ℕ → Type 0 = λ k. is_running (node_at d.nodes k) ≡ true in
    both_ways (is_running (node_at d.nodes m.receiver)) stopped (subst P (sym to) (runs_there i))

-- the node after a message
pub arrived_here : (d : Chain) (number : ℕ) (m : LinkMessage) (x : Progress) → Sound d → message_at d.messages number ≡ Some m → (a : Arrived d m x) → (id : ℕ) → m.receiver ≡ id
    → node_at x.0.nodes id ≡ Some (delivery_transition a.node m).0
arrived_here d number m x s at a id to =
    let p : Plain = a.node in
    let t : Transition = delivery_transition p m in
    let of : p.name.chain ≡ d.chain = own_chain d.chain (id_of p) d.nodes p s.nodes a.at in
    let named : t.0.name ≡ p.name = event_keeps_name p (events.Deliver m) t (for_it p m (bears d number m s at ∙ sym of) a.own) in
    let same : id_of t.0 ≡ id_of p = ap (λ (n : NodeName). n.node) named in
    let N : ℕ → Type 0 = λ i. node_at d.nodes i ≡ Some p in
    let R : ℕ → Type 0 = λ i. node_at (set_node d.nodes t.0) i ≡ Some t.0 in
    let Q : Progress → Type 0 = λ y. node_at y.0.nodes id ≡ Some t.0 in
    subst Q (sym a.is) (subst R (same ∙ (sym a.own ∙ to)) (node_here d.nodes t.0 p (subst N (sym same) a.at)))

-- the node of the id, with property E, takes a message of the master's epoch
pub record Met (c d : Chain) (x : Progress) (m : LinkMessage) (to : ℕ) (E : Plain → Type 0) : Type 0 where
  pub node : Plain
  pub own : id_of node ≡ to
  pub at : node_at d.nodes (id_of node) ≡ Some node
  pub there : node_at d.nodes to ≡ Some node
  pub running : node.running ≡ true
  pub holds : E node
  pub knows : Knows d node
  pub members : node.members ≡ c.members
  pub made : m.epoch ≡ node.epoch
  pub sends : x.0.messages ≡ d.messages ++ sent_in (delivery_transition node m).1.outs
  pub after : node_at x.0.nodes to ≡ Some (delivery_transition node m).0
  pub gains : Gains node (delivery_transition node m).0

pub met : (c d : Chain) (to number : ℕ) (m : LinkMessage) (x : Progress) (E : Plain → Type 0) → ((p : Plain) → E p → c.epoch ≤ p.epoch) → Sound d → IsFollowed d → Onward c d → NodeIs d to E
    → message_at d.messages number ≡ Some m → chain_step d (Deliver number) ≡ Ok x → m.receiver ≡ to → m.epoch ≡ c.epoch → Met c d x m to E
met c d to number m x E lates s f on g is e goes made =
    let ar : Arrived d m x = arrived d number m x is e in
    let p : Plain = ar.node in
    let own : id_of p ≡ to = sym ar.own ∙ goes in
    let N : ℕ → Type 0 = λ i. node_at d.nodes i ≡ Some p in
    let there : node_at d.nodes to ≡ Some p = subst N own ar.at in
    let same : g.node ≡ p = let mine : node_at d.nodes to ≡ Some g.node = g.at in cc in
    let h : E p = subst E same g.holds in
    let kn : Knows d p = knows_at c d to on f (record { node = p; at = there; runs = ar.running; late = lates p h }) in
    let after : node_at x.0.nodes to ≡ Some (delivery_transition p m).0 = arrived_here d number m x s is ar to goes in
    let G : Result Progress Refusal → Type 0 = λ r. Goes d (progressed d r) in
    let step : Goes d x.0 = subst G e (goes_move d (Deliver number) f) in
    record {
      node = p;
      own = own;
      at = ar.at;
      there = there;
      running = ar.running;
      holds = h;
      knows = kn;
      members = kn.members ∙ on.members;
      made = made ∙ sym (kn.epoch ∙ on.epoch);
      sends = ap (λ (y : Progress). y.0.messages) ar.is;
      after = after;
      gains = step.gains to p (delivery_transition p m).0 there after;
    }

module _ {c d : Chain} {x : Progress} {m : LinkMessage} {to : ℕ} {E : Plain → Type 0} (k : Met c d x m to E) where
  -- the sender is its neighbour in the master's membership
  pub stands_by : {from : ℕ} (f : List ℕ → ℕ → Option ℕ) → f c.members to ≡ Some from → m.sender ≡ from → f k.node.members (id_of k.node) ≡ Some m.sender
  stands_by {from} f beside comes =
      let P : List ℕ → Type 0 = λ l. f l to ≡ Some from in
      let Q : ℕ → Type 0 = λ i. f k.node.members i ≡ Some from in
      subst Q (sym k.own) (subst P (sym k.members) beside) ∙ ap Some (sym comes)

  -- the message is of its epoch
  pub one_by_one : (t : Transition) → transition_in_epoch k.node m t ≡ t
  one_by_one t = cond-true (m.epoch == k.node.epoch) t (transition_ignoring k.node OtherEpoch) (eq-eqb m.epoch k.node.epoch k.made)

  -- the effect of the message
  pub ends : (F : Plain → Type 0) → F (delivery_transition k.node m).0 → NodeIs x.0 to F
  ends F h = record { node = (delivery_transition k.node m).0; at = k.after; runs = delivery_transition-runs k.node m ∙ k.running; holds = h }

-- a property of a node that ticks and arrivals preserve
abbrev pub Lasts : (Plain → Type 0) → Type 0
Lasts F = (m : Move) (c : Chain) (id : ℕ) → IsTravel m → IsFollowed c → NodeIs c id F → NodeIs (after_move c m) id F

pub kept_lasts : (F : Plain → Type 0) → IsKept F → Lasts F
kept_lasts F kept = λ m c id t f i. kept_move F kept m c id t f i

-- an arrival or a tick preserves the property, if no message changes it
lasts_at : (F : Plain → Type 0) → ((p : Plain) (l : LinkMessage) → F p → F (delivery_transition p l).0) → (c : Chain) (m : Move) (e : Event) → IsTravel m → EventOf c m e → (p : Plain) → F p → IfTaken (λ t. F t.0) (event_transition p e)
lasts_at F keeps c (moves.Ask node ask) e t by p h = absurd t
lasts_at F keeps c (moves.Deliver number) e t by p h =
    let l : LinkMessage = by.0 in
    let K : Event → Type 0 = λ e. IfTaken (λ t. F t.0) (event_transition p e) in
    subst K (sym by.2) (by_test (is_for p l) (IfTaken (λ t. F t.0)) (Ok (delivery_transition p l)) (Err refusals.WrongNode) (keeps p l h) tt)
lasts_at F keeps c (moves.Tick node) e t by p h = let K : Event → Type 0 = λ e. IfTaken (λ t. F t.0) (event_transition p e) in subst K (sym by) h
lasts_at F keeps c (moves.Stop node) e t by p h = absurd t
lasts_at F keeps c (moves.Remove node) e t by p h = absurd t
lasts_at F keeps c (moves.Join node) e t by p h = absurd t

-- a property that no message changes is preserved
pub lasts_by : (F : Plain → Type 0) → ((p : Plain) (l : LinkMessage) → F p → F (delivery_transition p l).0) → Lasts F
lasts_by F keeps m c id t f i =
    let on : Onward c (after_move c m) = onward_move c m t in
    let there : (n : Plain) × (node_at (after_move c m).nodes id ≡ Some n) × F n = by_move (chain_step c m) refl in
    record { node = there.0; at = there.1; runs = sym (ap is_running there.1) ∙ (on.running id ∙ runs_there i); holds = there.2 }
  where
    by_move : (r : Result Progress Refusal) → chain_step c m ≡ r → (n : Plain) × (node_at (progressed c r).nodes id ≡ Some n) × F n
    by_move (Err e) is = (i.node, i.at, i.holds)
    by_move (Ok x) is =
        ⊎_elim
        (λ (a : AtNode c m x).
        ⊎_elim
        (λ (here : id ≡ place_of c m).
        let N : ℕ → Type 0 = λ j. node_at c.nodes j ≡ Some a.was in
        let L : ℕ → Type 0 = λ j. node_at x.0.nodes j ≡ Some a.transition.0 in
        let same : i.node ≡ a.was = let mine : node_at c.nodes id ≡ Some i.node = i.at in let was : node_at c.nodes id ≡ Some a.was = subst N (sym here) a.at in cc in
        let T : Result Transition Refusal → Type 0 = λ r. IfTaken (λ t. F t.0) r in
        (a.transition.0, subst L (sym here) (now_at a), subst T a.does (lasts_at F keeps c m a.event t a.by a.was (subst F same i.holds))))
        (λ other. (i.node, others_stay a id other ∙ i.at, i.holds))
        (cases_eq id (place_of c m)))
        (λ (a : AtMaster c m x).
        ⊎_elim
        (λ (same : x.0.nodes ≡ c.nodes). (i.node, ap (λ l. node_at l id) same ∙ i.at, i.holds))
        (λ (o : OneMore c.nodes x.0.nodes). (i.node, ap (λ l. node_at l id) o.is ∙ still_there c.nodes (opening_joined (record { chain = o.chain; node = o.new })) id i.node i.at, i.holds))
        a.nodes)
        (happens_at c m x is)

pub lasts_on : (F : Plain → Type 0) → Lasts F → (ms : List Move) (c : Chain) (id : ℕ) → AllByRecursion IsTravel ms → IsFollowed c → NodeIs c id F → NodeIs (after_moves_by after_move c ms) id F
lasts_on F lasts ms c id t f i = endures_all (λ d. NodeIs d id F) (λ m d t f i. lasts m d id t f i) ms c t f i

-- ---- messages arrive, some of which matter

-- the effect of such a message at a node with property F a: it then has F k
abbrev pub Leads : (Chain → Type 0) → Chain → ℕ → (ℕ → ℕ → LinkMessage → Type 0) → (ℕ → Plain → Type 0) → Type 0
Leads C c id Step F =
    (a k : ℕ) (d : Chain) (number : ℕ) (m : LinkMessage) (x : Progress) → C d → Sound d → IsFollowed d → Onward c d → NodeIs d id (F a) → message_at d.messages number ≡ Some m
    → chain_step d (Deliver number) ≡ Ok x → Step a k m → NodeIs x.0 id (F k)

pub arrives : (c : Chain) (id : ℕ) (C : Chain → Type 0) (Step : ℕ → ℕ → LinkMessage → Type 0) (F : ℕ → Plain → Type 0) → Stays C → ((n : ℕ) → Lasts (F n))
    → ((a k : ℕ) (m : LinkMessage) → Step a k m → m.receiver ≡ id) → Leads C c id Step F
    → (ms : List LinkMessage) (a b : ℕ) → Series Step ms a b → BringAll C c (λ d. NodeIs d id (F a)) (λ d. NodeIs d id (F b)) ms
arrives c id C Step F stays kept to leads [] a b same = λ before rest number d s0 s f on g is at has. let P : ℕ → Type 0 = λ n. NodeIs d id (F n) in subst P same g
arrives c id C Step F stays kept to leads (m ∷ ms) a b (inl later) =
    bring_past C stays c m ms (λ d. NodeIs d id (F a)) (λ d. NodeIs d id (F b)) (λ m d t f g. kept a m d id t f g) (arrives c id C Step F stays kept to leads ms a b later)
arrives c id C Step F stays kept to leads (m ∷ ms) a b (inr now) =
    bring_more C stays c m ms (λ d. NodeIs d id (F a)) (λ d. NodeIs d id (F now.0)) (λ d. NodeIs d id (F b))
    (λ d number x s0 s f on g there e. leads a now.0 d number m x s0 s f on g there e now.1)
    (λ d g stopped. absurd (not_stopped d id m (F a) (to a now.0 m now.1) g stopped))
    (arrives c id C Step F stays kept to leads ms now.0 b now.2)

-- ---- a node ticks

tick_messages : (e : Chain) (id : ℕ) (p : Plain) (x : Progress) → id ≢ 0 → node_at e.nodes id ≡ Some p → chain_step e (Tick id) ≡ Ok x → x.0.messages ≡ e.messages ++ sent_in (tick_sends p)
unfolding chain_step
tick_messages e id p x some at k =
    let M : Result Progress Refusal → Type 0 = λ r. counted_progress e r ≡ Ok x → x.0.messages ≡ e.messages ++ sent_in (tick_sends p) in
    cond_both (id == 0) (Ok (config_progress e)) (node_progress e (node_at e.nodes id) events.Tick) M
    (λ z. absurd (some (eqb-true id 0 z)))
    (λ z h.
    let t : Took e (node_at e.nodes id) events.Tick x = took e (node_at e.nodes id) events.Tick x h in
    let same : t.node ≡ p = let there : node_at e.nodes id ≡ Some t.node = t.there in cc in
    let does : transition_with t.node (tick_sends t.node) ≡ t.transition = let d : Ok (transition_with t.node (tick_sends t.node)) ≡ Ok t.transition = t.does in cc in
    let transition : transition_with p (tick_sends p) ≡ t.transition = sym (ap (λ (q : Plain). transition_with q (tick_sends q)) same) ∙ does in
    ap (λ (y : Progress). y.0.messages) t.is ∙ sym (ap (λ (t : Transition). e.messages ++ sent_in t.1.outs) transition))
    k

in_rest : (a b : Bool) → a ≡ false → (a || b) ≡ true → b ≡ true
in_rest true b e h = absurd (cc)
in_rest false b e h = h

-- the messages of the node's tick are among those of all ticks
ticks_send : (c : Chain) (id since : ℕ) (p : Plain) (Step : ℕ → ℕ → LinkMessage → Type 0) (a b : ℕ) → id ≢ 0 → p.running ≡ true → Series Step (sent_in (tick_sends p)) a b
    → (ids : List ℕ) (d : Chain) → is_member ids id ≡ true → Onward c d → since ≤ length d.messages → node_at d.nodes id ≡ Some p → HaveNumbers d (ticks_of c.nodes ids)
    → Series Step (drop since (after_moves_by after_move d (ticks_of c.nodes ids)).messages) a b
unfolding is_member
ticks_send c id since p Step a b some runs sends [] d member on le at numbers = absurd (cc)
ticks_send c id since p Step a b some runs sends (k ∷ ids) d member on le at numbers =
    let next : Chain = after_move d (Tick k) in
    let rest : List Move = ticks_of c.nodes ids in
    let step : Onward d next = onward_move d (Tick k) tt in
    let Then : List Move → Type 0 = λ l. HaveNumbers d l → Series Step (drop since (after_moves_by after_move d l).messages) a b in
    let up : is_running (node_at d.nodes id) ≡ true = ap is_running at ∙ runs in
    let up_first : is_running (node_at c.nodes id) ≡ true = sym (on.running id) ∙ up in
    ⊎_elim
    (λ (same : k ≡ id).
    let P : ℕ → Type 0 = λ i. is_running (node_at c.nodes i) ≡ true in
    let Q : ℕ → Type 0 = λ i. is_running (node_at d.nodes i) ≡ true in
    cond_both (is_running (node_at c.nodes k)) (Tick k ∷ rest) rest Then
    (λ r h.
    let ok : (x : Progress) × (chain_step d (Tick k) ≡ Ok x) = taken_ok (chain_step d (Tick k)) (tick_taken d k (subst Q (sym same) up)) h.0 in
    let N : ℕ → Type 0 = λ i. node_at d.nodes i ≡ Some p in
    let apart : k ≢ 0 = λ z. some (sym same ∙ z) in
    let news : List LinkMessage = sent_in (tick_sends p) in
    let reported : ok.0.0.messages ≡ d.messages ++ news = tick_messages d k p ok.0 apart (subst N (sym same) at) ok.1 in
    let R : Result Progress Refusal → Type 0 = λ r. (progressed d r).messages ≡ d.messages ++ news in
    let here : next.messages ≡ d.messages ++ news = subst R (sym ok.1) reported in
    let on2 : Onward next (after_moves_by after_move next rest) = onward_moves rest next (ticks_travel c.nodes ids) in
    let all : d.messages ++ (news ++ on2.sent) ≡ (after_moves_by after_move next rest).messages = sym (append_assoc d.messages news on2.sent) ∙ (ap (λ l. l ++ on2.sent) (sym here) ∙ on2.messages) in
    let new : drop since d.messages ++ (news ++ on2.sent) ≡ drop since (after_moves_by after_move next rest).messages = sym (drop-append-le since d.messages (news ++ on2.sent) le) ∙ ap (drop since) all in
    let S : List LinkMessage → Type 0 = λ l. Series Step l a b in
    subst S new (series_right Step (drop since d.messages) (news ++ on2.sent) a b (series_left Step news on2.sent a b sends)))
    (λ r h. absurd (both_ways (is_running (node_at c.nodes k)) r (subst P (sym same) up_first)))
    numbers)
    (λ (ne : k ≢ id).
    let m : is_member ids id ≡ true = in_rest (k == id) (is_member ids id) (false_from_ne_true (k == id) (λ e. ne (eqb-true k id e))) member in
    cond_both (is_running (node_at c.nodes k)) (Tick k ∷ rest) rest Then
    (λ r h. ticks_send c id since p Step a b some runs sends ids next m (onward_on on step) (omega (arith, le, no_fewer step)) (tick_keeps d k id ∙ at) h.1)
    (λ r h. ticks_send c id since p Step a b some runs sends ids d m on le at h)
    numbers)
    (cases_eq k id)

-- ---- a round: the messages of one member's tick arrive at another

-- they are among the messages sent since the round began
pub tick_sent : (c : Chain) (id : ℕ) (p : Plain) (Step : ℕ → ℕ → LinkMessage → Type 0) (a b : ℕ) → id ≢ 0 → p.running ≡ true → Series Step (sent_in (tick_sends p)) a b → is_member c.members id ≡ true → node_at c.nodes id ≡ Some p
    → HaveNumbers c (ticks c) → Series Step (news c (ticked c)) a b
tick_sent c id p Step a b some runs sends member at numbers =
    let step : Onward c (after_move c (Tick 0)) = onward_move c (Tick 0) tt in
    ticks_send c id (length c.messages) p Step a b some runs sends c.members (after_move c (Tick 0)) member step (no_fewer step) (tick_keeps c 0 id ∙ at) numbers.1

pub crosses : (count : ℕ) (c : Chain) (from to : ℕ) (p : Plain) (C : Chain → Type 0) (Step : ℕ → ℕ → LinkMessage → Type 0) (F : ℕ → Plain → Type 0) (a b : ℕ)
    → Stays C → ((n : ℕ) → Lasts (F n)) → from ≢ 0 → is_member c.members from ≡ true → node_at c.nodes from ≡ Some p → p.running ≡ true
    → Series Step (sent_in (tick_sends p)) a b → ((a k : ℕ) (m : LinkMessage) → Step a k m → m.receiver ≡ to) → Leads C c to Step F
    → C c → Sound c → IsFollowed c → NodeIs c to (F a) → HaveNumbers c (round after_move (suc count) c)
    → NodeIs (after_moves_by after_move c (round after_move (suc count) c)) to (F b)
crosses count c from to p C Step F a b stays kept some member at runs sends goes_to leads s0 s f g numbers =
    let c1 : Chain = ticked c in
    round_brings C stays (λ d. NodeIs d to (F b)) (λ m d t f i. kept b m d to t f i) count c (λ d. NodeIs d to (F a)) s0 s f numbers (lasts_on (F a) (kept a) (ticks c) c to (tt, ticks_travel c.nodes c.members) f g)
    (λ n. arrives c1 to C Step F stays kept goes_to (λ a k d number m x sc sd fd od gd at e is. leads a k d number m x sc sd fd (onward_on (ticks_onward c) od) gd at e is) (news c c1) a b (tick_sent c from p Step a b some runs sends member at n))

-- ---- the effect of one message

-- the effect of such a message at a node with property G: it then has F
abbrev pub Makes : Chain → ℕ → (LinkMessage → Type 0) → (Plain → Type 0) → (Plain → Type 0) → Type 0
Makes c id Is G F =
    (d : Chain) (number : ℕ) (m : LinkMessage) (x : Progress) → Sound d → IsFollowed d → Onward c d → NodeIs d id G → message_at d.messages number ≡ Some m
    → chain_step d (Deliver number) ≡ Ok x → Is m → NodeIs x.0 id F

abbrev pub Either : (Plain → Type 0) → (Plain → Type 0) → ℕ → Plain → Type 0
Either G F zero = G
Either G F (suc n) = F

pub either_lasts : (G F : Plain → Type 0) → Lasts G → Lasts F → (n : ℕ) → Lasts (Either G F n)
either_lasts G F g f zero = g
either_lasts G F g f (suc n) = f

either_leads : (c : Chain) (id : ℕ) (Is : LinkMessage → Type 0) (G F : Plain → Type 0) → Makes c id Is G F → Leads (λ d. ⊤) c id (One Is) (Either G F)
either_leads c id Is G F makes a k d number m x s0 s f on g at e is =
    let P : ℕ → Type 0 = λ n. NodeIs d id (Either G F n) in
    let Q : ℕ → Type 0 = λ n. NodeIs x.0 id (Either G F n) in
    subst Q (sym is.1) (makes d number m x s f on (subst P is.0 g) at e is.2)

pub crosses_one : (count : ℕ) (c : Chain) (from to : ℕ) (p : Plain) (Is : LinkMessage → Type 0) (G F : Plain → Type 0) → IsKept G → IsKept F
    → from ≢ 0 → is_member c.members from ≡ true → node_at c.nodes from ≡ Some p → p.running ≡ true
    → Has Is (sent_in (tick_sends p)) → ((m : LinkMessage) → Is m → m.receiver ≡ to) → Makes c to Is G F
    → Sound c → IsFollowed c → NodeIs c to G → HaveNumbers c (round after_move (suc count) c)
    → NodeIs (after_moves_by after_move c (round after_move (suc count) c)) to F
crosses_one count c from to p Is G F keptG keptF some member at runs sends goes_to makes s f g numbers =
    crosses count c from to p (λ d. ⊤) (One Is) (Either G F) 0 1 (λ d m t u. tt) (either_lasts G F (kept_lasts G keptG) (kept_lasts F keptF)) some member at runs
    (one_series Is (sent_in (tick_sends p)) sends) (λ a k m is. goes_to m is.2) (either_leads c to Is G F makes) tt s f g numbers
