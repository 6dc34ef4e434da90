-- In a round of two hops an unready member asks its ready predecessor, which sends what it lacks.
use Rattle.std.proofs.Common.{◌≡◌, ◌≢◌, inl, ℕ, suc, ◌+◌, ◌-◌, ◌<◌, ◌≤◌, ◌==◌, max, true, false, not, cond, List, [], ◌∷◌, ◌++◌, length, drop, append_assoc, Option, Some, Result, Ok, slice_get, refl, ap, sym, subst, ◌∙◌, arith, inr}
use Rattle.std.proofs.lemmas.Bool.{cond_both, both_ways, eqb-true, not-true}
use Rattle.std.proofs.lemmas.List.{drop-append-le, length-drop}
use Rattle.std.specs.List.{AllByRecursion}
use Rattle.craq_chain_invariants.specs.Invariants.{MessagesAgreeWithSenders}
use Rattle.craq_chain_invariants.specs.Kept.{HasSender}
use Rattle.craq_chain_invariants.proofs.Invariants.{messages_agree_with_senders}
use Rattle.craq_names.specs.declared.refusal.Refusal.{Refusal}
use Rattle.craq_names.proofs.Lists.{all_drop}
use Rattle.craq_commands.specs.declared.entry.Entry.{Entry}
use Rattle.craq_model.specs.declared.message.Body.TheVariants as bodies
use Rattle.craq_model.specs.declared.message.LinkMessage.{LinkMessage}
use Rattle.craq_model.specs.declared.message.StatePart.{StatePart}
use Rattle.craq_model.specs.declared.step.Out.{Out}
use Rattle.craq_model.specs.declared.step.Why.TheVariants.{NotNeighbour, NotReadyHere}
use Rattle.craq_model.specs.Deliveries.{blank_transition, body_transition, delivery_transition, fill_bodies}
use Rattle.craq_model.specs.Members.{is_id, is_member, predecessor_in, successor_in}
use Rattle.craq_model.specs.Plain.{Plain, entries_after, id_of, length_of, predecessor, successor}
use Rattle.craq_model.specs.Sends.{ready_sends, send, send_all, tick_sends, to_neighbour, unready_sends}
use Rattle.craq_model.specs.Settle.{Transition, transition_ignoring, transition_with}
use Rattle.craq_protocol.specs.Machine.{MachineState}
use Rattle.craq_protocol.specs.Promises.{IsPrefix, IsSafe}
use Rattle.craq_protocol.proofs.Reached.{reached_inv, reached_safe}
use Rattle.craq_refinement.specs.Follows.{IsPlaced, NodeFollows, seen_of}
use Rattle.craq_refinement.specs.Lines.{IsFollowed}
use Rattle.craq_refinement.proofs.Lists.{all_back, placed_back}
use Rattle.craq_laws.proofs.Nodes.{node_id}
use Rattle.craq_refinement.proofs.Rows.{placed_drop}
use Rattle.craq_refinement.proofs.Worlds.{history_length}
use Rattle.craq_runs.specs.declared.run.Move.{Move}
use Rattle.craq_runs.specs.declared.run.Move.TheVariants.{Deliver}
use Rattle.craq_runs.specs.Chain.{Chain, Progress, chain_step, is_running, message_at, node_at, sent_in}
use Rattle.craq_runs.specs.Runs.{after_move, progressed}
use Rattle.craq_recovery.specs.Recovered.{Knows}
use Rattle.craq_recovery.specs.Rounds.{after_moves_by, arrivals, arrivals_of, round, ticks}
use Rattle.craq_recovery.specs.Taken.{HaveNumbers}
use Rattle.craq_recovery.proofs.Acks.{in_epoch, is_id_here}
use Rattle.craq_recovery.proofs.Blocks.{Conveys, conveys_both, conveys_mild}
use Rattle.craq_recovery.proofs.Entries.{HoldsSo, holds_kept, prefix_of}
use Rattle.craq_recovery.proofs.Extending.{IsReachedBy}
use Rattle.craq_recovery.proofs.Gains.{prefix_length}
use Rattle.craq_recovery.proofs.Gathers.{CameFrom, IsPartFor, came_there}
use Rattle.craq_recovery.proofs.Arriving.{BringAll, Endures, bring_hop, bring_lasts, bring_past, endures_all, hopped, news, taken_ok, ticked, ticks_onward, two_hops_bring}
use Rattle.craq_recovery.proofs.Hearing.{knows_at}
use Rattle.craq_recovery.proofs.Joining.{fill_brought, reach_stays}
use Rattle.craq_recovery.proofs.Meeting.{Begins, Holds, IsMild, transition_mild, with_has}
use Rattle.craq_recovery.proofs.Onward.{IsTravel, Onward, onward_moves}
use Rattle.craq_recovery.proofs.Series.{Has, One, one_series, series_one}
use Rattle.craq_recovery.proofs.Sound.{Sound}
use Rattle.craq_recovery.proofs.Taking.{arrivals_travel, bears, deliver_taken, no_fewer, stands_at, ticks_travel}
use Rattle.craq_recovery.proofs.Travels.{IsKept, Met, NodeIs, one_by_one, kept_move, met, runs_there, stands_by, tick_sent}

-- ---- the message that asks

-- a node reports its length to another, in an epoch
pub record IsBlank (epoch from to count : ℕ) (m : LinkMessage) : Type 0 where
  pub says : m.body ≡ bodies.Blank count
  pub made : m.epoch ≡ epoch
  pub comes : m.sender ≡ from
  pub goes : m.receiver ≡ to

blank_sent : (q : Plain) (to : ℕ) → predecessor q ≡ Some to → Has (IsBlank q.epoch (id_of q) to (length_of q)) (sent_in (unready_sends q))
unfolding unready_sends sent_in
blank_sent q to before =
    let P : Option ℕ → Type 0 = λ o. Has (IsBlank q.epoch (id_of q) to (length_of q)) (sent_in (to_neighbour o (λ to. send q to (bodies.Blank (length_of q)) ∷ []))) in
    subst P (sym before) (inl (record { says = refl; made = refl; comes = refl; goes = refl }))

tick_blank : (q : Plain) (to : ℕ) → q.ready ≡ false → 0 < q.epoch → predecessor q ≡ Some to → Has (IsBlank q.epoch (id_of q) to (length_of q)) (sent_in (tick_sends q))
unfolding tick_sends
tick_blank q to unready late before =
    let Q : List Out → Type 0 = λ os. Has (IsBlank q.epoch (id_of q) to (length_of q)) (sent_in os) in
    cond_both (q.epoch == 0) [] (cond q.ready (ready_sends q) (unready_sends q)) Q
    (λ e. let z : q.epoch ≡ 0 = eqb-true q.epoch 0 e in absurd (omega (arith, z, late)))
    (λ e. cond_both q.ready (ready_sends q) (unready_sends q) Q
    (λ r. absurd (both_ways q.ready unready r))
    (λ r. blank_sent q to before))

-- ---- the reply

blank_fills : (p : Plain) (sender count : ℕ) → successor p ≡ Some sender → p.ready ≡ true → blank_transition p sender count ≡ transition_with p (send_all p sender (fill_bodies p count))
unfolding blank_transition
blank_fills p sender count after ready =
    let t2 : Transition = transition_with p (send_all p sender (fill_bodies p count)) in
    let t1 : Transition = cond (not p.ready) (transition_ignoring p NotReadyHere) t2 in
    let P : Transition → Type 0 = λ t. t ≡ t2 in
    cond_both (not (is_id (successor p) sender)) (transition_ignoring p NotNeighbour) t1 P
    (λ e. absurd (both_ways (is_id (successor p) sender) (not-true (is_id (successor p) sender) e) (is_id_here (successor p) sender after)))
    (λ e. cond_both (not p.ready) (transition_ignoring p NotReadyHere) t2 P
    (λ r. absurd (both_ways p.ready (not-true p.ready r) ready))
    (λ r. refl))

replies : (c d : Chain) (from to count least number : ℕ) (m : LinkMessage) (x : Progress) → successor_in c.members from ≡ Some to → Sound d → IsFollowed d → Onward c d
    → (g : NodeIs d from (HoldsSo c.epoch least)) → message_at d.messages number ≡ Some m → chain_step d (Deliver number) ≡ Ok x → IsBlank c.epoch to from count m
    → x.0.messages ≡ d.messages ++ sent_in (send_all g.node to (fill_bodies g.node count))
replies c d from to count least number m x after s f on g there e is =
    let k : Met c d x m from (HoldsSo c.epoch least) = met c d from number m x (HoldsSo c.epoch least) (λ p h. h.late) s f on g there e is.goes is.made in
    let p : Plain = k.node in
    let h : HoldsSo c.epoch least p = k.holds in
    let next : successor p ≡ Some m.sender = stands_by k successor_in after is.comes in
    let does : delivery_transition p m ≡ transition_with p (send_all p m.sender (fill_bodies p count)) = ap (body_transition p m) is.says ∙ (one_by_one k (blank_transition p m.sender count) ∙ blank_fills p m.sender count next h.ready) in
    let same : p ≡ g.node = let a : node_at d.nodes from ≡ Some p = k.there in let b : node_at d.nodes from ≡ Some g.node = g.at in cc in
    let T : Plain → Type 0 = λ y. x.0.messages ≡ d.messages ++ sent_in (send_all y to (fill_bodies y count)) in
    let U : ℕ → Type 0 = λ i. x.0.messages ≡ d.messages ++ sent_in (send_all p i (fill_bodies p count)) in
    subst T same (subst U is.comes (k.sends ∙ ap (λ (t : Transition). d.messages ++ sent_in t.1.outs) does))

-- ---- earlier messages are harmless

all_numbered : (P : LinkMessage → Type 0) (ms : List LinkMessage) → ((i : ℕ) (m : LinkMessage) → slice_get ms i ≡ Some m → P m) → AllByRecursion P ms
all_numbered P [] so = tt
all_numbered P (m ∷ ms) so = (so 0 m refl, all_numbered P ms (λ i x h. so (suc i) x h))

-- no part that a node sent is of a later state than it knows to be committed
all_mild : (chain : ℕ) (d : Chain) (from : ℕ) (p : Plain) → IsReachedBy chain d → node_at d.nodes from ≡ Some p → AllByRecursion (IsMild from p.past.acknowledged) d.messages
all_mild chain d from p r at =
    let agree : MessagesAgreeWithSenders chain r.run = messages_agree_with_senders chain r.run r.typed in
    let M : Chain → Type 0 = λ c. node_at c.nodes from ≡ Some p → AllByRecursion (IsMild from p.past.acknowledged) c.messages in
    subst M r.leads
    (λ at. all_numbered (IsMild from p.past.acknowledged) _
    (λ i m there part says sender.
    let s : HasSender _ m (λ q. part.position ≤ q.past.acknowledged) = agree.part (suc i) m part there says in
    same_sender _ m from p part s at sender))
    at
  where
    same_sender : (c : Chain) (m : LinkMessage) (from : ℕ) (p : Plain) (part : StatePart) → HasSender c m (λ q. part.position ≤ q.past.acknowledged) → node_at c.nodes from ≡ Some p → m.sender ≡ from → part.position ≤ p.past.acknowledged
    same_sender c m from p part s at sender =
        let N : ℕ → Type 0 = λ i. node_at c.nodes i ≡ Some s.sender in
        let there : node_at c.nodes from ≡ Some s.sender = subst N sender s.at in
        let same : s.sender ≡ p = cc in
        let P : Plain → Type 0 = λ q. part.position ≤ q.past.acknowledged in
        subst P same s.holds

-- no gathering of a node is of a later state of that sender
begins : (chain : ℕ) (d : Chain) (epoch from to least : ℕ) (p : Plain) → IsReachedBy chain d → node_at d.nodes from ≡ Some p → NodeIs d to (Holds epoch least) → NodeIs d to (Begins epoch from least p.past.acknowledged)
begins chain d epoch from to least p r at i =
    let q : Plain = i.node in
    let b : Holds epoch least q = i.holds in
    let mild : AllByRecursion (IsMild from p.past.acknowledged) d.messages = all_mild chain d from p r at in
    record {
      node = q;
      at = i.at;
      runs = i.runs;
      holds = record {
        late = b.late;
        holds = b.holds;
        below = λ g is pred.
            let came : CameFrom d.messages (predecessor q) g = came_there chain d to q r i.at g is in
            let found : (m : LinkMessage) × IsPartFor (predecessor q) g m × IsMild from p.past.acknowledged m = with_has (IsPartFor (predecessor q) g) (IsMild from p.past.acknowledged) d.messages came.sent mild in
            let one : IsPartFor (predecessor q) g found.0 = found.1 in
            let sender : found.0.sender ≡ from = same_id (predecessor q) found.0.sender from one.comes pred in
            let le : one.part.position ≤ p.past.acknowledged = found.2 one.part one.says sender in
            omega (arith, le, one.position);
      };
    }
  where
    same_id : (o : Option ℕ) (a b : ℕ) → o ≡ Some a → o ≡ Some b → a ≡ b
    same_id o a b x y = cc

-- ---- the messages that the predecessor must send

sent_placed : {w : MachineState Entry} (p : Plain) (a : ℕ) → NodeFollows w (seen_of p) → p.past.base ≤ a → IsPlaced a (entries_after p a)
unfolding entries_after
sent_placed {w} p a n le =
    let base : ℕ = p.past.base in
    let P : List Entry → Type 0 = λ l. IsPlaced 0 l in
    let Q : ℕ → Type 0 = λ j. IsPlaced j p.past.entries in
    let R : ℕ → Type 0 = λ j. IsPlaced j (drop (a - base) p.past.entries) in
    let front : 0 + length n.history.front ≡ base = omega (arith, n.history.count) in
    let held : IsPlaced base p.past.entries = subst Q front (placed_back 0 n.history.front p.past.entries (subst P (sym n.history.whole) n.placed)) in
    let sum : base + (a - base) ≡ a = omega (arith, le) in
    subst R sum (placed_drop base (a - base) p.past.entries held)

sent_length : (p : Plain) (a : ℕ) → p.past.base ≤ a → a ≤ length_of p → a + length (entries_after p a) ≡ length_of p
unfolding entries_after
sent_length p a based within =
    let some : length (drop (a - p.past.base) p.past.entries) ≡ length p.past.entries - (a - p.past.base) = length-drop (a - p.past.base) p.past.entries in
    omega (arith, based, within, some)

-- ---- the first hop

-- the chain after the hop: the reply is among its messages, and the node that asked is as required
pub record HopOne (c e : Chain) (from to count least : ℕ) : Type 0 where
  pub filler : Plain
  pub own : id_of filler ≡ from
  pub made : filler.epoch ≡ c.epoch
  pub holds : least ≤ length_of filler
  pub placed : IsPlaced (max count filler.past.acknowledged) (entries_after filler (max count filler.past.acknowledged))
  pub whole : max count filler.past.acknowledged + length (entries_after filler (max count filler.past.acknowledged)) ≡ length_of filler
  pub front : List LinkMessage
  pub more : List LinkMessage
  pub messages : front ++ (sent_in (send_all filler to (fill_bodies filler count)) ++ more) ≡ e.messages
  pub late : length c.messages ≤ length front
  pub mild : AllByRecursion (IsMild from filler.past.acknowledged) front
  pub waits : NodeIs e to (Begins c.epoch from count filler.past.acknowledged)

holds_so_kept : (epoch least : ℕ) → IsKept (Holds epoch least)
holds_so_kept epoch least p q g s = record { late = omega (arith, g.epoch, s.late); holds = omega (arith, g.held, s.holds) }

-- the predecessor is ready and holds this number of entries, and the node that asks holds as many
-- as it reports
abbrev Asks : ℕ → ℕ → ℕ → ℕ → ℕ → Chain → Type 0
Asks epoch from to count least d = NodeIs d from (HoldsSo epoch least) × NodeIs d to (Holds epoch count)

asks_last : (epoch from to count least : ℕ) → Endures (Asks epoch from to count least)
asks_last epoch from to count least m d t f a = (kept_move (HoldsSo epoch least) (holds_kept epoch least) m d from t f a.0, kept_move (Holds epoch count) (holds_so_kept epoch count) m d to t f a.1)

-- at the chain in which the request for entries arrives
asked : (chain : ℕ) (c : Chain) (from to count least : ℕ) (b : LinkMessage) (back : List LinkMessage) → successor_in c.members from ≡ Some to → count ≤ least → IsBlank c.epoch to from count b
    → BringAll (IsReachedBy chain) c (Asks c.epoch from to count least) (λ e. HopOne c e from to count least) (b ∷ back)
asked chain c from to count least b back after le blank = λ before others number d r s f on gq is at has.
    let g : NodeIs d from (HoldsSo c.epoch least) = gq.0 in
    let p : Plain = g.node in
    let h : HoldsSo c.epoch least p = g.holds in
    let N : ℕ → Type 0 = λ i. node_at d.nodes i ≡ Some p in
    let own : id_of p ≡ from = node_id d.nodes from p g.at in
    let n : NodeFollows f.0 (seen_of p) = f.2.nodes (id_of p) p (subst N (sym own) g.at) in
    let safe : IsSafe f.0 = reached_safe f.1 in
    let kn : Knows d p = knows_at c d from on f (record { node = p; at = g.at; runs = g.runs; late = h.late }) in
    let known : f.0.acknowledged (id_of p) ≤ length (f.0.history (id_of p)) = (safe.acknowledged (id_of p)).0 in
    let within : p.past.acknowledged ≤ length_of p = omega (arith, known, n.acknowledged, history_length n.history) in
    let a : ℕ = max count p.past.acknowledged in
    let based : p.past.base ≤ a = omega (arith, n.based) in
    let mild : AllByRecursion (IsMild from p.past.acknowledged) d.messages = all_mild chain d from p r g.at in
    let Mild : LinkMessage → Type 0 = IsMild from p.past.acknowledged in
    let A : List LinkMessage → Type 0 = λ l. AllByRecursion Mild l in
    let first : A c.messages = all_front Mild c.messages on.sent (subst A (sym on.messages) mild) in
    let quiet : A (b ∷ back) = all_front Mild (b ∷ back) others (all_back Mild before ((b ∷ back) ++ others) (subst A (sym is) first)) in
    let conv : Conveys (IsReachedBy chain) c to (Begins c.epoch from count p.past.acknowledged) (Begins c.epoch from count p.past.acknowledged) (b ∷ back) =
    conveys_mild (IsReachedBy chain) c to (IsMild from p.past.acknowledged) (Begins c.epoch from count p.past.acknowledged) (b ∷ back) (reach_stays chain) (λ m k. transition_mild chain c from to count p.past.acknowledged m k) quiet in
    let block : List LinkMessage = sent_in (send_all p to (fill_bodies p count)) in
    let rest : List Move = arrivals_of c.nodes (number + 1) back in
    let next : Chain = after_move d (Deliver number) in
    let there : message_at d.messages number ≡ Some b = stands_at c d before b (back ++ others) number on is at in
    let P : ℕ → Type 0 = λ i. is_running (node_at d.nodes i) ≡ true in
    let up_there : is_running (node_at d.nodes b.receiver) ≡ true = subst P (sym blank.goes) (runs_there g) in
    let up_first : is_running (node_at c.nodes b.receiver) ≡ true = sym (on.running b.receiver) ∙ up_there in
    let Then : List Move → Type 0 = λ l. HaveNumbers d l → (more : List LinkMessage) × (d.messages ++ (block ++ more) ≡ (after_moves_by after_move d l).messages) in
    let sent : (more : List LinkMessage) × (d.messages ++ (block ++ more) ≡ (after_moves_by after_move d (arrivals_of c.nodes number (b ∷ back))).messages) =
    cond_both (is_running (node_at c.nodes b.receiver)) (Deliver number ∷ rest) rest Then
    (λ up h.
    let ok : (x : Progress) × (chain_step d (Deliver number) ≡ Ok x) = taken_ok (chain_step d (Deliver number)) (deliver_taken d number b s there (bears d number b s there) up_there) h.0 in
    let R : Result Progress Refusal → Type 0 = λ r. (progressed d r).messages ≡ d.messages ++ block in
    let here : next.messages ≡ d.messages ++ block = subst R (sym ok.1) (replies c d from to count least number b ok.0 after s f on g there ok.1 blank) in
    let on2 : Onward next (after_moves_by after_move next rest) = onward_moves rest next (arrivals_travel c.nodes back (number + 1)) in
    (on2.sent, sym (append_assoc d.messages block on2.sent) ∙ (ap (λ l. l ++ on2.sent) (sym here) ∙ on2.messages)))
    (λ up h. absurd (both_ways (is_running (node_at c.nodes b.receiver)) up up_first))
    has in
    record {
      filler = p;
      own = own;
      made = kn.epoch ∙ on.epoch;
      holds = h.holds;
      placed = sent_placed p a n based;
      whole = sent_length p a based (omega (arith, within, le, h.holds));
      front = d.messages;
      more = sent.0;
      messages = sent.1;
      late = no_fewer on;
      mild = mild;
      waits = conv before others number d r s f on (begins chain d c.epoch from to count p r g.at gq.1) is at has;
    }
  where
    all_front : (P : LinkMessage → Type 0) (xs ys : List LinkMessage) → AllByRecursion P (xs ++ ys) → AllByRecursion P xs
    all_front P [] ys a = tt
    all_front P (x ∷ xs) ys a = (a.0, all_front P xs ys a.1)

-- the request for entries arrives among the messages
hop_one : (chain : ℕ) (c : Chain) (from to count least : ℕ) → successor_in c.members from ≡ Some to → count ≤ least → (ms : List LinkMessage) → Has (IsBlank c.epoch to from count) ms
    → BringAll (IsReachedBy chain) c (Asks c.epoch from to count least) (λ e. HopOne c e from to count least) ms
hop_one chain c from to count least after le [] has = absurd has
hop_one chain c from to count least after le (m ∷ ms) (inl blank) = asked chain c from to count least m ms after le blank
hop_one chain c from to count least after le (m ∷ ms) (inr later) =
    bring_past (IsReachedBy chain) (reach_stays chain) c m ms (Asks c.epoch from to count least) (λ e. HopOne c e from to count least) (asks_last c.epoch from to count least)
    (hop_one chain c from to count least after le ms later)

-- ---- the round

-- the second hop: the reply arrives
filled : (chain : ℕ) (c e : Chain) (from to count least : ℕ) → Onward c e → predecessor_in c.members to ≡ Some from → IsReachedBy chain e → Sound e → IsFollowed e
    → HopOne c e from to count least → HaveNumbers e (arrivals e (length c.messages)) → NodeIs (hopped c e) to (HoldsSo e.epoch least)
filled chain c e from to count least on prior r s f h has =
    let p : Plain = h.filler in
    let sent : ℕ = length c.messages in
    let block : List LinkMessage = sent_in (send_all p to (fill_bodies p count)) in
    let cut : drop sent h.front ++ (block ++ h.more) ≡ news c e = sym (drop-append-le sent h.front (block ++ h.more) h.late) ∙ ap (drop sent) h.messages in
    let E : Plain → Type 0 = Begins e.epoch from count p.past.acknowledged in
    let F : Plain → Type 0 = HoldsSo e.epoch (length_of p) in
    let B : ℕ → Type 0 = λ n. NodeIs e to (Begins n from count p.past.acknowledged) in
    let waits : NodeIs e to E = subst B (sym on.epoch) h.waits in
    let P : List ℕ → Type 0 = λ l. predecessor_in l to ≡ Some from in
    let Q : ℕ → Type 0 = λ i. predecessor_in e.members to ≡ Some i in
    let ahead : predecessor_in e.members to ≡ Some (id_of p) = subst Q (sym h.own) (subst P (sym on.members) prior) in
    let C : ℕ → Type 0 = λ i. Conveys (IsReachedBy chain) e to (Begins e.epoch i count p.past.acknowledged) F block in
    let fills : Conveys (IsReachedBy chain) e to E F block = subst C h.own (fill_brought chain e p to ahead (h.made ∙ sym on.epoch) count h.placed h.whole) in
    let mild : AllByRecursion (IsMild from p.past.acknowledged) (drop sent h.front) = all_drop (IsMild from p.past.acknowledged) sent h.front h.mild in
    let conv : Conveys (IsReachedBy chain) e to E F (drop sent h.front ++ (block ++ h.more)) =
    conveys_both (IsReachedBy chain) e to (drop sent h.front) (block ++ h.more) E E F (reach_stays chain)
    (conveys_mild (IsReachedBy chain) e to (IsMild from p.past.acknowledged) E (drop sent h.front) (reach_stays chain) (λ m k. transition_mild chain e from to count p.past.acknowledged m k) mild)
    (conveys_both (IsReachedBy chain) e to block h.more E F F (reach_stays chain) fills (bring_lasts (IsReachedBy chain) (reach_stays chain) e (λ d. NodeIs d to F) h.more (λ m d t f i. kept_move F (holds_kept e.epoch (length_of p)) m d to t f i))) in
    let L : List LinkMessage → Type 0 = λ l. Conveys (IsReachedBy chain) e to E F l in
    let i : NodeIs (hopped c e) to F = bring_hop (IsReachedBy chain) (reach_stays chain) e sent (λ d. NodeIs d to E) (λ d. NodeIs d to F) (subst L cut conv) r s f (no_fewer on) waits has in
    let t : HoldsSo e.epoch (length_of p) i.node = i.holds in
    record { node = i.node; at = i.at; runs = i.runs; holds = record { ready = t.ready; late = t.late; holds = omega (arith, t.holds, h.holds) } }

-- an unready member becomes ready, and holds its predecessor's entries
pub joins : (chain count : ℕ) (c : Chain) (p q : Plain) → IsReachedBy chain c → Sound c → IsFollowed c → id_of q ≢ 0
    → node_at c.nodes (id_of p) ≡ Some p → node_at c.nodes (id_of q) ≡ Some q → Knows c p → Knows c q → p.ready ≡ true → q.ready ≡ false
    → is_member c.members (id_of q) ≡ true → successor_in c.members (id_of p) ≡ Some (id_of q) → predecessor_in c.members (id_of q) ≡ Some (id_of p)
    → HaveNumbers c (round after_move (suc (suc count)) c)
    → NodeIs (after_moves_by after_move c (round after_move (suc (suc count)) c)) (id_of q) (HoldsSo c.epoch (length_of p))
joins chain count c p q r s f some at_p at_q kp kq ready unready member after before numbers =
    let from : ℕ = id_of p in
    let to : ℕ = id_of q in
    let c1 : Chain = ticked c in
    let on : Onward c c1 = ticks_onward c in
    let travel : AllByRecursion IsTravel (ticks c) = (tt, ticks_travel c.nodes c.members) in
    let n : NodeFollows f.0 (seen_of q) = f.2.nodes to q at_q in
    let o : NodeFollows f.0 (seen_of p) = f.2.nodes from p at_p in
    let M : List ℕ → Type 0 = λ l. predecessor_in l to ≡ Some from in
    let pred : predecessor q ≡ Some from = subst M (sym kq.members) before in
    let shorter : IsPrefix (f.0.history to) (f.0.history from) = prefix_of f.0 q from (reached_inv f.1) n pred in
    let le : length_of q ≤ length_of p = omega (arith, prefix_length shorter, history_length n.history, history_length o.history) in
    let begun : 0 < p.epoch = in_epoch c from p f at_p ready in
    let late : 0 < q.epoch = omega (arith, begun, kp.epoch, kq.epoch) in
    let Is : LinkMessage → Type 0 = IsBlank q.epoch to from (length_of q) in
    let H : ℕ → Type 0 = λ k. Has (IsBlank k to from (length_of q)) (news c c1) in
    let S : List ℕ → Type 0 = λ l. successor_in l from ≡ Some to in
    let after1 : successor_in c1.members from ≡ Some to = subst S (sym on.members) after in
    let before1 : predecessor_in c1.members to ≡ Some from = subst M (sym on.members) before in
    let pe : p.epoch ≡ c.epoch = kp.epoch in
    let qe : q.epoch ≡ c.epoch = kq.epoch in
    let F : ℕ → Chain → Type 0 = λ k d. NodeIs d to (HoldsSo k (length_of p)) in
    two_hops_bring (IsReachedBy chain) (reach_stays chain) (F c.epoch) (λ m d t f i. kept_move (HoldsSo c.epoch (length_of p)) (holds_kept c.epoch (length_of p)) m d to t f i) count c
    (Asks c1.epoch from to (length_of q) (length_of p)) (λ d. HopOne c1 d from to (length_of q) (length_of p)) r s f numbers
    (endures_all (Asks c1.epoch from to (length_of q) (length_of p)) (asks_last c1.epoch from to (length_of q) (length_of p)) (ticks c) c travel f (
      record { node = p; at = at_p; runs = kp.running; holds = record { ready = ready; late = omega (arith, pe, on.epoch); holds = omega arith } },
      record { node = q; at = at_q; runs = kq.running; holds = record { late = omega (arith, qe, on.epoch); holds = omega arith } },
    ))
    (λ n. hop_one chain c1 from to (length_of q) (length_of p) after1 le (news c c1)
    (subst H (kq.epoch ∙ sym on.epoch) (series_one Is (news c c1) (tick_sent c to q (One Is) 0 1 some kq.running (one_series Is (sent_in (tick_sends q)) (tick_blank q from unready late pred)) member at_q n))))
    (λ d r2 s2 f2 on1 h k.
    let E : ℕ → Type 0 = λ k. F k (hopped c1 d) in
    subst E (on1.epoch ∙ on.epoch) (filled chain c1 d from to (length_of q) (length_of p) on1 before1 r2 s2 f2 h k))
