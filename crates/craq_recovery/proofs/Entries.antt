-- Entries advance by one member in a round.
use Rattle.std.proofs.Common.{◌≡◌, ◌≢◌, inr, ℕ, suc, ◌+◌, ◌-◌, ◌<◌, ◌≤◌, ◌==◌, nat_le, nat_lt, true, not, ◌&&◌, cond, List, [], ◌∷◌, ◌++◌, map, length, drop, Option, Some, None, refl, ap, sym, subst, ◌∙◌, arith}
use Rattle.std.proofs.lemmas.Bool.{cond_both, both_ways, eqb-true, leb-true, ltb-true, ltb-false, not-true}
use Rattle.std.proofs.lemmas.List.{length-append, length-drop, map-append}
use Rattle.std.specs.List.{AllByRecursion, flat_map}
use Rattle.craq_names.proofs.Lists.{all_like}
use Rattle.craq_commands.specs.declared.entry.Entry.{Entry}
use Rattle.craq_laws.proofs.Parts.{runs_joined}
use Rattle.craq_model.specs.declared.message.Body.{Body}
use Rattle.craq_model.specs.declared.message.Body.TheVariants as bodies
use Rattle.craq_model.specs.declared.message.LinkMessage.{LinkMessage}
use Rattle.craq_model.specs.declared.step.Out.{Out}
use Rattle.craq_model.specs.declared.step.Why.TheVariants.{NotNeighbour, OutOfOrder, AlreadyHave, TooFar}
use Rattle.craq_model.specs.Deliveries.{are_applicable, body_transition, delivery_transition, entries_above, entries_transition, final_position, first_position, forwarding_transition, transition_in_epoch}
use Rattle.craq_model.specs.Members.{is_id, is_member, predecessor_in, successor_in}
use Rattle.craq_model.specs.Plain.{Plain, acknowledging, entries_after, id_of, is_last, is_tail, length_of, newest, predecessor, successor, with_entries}
use Rattle.craq_model.specs.Sends.{catch_up, entry_bodies, queries, ready_sends, run_body, runs_of, send, send_all, tick_sends, to_neighbour, unready_sends}
use Rattle.craq_model.specs.Parts.{gathered_position}
use Rattle.craq_model.specs.Settle.{Transition, all_committed, all_given, answer_outs, is_reached, readiness_transition, settling_transition, transition_ignoring, transition_with, without_reached}
use Rattle.craq_protocol.specs.Machine as machine
use Rattle.craq_protocol.specs.Machine.{MachineState, known_membership}
use Rattle.craq_protocol.specs.Members.{is_next}
use Rattle.craq_protocol.specs.Promises.{IsPrefix, IsSafe, Sent}
use Rattle.craq_protocol.proofs.Invariant.{Ages, Clauses, Invariant}
use Rattle.craq_protocol.proofs.Lists.{next_left, next_rank}
use Rattle.craq_protocol.proofs.Reached.{reached_inv, reached_safe}
use Rattle.craq_refinement.specs.Follows.{BodyFollows, Follows, IsPlaced, NodeFollows, said, seen_of}
use Rattle.craq_refinement.specs.Lines.{IsFollowed}
use Rattle.craq_refinement.proofs.EachLine.{said_as}
use Rattle.craq_refinement.proofs.Lists.{placed_back}
use Rattle.craq_refinement.proofs.Members.{is_member-same, next_from_predecessor}
use Rattle.craq_refinement.proofs.Rows.{all_of_above, placed_above, placed_drop}
use Rattle.craq_refinement.proofs.Worlds.{history_length}
use Rattle.craq_runs.specs.declared.run.Run.{Run}
use Rattle.craq_runs.specs.Chain.{Chain, message_at, node_at, sent_in}
use Rattle.craq_runs.specs.Runs.{IsRunOf, after_move}
use Rattle.craq_runs.specs.Typed.{IsTypedRunOf}
use Rattle.craq_recovery.specs.Recovered.{AreNeighbours, HoldsEntries, Knows, after_round, chain_after_moves}
use Rattle.craq_recovery.specs.Rounds.{after_moves_by, round}
use Rattle.craq_recovery.specs.Taken.{HaveNumbers}
use Rattle.craq_recovery.proofs.Acks.{in_epoch, is_id_here}
use Rattle.craq_recovery.proofs.Applicable.{Explained, StandIn, explained, fits}
use Rattle.craq_recovery.proofs.Extending.{IsReachedBy, reached_here, reached_move}
use Rattle.craq_recovery.proofs.Gains.{Gains, prefix_length}
use Rattle.craq_recovery.proofs.Ids.{none_is_master, not_master}
use Rattle.craq_recovery.proofs.Series.{Series, sent_left}
use Rattle.craq_recovery.proofs.Sound.{Sound, sound_after}
use Rattle.craq_recovery.proofs.Lines.{by_test}
use Rattle.craq_recovery.proofs.Travels.{IsKept, Leads, Met, NodeIs, crosses, ends, one_by_one, kept_lasts, met, stands_by}
use Rattle.craq_refinement.proofs.EachStep.{every_run}

-- ---- the messages

-- the entries from one length of a history to another, from one node to another
pub record BringsEntries (epoch from to a b : ℕ) (m : LinkMessage) : Type 0 where
  pub entries : List Entry
  pub says : m.body ≡ run_body entries
  pub placed : IsPlaced a entries
  pub ends : a + length entries ≡ b
  pub made : m.epoch ≡ epoch
  pub comes_from : m.sender ≡ from
  pub goes_to : m.receiver ≡ to

abbrev pub Brings : ℕ → ℕ → ℕ → ℕ → ℕ → LinkMessage → Type 0
Brings epoch from to a b m = BringsEntries epoch from to a b m

pub placed_front : (k : ℕ) (xs ys : List Entry) → IsPlaced k (xs ++ ys) → IsPlaced k xs
placed_front k [] ys p = tt
placed_front k (x ∷ xs) ys p = (p.0, placed_front (suc k) xs ys p.1)

runs_sent : (p : Plain) (to a : ℕ) (rs : List (List Entry)) → IsPlaced a (flat_map (λ (run : List Entry). run) rs)
    → Series (Brings p.epoch (id_of p) to) (sent_in (send_all p to (map run_body rs))) a (a + length (flat_map (λ (run : List Entry). run) rs))
unfolding sent_in
runs_sent p to a [] placed = let same : a ≡ a + 0 = omega arith in same
runs_sent p to a (r ∷ rs) placed =
    let rest : List Entry = flat_map (λ (run : List Entry). run) rs in
    let ends : (a + length r) + length rest ≡ a + length (r ++ rest) = omega (arith, length-append r rest) in
    let S : ℕ → Type 0 = λ b. Series (Brings p.epoch (id_of p) to) (sent_in (send_all p to (map run_body rs))) (a + length r) b in
    inr (
      a + length r,
      record { entries = r; says = refl; placed = placed_front a r rest placed; ends = refl; made = refl; comes_from = refl; goes_to = refl },
      subst S ends (runs_sent p to (a + length r) rs (placed_back a r rest placed)),
    )

catch_up_sent : (p : Plain) (to a : ℕ) → IsPlaced a (entries_after p a) → Series (Brings p.epoch (id_of p) to) (sent_in (send_all p to (catch_up p a))) a (a + length (entries_after p a))
unfolding catch_up entry_bodies
catch_up_sent p to a placed =
    let Step : ℕ → ℕ → LinkMessage → Type 0 = Brings p.epoch (id_of p) to in
    let es : List Entry = entries_after p a in
    let runs : List Body = map run_body (runs_of es) in
    let floor : List Body = bodies.Floor (length_of p) ∷ [] in
    let L : List Out → Type 0 = λ l. Series Step (sent_in l) a (a + length es) in
    let P : List Entry → Type 0 = λ l. IsPlaced a l in
    let S : List Entry → Type 0 = λ l. Series Step (sent_in (send_all p to runs)) a (a + length l) in
    subst L (sym (map-append (send p to) runs floor))
    (sent_left Step (send_all p to runs) (send_all p to floor) a (a + length es)
    (subst S (runs_joined es) (runs_sent p to a (runs_of es) (subst P (sym (runs_joined es)) placed))))

ready_sent : (p : Plain) (to : ℕ) → successor p ≡ Some to → IsPlaced p.past.acknowledged (entries_after p p.past.acknowledged)
    → Series (Brings p.epoch (id_of p) to) (sent_in (ready_sends p)) p.past.acknowledged (p.past.acknowledged + length (entries_after p p.past.acknowledged))
unfolding ready_sends
ready_sent p to next placed =
    let a : ℕ = p.past.acknowledged in
    let b : ℕ = a + length (entries_after p a) in
    let Step : ℕ → ℕ → LinkMessage → Type 0 = Brings p.epoch (id_of p) to in
    let first : List Out = to_neighbour (successor p) (λ to. send_all p to (catch_up p a)) in
    let second : List Out = to_neighbour (predecessor p) (λ to. send p to (bodies.Ack a) ∷ []) in
    let third : List Out = cond (is_last p) [] (queries p) in
    let P : Option ℕ → Type 0 = λ o. Series Step (sent_in (to_neighbour o (λ to. send_all p to (catch_up p a)))) a b in
    sent_left Step (first ++ second) third a b (sent_left Step first second a b (subst P (sym next) (catch_up_sent p to a placed)))

tick_sent : (p : Plain) (to : ℕ) → p.ready ≡ true → 0 < p.epoch → successor p ≡ Some to → IsPlaced p.past.acknowledged (entries_after p p.past.acknowledged)
    → Series (Brings p.epoch (id_of p) to) (sent_in (tick_sends p)) p.past.acknowledged (p.past.acknowledged + length (entries_after p p.past.acknowledged))
unfolding tick_sends
tick_sent p to ready late next placed =
    let a : ℕ = p.past.acknowledged in
    let Q : List Out → Type 0 = λ os. Series (Brings p.epoch (id_of p) to) (sent_in os) a (a + length (entries_after p a)) in
    cond_both (p.epoch == 0) [] (cond p.ready (ready_sends p) (unready_sends p)) Q
    (λ e. let z : p.epoch ≡ 0 = eqb-true p.epoch 0 e in absurd (omega (arith, z, late)))
    (λ e. cond_both p.ready (ready_sends p) (unready_sends p) Q
    (λ r. ready_sent p to next placed)
    (λ r. absurd (both_ways p.ready r ready)))

-- the entries after a position, at a node for which one of a world stands
later_placed : {w : MachineState Entry} (p : Plain) → NodeFollows w (seen_of p) → IsPlaced p.past.acknowledged (entries_after p p.past.acknowledged)
unfolding entries_after
later_placed {w} p n =
    let base : ℕ = p.past.base in
    let k : ℕ = p.past.acknowledged - base in
    let P : List Entry → Type 0 = λ l. IsPlaced 0 l in
    let Q : ℕ → Type 0 = λ j. IsPlaced j p.past.entries in
    let R : ℕ → Type 0 = λ j. IsPlaced j (drop k p.past.entries) in
    let front : 0 + length n.history.front ≡ base = omega (arith, n.history.count) in
    let held : IsPlaced base p.past.entries = subst Q front (placed_back 0 n.history.front p.past.entries (subst P (sym n.history.whole) n.placed)) in
    let sum : base + k ≡ p.past.acknowledged = omega (arith, n.based) in
    subst R sum (placed_drop base k p.past.entries held)

later_length : (p : Plain) → p.past.base ≤ p.past.acknowledged → p.past.acknowledged ≤ length_of p → p.past.acknowledged + length (entries_after p p.past.acknowledged) ≡ length_of p
unfolding entries_after
later_length p based within =
    let some : length (drop (p.past.acknowledged - p.past.base) p.past.entries) ≡ length p.past.entries - (p.past.acknowledged - p.past.base) = length-drop (p.past.acknowledged - p.past.base) p.past.entries in
    omega (arith, based, within, some)

-- ---- they arrive

-- a ready node of at least this epoch that holds this number of entries
pub record HoldsSo (epoch least : ℕ) (p : Plain) : Type 0 where
  pub ready : p.ready ≡ true
  pub late : epoch ≤ p.epoch
  pub holds : least ≤ length_of p

pub holds_kept : (epoch least : ℕ) → IsKept (HoldsSo epoch least)
holds_kept epoch least p q g s = record { ready = g.ready s.ready; late = omega (arith, g.epoch, s.late); holds = omega (arith, g.held, s.holds) }

-- the number of consecutive entries that are left
few_left : (n a : ℕ) (es : List Entry) → IsPlaced a es → length es ≤ (n - a) + length (entries_above n es)
unfolding entries_above
few_left n a [] p = omega arith
few_left n a (e ∷ es) p =
    let rest : length es ≤ (n - suc a) + length (entries_above n es) = few_left n (suc a) es p.1 in
    let at : e.position ≡ suc a = p.0 in
    cond_both (nat_lt n e.position) (e ∷ entries_above n es) (entries_above n es) (λ (l : List Entry). suc (length es) ≤ (n - a) + length l)
    (λ t. omega (arith, rest))
    (λ f. let below : e.position ≤ n = ltb-false n e.position f in omega (arith, rest, below, at))

row_reaches : (n a : ℕ) (e : Entry) (es : List Entry) → IsPlaced a (e ∷ es) → final_position (e ∷ es) ≤ n → a + length (e ∷ es) ≤ n
row_reaches n a e [] p h = omega (arith, p.0, h)
row_reaches n a e (f ∷ es) p h = let more : suc a + length (f ∷ es) ≤ n = row_reaches n (suc a) f es p.1 h in omega (arith, more)

reaches : (n a : ℕ) (es : List Entry) → IsPlaced a es → a ≤ n → final_position es ≤ n → a + length es ≤ n
reaches n a [] p le h = omega (arith, le)
reaches n a (e ∷ es) p le h = row_reaches n a e es p h

begins : (n a : ℕ) (es : List Entry) → IsPlaced a es → a ≤ n → first_position es ≤ n + 1
begins n a [] p le = omega arith
begins n a (e ∷ es) p le = omega (arith, p.0, le)

-- becoming ready changes no history
pub readiness_length : (q : Plain) → length_of (readiness_transition q).0 ≡ length_of q
unfolding readiness_transition without_reached settling_transition
readiness_length q =
    let L : Transition → Type 0 = λ t. length_of t.0 ≡ length_of q in
    let r : Plain = record q { ready = true; gathering = None } in
    by_test (not q.ready && is_reached q.floor (length_of q)) L (settling_transition r) (transition_with (without_reached q) [])
    (by_test (is_tail r) L (transition_with (all_committed r) (answer_outs (all_given r) ++ tick_sends (all_committed r))) (transition_with r (tick_sends r)) refl refl)
    (by_test (nat_le (gathered_position q.gathering) (length_of q)) (λ (x : Plain). length_of x ≡ length_of q) (record q { gathering = None }) q refl refl)

entries_taken : (q : Plain) (sender a : ℕ) (es : List Entry) → predecessor q ≡ Some sender → IsPlaced a es → a ≤ length_of q
    → are_applicable (newest q) (entries_above (length_of q) es) ≡ true → a + length es ≤ length_of (entries_transition q sender es).0
unfolding entries_transition forwarding_transition
entries_taken q sender a es pred placed le fit =
    let n : ℕ = length_of q in
    let new : List Entry = entries_above n es in
    let q2 : Plain = with_entries q new in
    let acks : Transition = transition_with (acknowledging q2 (length_of q2)) (to_neighbour (predecessor q2) (λ to. send q2 to (bodies.Ack (length_of q2)) ∷ [])) in
    let passes : Transition = transition_with q2 (to_neighbour (successor q2) (λ to. send_all q2 to (entry_bodies new))) in
    let t5 : Transition = cond (is_tail q2) acks passes in
    let t4 : Transition = cond q.ready t5 (readiness_transition q2) in
    let t3 : Transition = cond (are_applicable (newest q) new) t4 (transition_ignoring q TooFar) in
    let t2 : Transition = cond (nat_lt (n + 1) (first_position es)) (transition_ignoring q OutOfOrder) t3 in
    let t1 : Transition = cond (nat_le (final_position es) n) (transition_ignoring q AlreadyHave) t2 in
    let P : Transition → Type 0 = λ t. a + length es ≤ length_of t.0 in
    let few : length es ≤ (n - a) + length new = few_left n a es placed in
    let sum : length (q.past.entries ++ new) ≡ length q.past.entries + length new = length-append q.past.entries new in
    let all : a + length es ≤ q.past.base + length (q.past.entries ++ new) = omega (arith, few, sum, le) in
    cond_both (not (is_id (predecessor q) sender)) (transition_ignoring q NotNeighbour) t1 P
    (λ e. absurd (both_ways (is_id (predecessor q) sender) (not-true (is_id (predecessor q) sender) e) (is_id_here (predecessor q) sender pred)))
    (λ e. cond_both (nat_le (final_position es) n) (transition_ignoring q AlreadyHave) t2 P
    (λ e. reaches n a es placed le (leb-true (final_position es) n e))
    (λ e. cond_both (nat_lt (n + 1) (first_position es)) (transition_ignoring q OutOfOrder) t3 P
    (λ e. let far : n + 1 < first_position es = ltb-true (n + 1) (first_position es) e in let near : first_position es ≤ n + 1 = begins n a es placed le in absurd (omega (arith, far, near)))
    (λ e. cond_both (are_applicable (newest q) new) t4 (transition_ignoring q TooFar) P
    (λ e. cond_both q.ready t5 (readiness_transition q2) P
    (λ e. cond_both (is_tail q2) acks passes P (λ e. all) (λ e. all))
    (λ e. omega (arith, all, readiness_length q2)))
    (λ e. absurd (both_ways (are_applicable (newest q) new) e fit)))))

pub run_transition : (p : Plain) (m : LinkMessage) (es : List Entry) → body_transition p m (run_body es) ≡ transition_in_epoch p m (entries_transition p m.sender es)
run_transition p m [] = refl
run_transition p m (e ∷ []) = refl
run_transition p m (e ∷ f ∷ es) = refl

-- the message contains the entry
abbrev IsSaid : MachineState Entry → LinkMessage → Entry → Type 0
IsSaid w m e = Sent w.messages (said m.epoch m.sender m.receiver (machine.Entry e.position e))

run_said : (w : MachineState Entry) (m : LinkMessage) (es : List Entry) → BodyFollows w.memberships w.messages m.epoch m.sender m.receiver (run_body es) → AllByRecursion (IsSaid w m) es
run_said w m [] b = tt
run_said w m (e ∷ []) b = (b, tt)
run_said w m (e ∷ f ∷ es) b = b.2

-- the entries that were sent are in the sender's history
stand : (w : MachineState Entry) (m : LinkMessage) (es : List Entry) → Invariant w → AllByRecursion (IsSaid w m) es → StandIn (w.history m.sender) es
stand w m es i a =
    let g : Ages = i.ages in
    let k : Clauses w g = i.clauses in
    all_like (IsSaid w m) (λ (e : Entry). machine.entry_at (w.history m.sender) e.position ≡ Some e) es
    (λ e s. k.truthful (said m.epoch m.sender m.receiver (machine.Entry e.position e)) s m.sender (k.sender_is_member (said m.epoch m.sender m.receiver (machine.Entry e.position e)) s) (omega arith))
    a

-- a node's history is a prefix of its predecessor's
pub prefix_of : (w : MachineState Entry) (p : Plain) (from : ℕ) → Invariant w → NodeFollows w (seen_of p) → predecessor p ≡ Some from → IsPrefix (w.history (id_of p)) (w.history from)
prefix_of w p from i n pred =
    let g : Ages = i.ages in
    let k : Clauses w g = i.clauses in
    let id : ℕ = id_of p in
    let ms : List ℕ = known_membership w id in
    let N : List ℕ → Type 0 = λ l. is_next l from id ≡ true in
    let next : is_next ms from id ≡ true = subst N (sym n.members) (next_from_predecessor p.members id from pred) in
    k.elders_hold id from (next_left ms from id next) (next_rank g.rank ms from id (k.shape.sorted (w.epoch id)) next)

-- a node takes the entries that its predecessor sent, if it holds those before
pub takes_them : (chain : ℕ) (d : Chain) (number : ℕ) (m : LinkMessage) (es : List Entry) (a : ℕ) (p : Plain) → IsReachedBy chain d → message_at d.messages number ≡ Some m → m.body ≡ run_body es
    → IsPlaced a es → a ≤ length_of p → node_at d.nodes (id_of p) ≡ Some p → predecessor p ≡ Some m.sender
    → a + length es ≤ length_of (entries_transition p m.sender es).0
takes_them chain d number m es a p r there is placed le at pred =
    let x : Explained d = explained chain d r in
    let w : MachineState Entry = x.world in
    let f : Follows d w = x.follows in
    let i : Invariant w = reached_inv x.reached in
    let n : NodeFollows w (seen_of p) = f.nodes (id_of p) p at in
    let here : ℕ = length_of p in
    let stands : StandIn (w.history m.sender) es = stand w m es i (run_said w m es (said_as f number m (run_body es) there is)) in
    let fit : are_applicable (newest p) (entries_above here es) ≡ true =
    fits x.asked w p (w.history m.sender) (entries_above here es) n (x.valid_entry m.sender) (prefix_of w p m.sender i n pred)
    (placed_above here a es placed (begins here a es placed le))
    (all_of_above (λ (e : Entry). machine.entry_at (w.history m.sender) e.position ≡ Some e) here es stands) in
    entries_taken p m.sender a es pred placed le fit

entries_lead : (chain : ℕ) (c : Chain) (from to : ℕ) → predecessor_in c.members to ≡ Some from → Leads (IsReachedBy chain) c to (Brings c.epoch from to) (HoldsSo c.epoch)
entries_lead chain c from to before a b d number m x r s f on g there e is =
    let k : Met c d x m to (HoldsSo c.epoch a) = met c d to number m x (HoldsSo c.epoch a) (λ p h. h.late) s f on g there e is.goes_to is.made in
    let p : Plain = k.node in
    let h : HoldsSo c.epoch a p = k.holds in
    let pred : predecessor p ≡ Some m.sender = stands_by k predecessor_in before is.comes_from in
    let got : a + length is.entries ≤ length_of (entries_transition p m.sender is.entries).0 = takes_them chain d number m is.entries a p r there is.says is.placed h.holds k.at pred in
    let does : delivery_transition p m ≡ entries_transition p m.sender is.entries = ap (body_transition p m) is.says ∙ (run_transition p m is.entries ∙ one_by_one k (entries_transition p m.sender is.entries)) in
    let gains : Gains p (delivery_transition p m).0 = k.gains in
    ends k (HoldsSo c.epoch b) (record { ready = gains.ready h.ready; late = omega (arith, gains.epoch, h.late); holds = omega (arith, got, is.ends, ap (λ (t : Transition). length_of t.0) does) })

-- ---- in a round

-- each ready node holds the entries that a node knows to be committed
pub held_there : (c : Chain) (p q : Plain) → IsFollowed c → node_at c.nodes (id_of p) ≡ Some p → node_at c.nodes (id_of q) ≡ Some q → q.running ≡ true → q.ready ≡ true → p.past.acknowledged ≤ length_of q
held_there c p q f at_p at_q runs ready =
    let w : MachineState Entry = f.0 in
    let g : Follows c w = f.2 in
    let n : NodeFollows w (seen_of p) = g.nodes (id_of p) p at_p in
    let o : NodeFollows w (seen_of q) = g.nodes (id_of q) q at_q in
    let s : IsSafe w = reached_safe f.1 in
    let most : w.acknowledged (id_of p) ≤ length w.log = (s.acknowledged (id_of p)).1 in
    let holds : IsPrefix w.log (w.history (id_of q)) = s.committed (id_of q) (o.ready ∙ ready) (s.alive (id_of q) (o.running ∙ runs)) in
    omega (arith, most, prefix_length holds, history_length o.history, n.acknowledged)

sent_by : (c : Chain) (p : Plain) (to : ℕ) → IsFollowed c → node_at c.nodes (id_of p) ≡ Some p → Knows c p → p.ready ≡ true → successor_in c.members (id_of p) ≡ Some to
    → Series (Brings c.epoch (id_of p) to) (sent_in (tick_sends p)) p.past.acknowledged (length_of p)
sent_by c p to f at k ready after =
    let w : MachineState Entry = f.0 in
    let g : Follows c w = f.2 in
    let n : NodeFollows w (seen_of p) = g.nodes (id_of p) p at in
    let s : IsSafe w = reached_safe f.1 in
    let held : w.acknowledged (id_of p) ≤ length (w.history (id_of p)) = (s.acknowledged (id_of p)).0 in
    let within : p.past.acknowledged ≤ length_of p = omega (arith, held, n.acknowledged, history_length n.history) in
    let P : List ℕ → Type 0 = λ l. successor_in l (id_of p) ≡ Some to in
    let E : ℕ → Type 0 = λ e. Series (Brings e (id_of p) to) (sent_in (tick_sends p)) p.past.acknowledged (length_of p) in
    let L : ℕ → Type 0 = λ b. Series (Brings p.epoch (id_of p) to) (sent_in (tick_sends p)) p.past.acknowledged b in
    subst E k.epoch (subst L (later_length p n.based within) (tick_sent p to ready (in_epoch c (id_of p) p f at ready) (subst P (sym k.members) after) (later_placed p n)))

pub entries_cross : (chain count : ℕ) (c : Chain) (p q : Plain) → IsReachedBy chain c → Sound c → IsFollowed c → id_of p ≢ 0
    → node_at c.nodes (id_of p) ≡ Some p → node_at c.nodes (id_of q) ≡ Some q → Knows c p → Knows c q → p.ready ≡ true → q.ready ≡ true
    → is_member c.members (id_of p) ≡ true → successor_in c.members (id_of p) ≡ Some (id_of q) → predecessor_in c.members (id_of q) ≡ Some (id_of p)
    → HaveNumbers c (round after_move (suc count) c)
    → NodeIs (after_moves_by after_move c (round after_move (suc count) c)) (id_of q) (HoldsSo c.epoch (length_of p))
entries_cross chain count c p q r s f some at_p at_q kp kq rp rq member after before numbers =
    let qe : q.epoch ≡ c.epoch = kq.epoch in
    crosses count c (id_of p) (id_of q) p (IsReachedBy chain) (Brings c.epoch (id_of p) (id_of q)) (HoldsSo c.epoch) p.past.acknowledged (length_of p)
    (λ d m t i. reached_move chain d m t i) (λ n. kept_lasts (HoldsSo c.epoch n) (holds_kept c.epoch n)) some member at_p kp.running (sent_by c p (id_of q) f at_p kp rp after) (λ a k m is. is.goes_to)
    (entries_lead chain c (id_of p) (id_of q) before) r s f
    (record { node = q; at = at_q; runs = kq.running; holds = record { ready = rq; late = omega (arith, qe); holds = held_there c p q f at_p at_q kq.running rq } })
    numbers

pub entries_flow_on : (chain : ℕ) (run : Run) (count : ℕ) (p q : Plain) → IsTypedRunOf chain run → AreNeighbours (chain_after_moves chain run) p q → p.ready ≡ true → q.ready ≡ true
    → HaveNumbers (chain_after_moves chain run) (round after_move (suc count) (chain_after_moves chain run))
    → HoldsEntries (after_round (suc count) (chain_after_moves chain run)) (id_of q) (length_of p)
entries_flow_on chain run count p q typed n rp rq numbers =
    let c : Chain = chain_after_moves chain run in
    let is : IsRunOf chain run = typed.run_of in
    let some : 1 ≤ id_of p = not_master c.nodes (id_of p) p n.earlier (none_is_master chain run is) in
    let member : is_member c.members (id_of p) ≡ true = is_member-same c.members (id_of p) ∙ next_left c.members (id_of p) (id_of q) (next_from_predecessor c.members (id_of q) (id_of p) n.before) in
    let i : NodeIs (after_round (suc count) c) (id_of q) (HoldsSo c.epoch (length_of p)) =
    entries_cross chain count c p q (reached_here chain run typed) (sound_after chain run.members run.moves) (every_run chain run is) (λ z. absurd (omega (arith, some, z))) n.earlier n.later n.earlier_knows n.later_knows rp rq member n.after n.before numbers in
    let h : HoldsSo c.epoch (length_of p) i.node = i.holds in
    record { node = i.node; at = i.at; holds = h.holds }
