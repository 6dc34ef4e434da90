-- The numbers used by the moves of a round: no more than the chain has room for.
use Rattle.std.proofs.Common.{◌≡◌, ◌≢◌, ⊎_elim, ℕ, zero, suc, ◌+◌, ◌*◌, ◌≤◌, ◌==◌, nat_le, Bool, true, false, not, ◌||◌, List, [], ◌∷◌, ◌++◌, append-nil, append_assoc, count_by, filter, map, length, take, drop, Option, Some, None, Result, Ok, Err, refl, ap, sym, subst, ◌∙◌, arith}
use Rattle.std.proofs.lemmas.Bool.{and_from, both_ways, cases_eq, cond-false, cond-true, cond_both, eqb-true, false_from_ne_true, le-leb, not_from_false}
use Rattle.std.proofs.lemmas.List.{length-append, take-append-drop}
use Rattle.std.proofs.lemmas.List.Sums.{length-filter}
use Rattle.std.specs.List.{AllByRecursion, list_all}
use Rattle.craq_names.specs.Limits.{greatest, greatest_count}
use Rattle.craq_names.specs.declared.name.NodeName.{NodeName}
use Rattle.craq_names.specs.declared.refusal.Refusal.{Refusal}
use Rattle.craq_names.specs.declared.refusal.Refusal.TheVariants as refusals
use Rattle.craq_commands.specs.declared.entry.Entry.{Entry}
use Rattle.craq_model.specs.declared.ask.Event.{Event}
use Rattle.craq_model.specs.declared.ask.Event.TheVariants as events
use Rattle.craq_model.specs.declared.message.LinkMessage.{LinkMessage}
use Rattle.craq_model.specs.declared.step.Out.{Out}
use Rattle.craq_model.specs.declared.step.Out.TheVariants as outs
use Rattle.craq_model.specs.declared.step.Step.{Step}
use Rattle.craq_model.specs.Deliveries.{delivery_transition}
use Rattle.craq_model.specs.Node.{event_transition, is_send, node_step, out_fits, outs_fit, within_counts}
use Rattle.craq_model.specs.Plain.{Plain, id_of}
use Rattle.craq_model.specs.Sends.{tick_sends}
use Rattle.craq_model.specs.Settle.{Transition, transition_with}
use Rattle.craq_protocol.specs.Machine.{MachineState}
use Rattle.craq_protocol.specs.Members.{is_member}
use Rattle.craq_protocol.proofs.Invariant.{Clauses, Invariant}
use Rattle.craq_protocol.proofs.Reached.{reached_inv}
use Rattle.craq_refinement.specs.Follows.{Follows, NodeFollows, seen_of}
use Rattle.craq_refinement.specs.Lines.{IsFollowed}
use Rattle.craq_refinement.proofs.EachStep.{every_run}
use Rattle.craq_laws.proofs.Nodes.{node_elsewhere, node_here, node_id}
use Rattle.craq_refinement.proofs.Stages.{moved}
use Rattle.craq_runs.specs.declared.run.Move.{Move}
use Rattle.craq_runs.specs.declared.run.Move.TheVariants.{Deliver, Tick}
use Rattle.craq_runs.specs.declared.run.Run.{Run}
use Rattle.craq_runs.specs.Chain.{Chain, Progress, arrival_progress, chain_step, config_progress, config_to, counted_progress, is_running, message_at, node_at, node_progress, numbers_left, sent_in, set_node, transition_progress}
use Rattle.craq_runs.specs.Runs.{IsRunOf, after_move, progressed}
use Rattle.craq_recovery.specs.Recovered.{chain_after_moves}
use Rattle.craq_recovery.specs.Room.{HasRoom, largest_state, longest_history, most_reads}
use Rattle.craq_recovery.specs.Rounds.{after_moves_by, arrivals, arrivals_of, hops, round, ticks_of}
use Rattle.craq_recovery.specs.Taken.{HaveNumbers, HaveNumbersFor}
use Rattle.craq_recovery.proofs.Bounds.{AllWithin, by_bool, transition_within, within_at_first}
use Rattle.craq_recovery.proofs.Costs.{Costs, Fits, Within, cost, cost_all, cost_both, length_cost, tick_cost, top}
use Rattle.craq_recovery.proofs.Gains.{Goes, goes_move}
use Rattle.craq_recovery.proofs.Arriving.{after_both}
use Rattle.craq_recovery.proofs.Ids.{NoneIsMaster, none_after, none_is_master, not_master}
use Rattle.craq_recovery.proofs.Onward.{Onward, onward_move, onward_moves, onward_on, onward_self}
use Rattle.craq_laws.proofs.Kept.{event_keeps_name}
use Rattle.craq_recovery.proofs.Sound.{Sound, own_chain, sound_after, sound_move}
use Rattle.craq_recovery.proofs.Spending.{Turned, delivery_turned, load}
use Rattle.craq_recovery.proofs.Taking.{bears, for_it, round_travels, runs_on, sent_before, stands_at}

-- ---- the cost of nodes that become ready

abbrev load_if : ℕ → Option Plain → ℕ
load_if s None = 0
load_if s (Some p) = load s p

abbrev loads : ℕ → List Plain → List ℕ → ℕ
loads s nodes [] = 0
loads s nodes (id ∷ ids) = load_if s (node_at nodes id) + loads s nodes ids

load_bound : (s : ℕ) (o : Option Plain) → load_if s o ≤ s + 1
load_bound s None = omega arith
load_bound s (Some p) = cond_both p.ready 0 s (λ n. n ≤ s + 1) (λ h. omega arith) (λ h. omega arith)

loads_bound : (s : ℕ) (nodes : List Plain) (ids : List ℕ) → loads s nodes ids ≤ length ids * (s + 1)
loads_bound s nodes [] = omega arith
loads_bound s nodes (id ∷ ids) = omega (arith, load_bound s (node_at nodes id), loads_bound s nodes ids)

module _ (s : ℕ) (nodes : List Plain) (p q : Plain) (at : node_at nodes (id_of q) ≡ Some p) (less : load s q ≤ load s p) where
  load_here : load_if s (node_at (set_node nodes q) (id_of q)) ≡ load s q
  load_here = ap (load_if s) (node_here nodes q p at)

  load_was : load_if s (node_at nodes (id_of q)) ≡ load s p
  load_was = ap (load_if s) at

  one_less : (id : ℕ) → load_if s (node_at (set_node nodes q) id) ≤ load_if s (node_at nodes id)
  one_less id =
      ⊎_elim
      (λ (e : id ≡ id_of q).
      let P : ℕ → Type 0 = λ k. load_if s (node_at (set_node nodes q) k) ≤ load_if s (node_at nodes k) in
      subst P (sym e) (omega (arith, load_here, load_was, less)))
      (λ ne. omega (arith, ap (load_if s) (node_elsewhere nodes q id ne)))
      (cases_eq id (id_of q))

  all_less : (ids : List ℕ) → loads s (set_node nodes q) ids ≤ loads s nodes ids
  all_less [] = omega arith
  all_less (id ∷ ids) = omega (arith, one_less id, all_less ids)

  -- a member becomes ready
  member_less : (ids : List ℕ) → is_member ids (id_of q) ≡ true → loads s (set_node nodes q) ids + load s p ≤ loads s nodes ids + load s q
  unfolding is_member
  member_less [] h = absurd (cc)
  member_less (id ∷ ids) h =
      by_bool (id == id_of q) (λ (b : Bool). (b || is_member ids (id_of q)) ≡ true → loads s (set_node nodes q) (id ∷ ids) + load s p ≤ loads s nodes (id ∷ ids) + load s q)
      (λ e k.
      let same : id ≡ id_of q = eqb-true id (id_of q) e in
      let now : load_if s (node_at (set_node nodes q) id) ≡ load s q = ap (λ j. load_if s (node_at (set_node nodes q) j)) same ∙ load_here in
      let was : load_if s (node_at nodes id) ≡ load s p = ap (λ j. load_if s (node_at nodes j)) same ∙ load_was in
      omega (arith, now, was, all_less ids))
      (λ e k. omega (arith, one_less id, member_less ids k))
      h

-- ---- the outputs of a step fit

sends_found : (os : List Out) → length (filter is_send os) ≡ length (sent_in os)
unfolding sent_in
sends_found [] = refl
sends_found (outs.Send to m ∷ os) = ap suc (sends_found os)
sends_found (outs.Answer ticket answer ∷ os) = sends_found os

sends_counted : (os : List Out) → count_by is_send os ≡ length (sent_in os)
sends_counted os = sym (length-filter is_send os) ∙ sends_found os

all_fit : (os : List Out) → AllByRecursion Fits os → list_all out_fits os ≡ true
all_fit [] a = refl
all_fit (o ∷ os) a = and_from (out_fits o) (list_all out_fits os) a.0 (all_fit os a.1)

outs_do_fit : (s : ℕ) (os : List Out) → s ≤ greatest_count → cost_all s (sent_in os) ≤ suc s → AllByRecursion Fits os → outs_fit os ≡ true
unfolding outs_fit
outs_do_fit s os small most fits =
    let few : count_by is_send os ≤ greatest_count + 1 = omega (arith, small, most, sends_counted os, length_cost s (sent_in os)) in
    and_from (nat_le (count_by is_send os) (greatest_count + 1)) (list_all out_fits os) (le-leb (count_by is_send os) (greatest_count + 1) few) (all_fit os fits)

-- ---- a move is taken

step_goes : (p : Plain) (ev : Event) (t : Transition) → p.running ≡ true → event_transition p ev ≡ Ok t → outs_fit t.1.outs ≡ true → node_step p ev ≡ Ok t
unfolding node_step
step_goes p ev t runs does fit =
    cond_both p.running (within_counts (event_transition p ev)) (Err refusals.Stopped) (λ (x : Result Transition Refusal). x ≡ Ok t)
    (λ h. ap within_counts does ∙ cond-true (outs_fit t.1.outs) (Ok t) (Err refusals.Exhausted) fit)
    (λ h. absurd (both_ways p.running h runs))

left : (d : Chain) (step : Step) → d.moves + 1 ≤ greatest → length d.messages + length (sent_in step.outs) ≤ greatest → numbers_left d step ≡ true
unfolding numbers_left
left d step moves messages =
    let other : (d.moves == greatest) ≡ false = false_from_ne_true (d.moves == greatest) (λ h. let same : d.moves ≡ greatest = eqb-true d.moves greatest h in omega (arith, same, moves)) in
    and_from (not (d.moves == greatest)) (nat_le (length d.messages + length (sent_in step.outs)) greatest)
    (not_from_false (d.moves == greatest) other) (le-leb (length d.messages + length (sent_in step.outs)) greatest messages)

transition_goes : (d : Chain) (id : ℕ) (p : Plain) (ev : Event) (t : Transition) → node_at d.nodes id ≡ Some p → p.running ≡ true → event_transition p ev ≡ Ok t → outs_fit t.1.outs ≡ true
    → d.moves + 1 ≤ greatest → length d.messages + length (sent_in t.1.outs) ≤ greatest → counted_progress d (node_progress d (node_at d.nodes id) ev) ≡ Ok (moved d t, t.1)
transition_goes d id p ev t at runs does fit moves messages =
    ap (λ o. counted_progress d (node_progress d o ev)) at
    ∙ (ap (λ (x : Result Transition Refusal). counted_progress d (transition_progress d x)) (step_goes p ev t runs does fit)
    ∙ cond-true (numbers_left d t.1) (Ok (moved d t, t.1)) (Err refusals.Exhausted) (left d t.1 moves messages))

open_at : (o : Option Plain) → is_running o ≡ true → (p : Plain) × (o ≡ Some p) × (p.running ≡ true)
open_at None runs = absurd (cc)
open_at (Some p) runs = (p, refl, runs)

not_exhausted : (r : Result Progress Refusal) (x : Progress) → r ≡ Ok x → r ≢ Err refusals.Exhausted
not_exhausted r x ok = λ (h : r ≡ Err refusals.Exhausted). absurd (cc)

configs_cost : (s : ℕ) (c : Chain) (tos : List ℕ) → cost_all s (sent_in (map (config_to c) tos)) ≤ length tos * (s + 1)
unfolding sent_in
configs_cost s c [] = omega arith
configs_cost s c (to ∷ tos) = omega (arith, configs_cost s c tos)

length_both : (xs ys whole : List LinkMessage) → xs ++ ys ≡ whole → length whole ≡ length xs + length ys
length_both xs ys whole is = sym (ap length is) ∙ length-append xs ys

after_one : (d : Chain) (m : Move) (x : Progress) → chain_step d m ≡ Ok x → after_move d m ≡ x.0
after_one d m x ok = ap (progressed d) ok

-- ---- the invariant of a chain in its rounds

module _ (e i r : ℕ) (small : top e i r ≤ greatest_count) where
  record Stands (d : Chain) : Type 0 where
    sound : Sound d
    followed : IsFollowed d
    none : NoneIsMaster d.nodes
    within : AllWithin e i r d

  abbrev unready : Chain → ℕ
  unready d = loads (top e i r) d.nodes d.members

  -- a move for which this amount pays
  record Pays (d : Chain) (x : Chain) (b : ℕ) : Type 0 where
    within : AllWithin e i r x
    sent : List LinkMessage
    is : d.messages ++ sent ≡ x.messages
    pays : cost_all (top e i r) sent + unready x ≤ b + unready d
    moves : x.moves ≡ d.moves + 1

  record Moves (d : Chain) (m : Move) (b : ℕ) : Type 0 where
    taken : chain_step d m ≢ Err refusals.Exhausted
    pays : Pays d (after_move d m) b

  moves_by : (d : Chain) (m : Move) (b : ℕ) (x : Progress) → chain_step d m ≡ Ok x → Pays d x.0 b → Moves d m b
  moves_by d m b x ok pays =
      let P : Chain → Type 0 = λ y. Pays d y b in
      record { taken = not_exhausted (chain_step d m) x ok; pays = subst P (sym (after_one d m x ok)) pays }

  stands_after : (d : Chain) (m : Move) → Stands d → AllWithin e i r (after_move d m) → Stands (after_move d m)
  stands_after d m s w =
      let g : Goes d (after_move d m) = goes_move d m s.followed in
      record { sound = sound_move d m s.sound; followed = g.followed; none = none_after d m s.none; within = w }

  set_within : (nodes : List Plain) (p q : Plain) → ((id : ℕ) (x : Plain) → node_at nodes id ≡ Some x → Within e i r x) → node_at nodes (id_of q) ≡ Some p → Within e i r q
      → (id : ℕ) (x : Plain) → node_at (set_node nodes q) id ≡ Some x → Within e i r x
  set_within nodes p q a at w id x there =
      ⊎_elim
      (λ (h : id ≡ id_of q).
      let N : ℕ → Type 0 = λ k. node_at (set_node nodes q) k ≡ Some x in
      let here : node_at (set_node nodes q) (id_of q) ≡ Some x = subst N h there in
      let set : node_at (set_node nodes q) (id_of q) ≡ Some q = node_here nodes q p at in
      let same : q ≡ x = cc in
      let W : Plain → Type 0 = λ y. Within e i r y in
      subst W same w)
      (λ ne. a id x (sym (node_elsewhere nodes q id ne) ∙ there))
      (cases_eq id (id_of q))

  is_a_member : (d : Chain) (p : Plain) → IsFollowed d → node_at d.nodes (id_of p) ≡ Some p → p.running ≡ true → is_member d.members (id_of p) ≡ true
  is_a_member d p f at runs =
      let w : MachineState Entry = f.0 in
      let g : Follows d w = f.2 in
      let inv : Invariant w = reached_inv f.1 in
      let k : Clauses w inv.ages = inv.clauses in
      let n : NodeFollows w (seen_of p) = g.nodes (id_of p) p at in
      let M : List ℕ → Type 0 = λ l. is_member l (id_of p) ≡ true in
      subst M g.members (k.running_is_member (id_of p) (n.running ∙ runs))

  -- a message arrives
  delivered : (d : Chain) (number : ℕ) (m : LinkMessage) → Stands d → message_at d.messages number ≡ Some m → is_running (node_at d.nodes m.receiver) ≡ true
      → length d.messages + (cost (top e i r) m.body + unready d) ≤ greatest → d.moves + 1 ≤ greatest → Moves d (Deliver number) (cost (top e i r) m.body)
  unfolding chain_step
  delivered d number m st there runs room moves =
      let o : (p : Plain) × (node_at d.nodes m.receiver ≡ Some p) × (p.running ≡ true) = open_at (node_at d.nodes m.receiver) runs in
      let p : Plain = o.0 in
      let t : Transition = delivery_transition p m in
      let own : id_of p ≡ m.receiver = node_id d.nodes m.receiver p o.1 in
      let N : ℕ → Type 0 = λ k. node_at d.nodes k ≡ Some p in
      let at : node_at d.nodes (id_of p) ≡ Some p = subst N (sym own) o.1 in
      let of : m.chain ≡ p.name.chain = bears d number m st.sound there ∙ sym (own_chain d.chain m.receiver d.nodes p st.sound.nodes o.1) in
      let does : event_transition p (events.Deliver m) ≡ Ok t = for_it p m of (sym own) in
      let named : t.0.name ≡ p.name = event_keeps_name p (events.Deliver m) t does in
      let k : Turned e i r small (cost (top e i r) m.body) p t = delivery_turned e i r small p m in
      let w : Within e i r t.0 = transition_within e i r small d st.followed number m p st.within at o.2 there (sym own) named in
      let at_now : node_at d.nodes (id_of t.0) ≡ Some p = subst N (ap (λ (n : NodeName). n.node) (sym named)) at in
      let M : ℕ → Type 0 = λ id. is_member d.members id ≡ true in
      let member : is_member d.members (id_of t.0) ≡ true = subst M (ap (λ (n : NodeName). n.node) (sym named)) (is_a_member d p st.followed at o.2) in
      let less : loads (top e i r) (set_node d.nodes t.0) d.members + load (top e i r) p ≤ loads (top e i r) d.nodes d.members + load (top e i r) t.0 =
      member_less (top e i r) d.nodes p t.0 at_now k.readies d.members member in
      let pays : cost_all (top e i r) (sent_in t.1.outs) + loads (top e i r) (set_node d.nodes t.0) d.members ≤ cost (top e i r) m.body + loads (top e i r) d.nodes d.members =
      omega (arith, less, k.spends w) in
      let fit : outs_fit t.1.outs ≡ true = outs_do_fit (top e i r) t.1.outs small (k.most w) (k.fits w) in
      let ok : chain_step d (Deliver number) ≡ Ok (moved d t, t.1) =
      ap (λ o. counted_progress d (arrival_progress d o)) there
      ∙ transition_goes d m.receiver p (events.Deliver m) t o.1 o.2 does fit moves (omega (arith, room, pays, length_cost (top e i r) (sent_in t.1.outs))) in
      moves_by d (Deliver number) (cost (top e i r) m.body) (moved d t, t.1) ok
      (record { within = set_within d.nodes p t.0 st.within at_now w; sent = sent_in t.1.outs; is = refl; pays = pays; moves = refl })

  -- a member ticks
  ticked : (d : Chain) (id : ℕ) → Stands d → is_running (node_at d.nodes id) ≡ true → length d.messages + (top e i r + 1) ≤ greatest → d.moves + 1 ≤ greatest → Moves d (Tick id) (top e i r + 1)
  unfolding chain_step
  ticked d id st runs room moves =
      let o : (p : Plain) × (node_at d.nodes id ≡ Some p) × (p.running ≡ true) = open_at (node_at d.nodes id) runs in
      let p : Plain = o.0 in
      let t : Transition = transition_with p (tick_sends p) in
      let own : id_of p ≡ id = node_id d.nodes id p o.1 in
      let N : ℕ → Type 0 = λ k. node_at d.nodes k ≡ Some p in
      let at : node_at d.nodes (id_of p) ≡ Some p = subst N (sym own) o.1 in
      let w : Within e i r p = st.within id p o.1 in
      let c : Costs (top e i r) (suc (top e i r)) (tick_sends p) = tick_cost e i r small p w in
      let some : 1 ≤ id = not_master d.nodes id p o.1 st.none in
      let other : (id == 0) ≡ false = false_from_ne_true (id == 0) (λ h. let same : id ≡ 0 = eqb-true id 0 h in omega (arith, same, some)) in
      let pays : cost_all (top e i r) (sent_in t.1.outs) + loads (top e i r) (set_node d.nodes p) d.members ≤ (top e i r + 1) + loads (top e i r) d.nodes d.members =
      omega (arith, c.costs, all_less (top e i r) d.nodes p p at (omega arith) d.members) in
      let fit : outs_fit t.1.outs ≡ true = outs_do_fit (top e i r) t.1.outs small c.costs c.fits in
      let ok : chain_step d (Tick id) ≡ Ok (moved d t, t.1) =
      ap (counted_progress d) (cond-false (id == 0) (Ok (config_progress d)) (node_progress d (node_at d.nodes id) events.Tick) other)
      ∙ transition_goes d id p events.Tick t o.1 o.2 refl fit moves (omega (arith, room, c.costs, length_cost (top e i r) (sent_in t.1.outs))) in
      moves_by d (Tick id) (top e i r + 1) (moved d t, t.1) ok
      (record { within = set_within d.nodes p p st.within at w; sent = sent_in t.1.outs; is = refl; pays = pays; moves = refl })

  -- the master ticks
  reported : (d : Chain) → Stands d → length d.messages + length d.members * (top e i r + 1) ≤ greatest → d.moves + 1 ≤ greatest → Moves d (Tick 0) (length d.members * (top e i r + 1))
  unfolding chain_step
  reported d st room moves =
      let x : Progress = config_progress d in
      let new : List LinkMessage = sent_in x.1.outs in
      let y : Chain = record d { messages = d.messages ++ new; moves = d.moves + 1 } in
      let c : cost_all (top e i r) new ≤ length d.members * (top e i r + 1) = configs_cost (top e i r) d d.members in
      let ok : chain_step d (Tick 0) ≡ Ok (y, x.1) =
      cond-true (numbers_left d x.1) (Ok (y, x.1)) (Err refusals.Exhausted) (left d x.1 moves (omega (arith, room, c, length_cost (top e i r) new))) in
      moves_by d (Tick 0) (length d.members * (top e i r + 1)) (y, x.1) ok
      (record { within = st.within; sent = new; is = refl; pays = omega (arith, c); moves = refl })

  -- ---- moves one after the other

  record Counted (d : Chain) (ms : List Move) (b k : ℕ) : Type 0 where
    numbers : HaveNumbers d ms
    stands : Stands (after_moves_by after_move d ms)
    sent : List LinkMessage
    is : d.messages ++ sent ≡ (after_moves_by after_move d ms).messages
    pays : cost_all (top e i r) sent + unready (after_moves_by after_move d ms) ≤ b + unready d
    moves : (after_moves_by after_move d ms).moves ≤ d.moves + k

  counted_none : (d : Chain) → Stands d → Counted d [] 0 0
  counted_none d st = record { numbers = tt; stands = st; sent = []; is = append-nil d.messages; pays = omega arith; moves = omega arith }

  counted_more : (d : Chain) (ms : List Move) (b k b2 k2 : ℕ) → b ≤ b2 → k ≤ k2 → Counted d ms b k → Counted d ms b2 k2
  counted_more d ms b k b2 k2 lb lk c = record { numbers = c.numbers; stands = c.stands; sent = c.sent; is = c.is; pays = omega (arith, lb, c.pays); moves = omega (arith, lk, c.moves) }

  counted_after : (d : Chain) (m : Move) (ms : List Move) (b b2 k : ℕ) → Moves d m b → Counted (after_move d m) ms b2 k → Counted d (m ∷ ms) (b + b2) (suc k)
  counted_after d m ms b b2 k v c =
      let p : Pays d (after_move d m) b = v.pays in
      record {
        numbers = (v.taken, c.numbers);
        stands = c.stands;
        sent = p.sent ++ c.sent;
        is = sym (append_assoc d.messages p.sent c.sent) ∙ (ap (λ l. l ++ c.sent) p.is ∙ c.is);
        pays = omega (arith, cost_both (top e i r) p.sent c.sent, p.pays, c.pays);
        moves = omega (arith, p.moves, c.moves);
      }

  -- the number of messages after a move, and the possible cost of the messages and nodes then
  room_after : (d : Chain) (m : Move) (b rest : ℕ) → Moves d m b → length d.messages + ((b + rest) + unready d) ≤ greatest → length (after_move d m).messages + (rest + unready (after_move d m)) ≤ greatest
  room_after d m b rest v room =
      let p : Pays d (after_move d m) b = v.pays in
      omega (arith, room, p.pays, length_both d.messages p.sent (after_move d m).messages p.is, length_cost (top e i r) p.sent)

  arrive_all : (c : Chain) (ms before : List LinkMessage) (number : ℕ) (d : Chain) → Stands d → Onward c d → before ++ ms ≡ c.messages → number ≡ suc (length before)
      → length d.messages + (cost_all (top e i r) ms + unready d) ≤ greatest → d.moves + length ms ≤ greatest → Counted d (arrivals_of c.nodes number ms) (cost_all (top e i r) ms) (length ms)
  arrive_all c [] before number d st on is at room moves = counted_none d st
  arrive_all c (m ∷ ms) before number d st on is at room moves =
      let s : ℕ = top e i r in
      let more : (before ++ m ∷ []) ++ ms ≡ c.messages = append_assoc before (m ∷ []) ms ∙ is in
      let up : number + 1 ≡ suc (length (before ++ m ∷ [])) = omega (arith, at, length-append before (m ∷ [])) in
      let rest : List Move = arrivals_of c.nodes (number + 1) ms in
      let next : Chain = after_move d (Deliver number) in
      cond_both (is_running (node_at c.nodes m.receiver)) (Deliver number ∷ rest) rest (λ l. Counted d l (cost s m.body + cost_all s ms) (suc (length ms)))
      (λ runs.
      let there : message_at d.messages number ≡ Some m = stands_at c d before m ms number on is at in
      let v : Moves d (Deliver number) (cost s m.body) = delivered d number m st there (runs_on on m.receiver runs) (omega (arith, room)) (omega (arith, moves)) in
      let p : Pays d next (cost s m.body) = v.pays in
      counted_after d (Deliver number) rest (cost s m.body) (cost_all s ms) (length ms) v
      (arrive_all c ms (before ++ m ∷ []) (number + 1) next (stands_after d (Deliver number) st p.within) (onward_on on (onward_move d (Deliver number) tt)) more up
      (room_after d (Deliver number) (cost s m.body) (cost_all s ms) v room) (omega (arith, moves, p.moves))))
      (λ stopped.
      counted_more d rest (cost_all s ms) (length ms) (cost s m.body + cost_all s ms) (suc (length ms)) (omega arith) (omega arith)
      (arrive_all c ms (before ++ m ∷ []) (number + 1) d st on more up (omega (arith, room)) (omega (arith, moves))))

  ticks_all : (c : Chain) (ids : List ℕ) (d : Chain) → Stands d → Onward c d → length d.messages + (length ids * (top e i r + 1) + unready d) ≤ greatest → d.moves + length ids ≤ greatest
      → Counted d (ticks_of c.nodes ids) (length ids * (top e i r + 1)) (length ids)
  ticks_all c [] d st on room moves = counted_more d [] 0 0 (0 * (top e i r + 1)) 0 (omega arith) (omega arith) (counted_none d st)
  ticks_all c (id ∷ ids) d st on room moves =
      let s : ℕ = top e i r in
      let k : ℕ = length ids * (s + 1) in
      let sum : (s + 1) + k ≡ suc (length ids) * (s + 1) = omega arith in
      let rest : List Move = ticks_of c.nodes ids in
      let next : Chain = after_move d (Tick id) in
      let B : ℕ → Type 0 = λ b. length d.messages + (b + unready d) ≤ greatest in
      let room2 : length d.messages + (((s + 1) + k) + unready d) ≤ greatest = subst B (sym sum) room in
      cond_both (is_running (node_at c.nodes id)) (Tick id ∷ rest) rest (λ l. Counted d l (suc (length ids) * (s + 1)) (suc (length ids)))
      (λ runs.
      let v : Moves d (Tick id) (s + 1) = ticked d id st (runs_on on id runs) (omega (arith, room2)) (omega (arith, moves)) in
      let p : Pays d next (s + 1) = v.pays in
      counted_more d (Tick id ∷ rest) ((s + 1) + k) (suc (length ids)) (suc (length ids) * (s + 1)) (suc (length ids)) (omega (arith, sum)) (omega arith)
      (counted_after d (Tick id) rest (s + 1) k (length ids) v
      (ticks_all c ids next (stands_after d (Tick id) st p.within) (onward_on on (onward_move d (Tick id) tt)) (room_after d (Tick id) (s + 1) k v room2) (omega (arith, moves, p.moves)))))
      (λ stopped.
      counted_more d rest k (length ids) (suc (length ids) * (s + 1)) (suc (length ids)) (omega (arith, sum)) (omega arith)
      (ticks_all c ids d st on (omega (arith, room2)) (omega (arith, moves))))

  -- ---- hops

  record Hopped (d : Chain) (ms : List Move) (n : ℕ) : Type 0 where
    numbers : HaveNumbers d ms
    stands : Stands (after_moves_by after_move d ms)
    messages : length (after_moves_by after_move d ms).messages ≤ length d.messages + n
    moves : (after_moves_by after_move d ms).moves ≤ d.moves + n

  numbers_join : (ms ns : List Move) (d : Chain) → HaveNumbers d ms → HaveNumbers (after_moves_by after_move d ms) ns → HaveNumbers d (ms ++ ns)
  numbers_join [] ns d a b = b
  numbers_join (m ∷ ms) ns d a b = (a.0, numbers_join ms ns (after_move d m) a.1 b)

  hopped_both : (d : Chain) (ms ns : List Move) (k n all : ℕ) → HaveNumbers d ms → length (after_moves_by after_move d ms).messages ≤ length d.messages + k → (after_moves_by after_move d ms).moves ≤ d.moves + k
      → k + n ≤ all → Hopped (after_moves_by after_move d ms) ns n → Hopped d (ms ++ ns) all
  hopped_both d ms ns k n all has messages moves sum h =
      let x : Chain = after_moves_by after_move d ms in
      let same : after_moves_by after_move d (ms ++ ns) ≡ after_moves_by after_move x ns = after_both ms ns d in
      let S : Chain → Type 0 = λ y. Stands y in
      let M : Chain → Type 0 = λ y. length y.messages ≤ length d.messages + all in
      let V : Chain → Type 0 = λ y. y.moves ≤ d.moves + all in
      record {
        numbers = numbers_join ms ns d has h.numbers;
        stands = subst S (sym same) h.stands;
        messages = subst M (sym same) (omega (arith, messages, sum, h.messages));
        moves = subst V (sym same) (omega (arith, moves, sum, h.moves));
      }

  back_of : (before new whole : List LinkMessage) → before ++ new ≡ whole → drop (length before) whole ≡ new
  back_of before new whole is =
      let D : List LinkMessage → Type 0 = λ l. drop (length before) l ≡ new in
      subst D is (dropped before new)
    where
      dropped : (before new : List LinkMessage) → drop (length before) (before ++ new) ≡ new
      dropped [] new = refl
      dropped (b ∷ before) new = dropped before new

  hops_all : (count sent : ℕ) (d : Chain) (before new : List LinkMessage) (f : ℕ) → Stands d → before ++ new ≡ d.messages → sent ≡ length before → cost_all (top e i r) new + unready d ≤ f
      → length d.messages + count * f ≤ greatest → d.moves + count * f ≤ greatest → Hopped d (hops after_move count sent d) (count * f)
  unfolding arrivals
  hops_all zero sent d before new f st is at bound room moves = record { numbers = tt; stands = st; messages = omega arith; moves = omega arith }
  hops_all (suc count) sent d before new f st is at bound room moves =
      let s : ℕ = top e i r in
      let sum : f + count * f ≡ suc count * f = omega arith in
      let ms : List Move = arrivals d sent in
      let late : List LinkMessage = drop sent d.messages in
      let same : late ≡ new = ap (λ n. drop n d.messages) at ∙ back_of before new d.messages is in
      let price : cost_all s late ≡ cost_all s new = ap (cost_all s) same in
      let fits : sent ≤ length d.messages = omega (arith, at, length_both before new d.messages is) in
      let few : length late ≤ f = omega (arith, length_cost s late, price, bound) in
      let x : Counted d ms (cost_all s late) (length late) =
      arrive_all d late (take sent d.messages) (sent + 1) d st (onward_self d) (take-append-drop sent d.messages) (sent_before d.messages sent fits) (omega (arith, room, sum, price, bound)) (omega (arith, moves, sum, few)) in
      let next : Chain = after_moves_by after_move d ms in
      let more : length next.messages ≤ length d.messages + f =
      omega (arith, length_both d.messages x.sent next.messages x.is, length_cost s x.sent, x.pays, price, bound) in
      let taken : next.moves ≤ d.moves + f = omega (arith, x.moves, few) in
      let rest : Hopped next (hops after_move count (length d.messages) next) (count * f) =
      hops_all count (length d.messages) next d.messages x.sent f x.stands x.is refl (omega (arith, x.pays, price, bound)) (omega (arith, room, sum, more)) (omega (arith, moves, sum, taken)) in
      hopped_both d ms (hops after_move count (length d.messages) next) f (count * f) (suc count * f) x.numbers more taken (omega (arith, sum)) rest

  -- ---- rounds

  round_all : (count : ℕ) (c : Chain) (f : ℕ) → Stands c → 3 * (length c.members * (top e i r + 1)) ≤ f → length c.messages + (count + 1) * (f + 1) ≤ greatest → c.moves + (count + 1) * (f + 1) ≤ greatest
      → Hopped c (round after_move count c) ((count + 1) * (f + 1))
  unfolding round
  round_all count c f st bound room moves =
      let s : ℕ = top e i r in
      let n : ℕ = length c.members in
      let k : ℕ = n * (s + 1) in
      let each : n ≤ k = omega arith in
      let sum : (count * f + f) + (count + 1) ≡ (count + 1) * (f + 1) = omega arith in
      let first : Chain = after_move c (Tick 0) in
      let ids : List Move = ticks_of c.nodes c.members in
      let idle : loads s c.nodes c.members ≤ k = loads_bound s c.nodes c.members in
      let v : Moves c (Tick 0) k = reported c st (omega (arith, room, sum, bound)) (omega (arith, moves, sum)) in
      let p : Pays c first k = v.pays in
      let on : Onward c first = onward_move c (Tick 0) tt in
      let x : Counted c (Tick 0 ∷ ids) (k + k) (suc n) =
      counted_after c (Tick 0) ids k k n v
      (ticks_all c c.members first (stands_after c (Tick 0) st p.within) on (room_after c (Tick 0) k k v (omega (arith, room, sum, bound, idle))) (omega (arith, moves, sum, bound, each, p.moves))) in
      let next : Chain = after_moves_by after_move c (Tick 0 ∷ ids) in
      let more : length next.messages ≤ length c.messages + (f + 1) =
      omega (arith, length_both c.messages x.sent next.messages x.is, length_cost s x.sent, x.pays, idle, bound) in
      let taken : next.moves ≤ c.moves + (f + 1) = omega (arith, x.moves, each, bound) in
      let rest : Hopped next (hops after_move count (length c.messages) next) (count * f) =
      hops_all count (length c.messages) next c.messages x.sent f x.stands x.is refl (omega (arith, x.pays, idle, bound)) (omega (arith, room, sum, more)) (omega (arith, moves, sum, taken)) in
      hopped_both c (Tick 0 ∷ ids) (hops after_move count (length c.messages) next) (f + 1) (count * f) ((count + 1) * (f + 1)) x.numbers more taken (omega (arith, sum)) rest

  rounds_all : (count rounds f : ℕ) (c : Chain) → Stands c → 3 * (length c.members * (top e i r + 1)) ≤ f → length c.messages + rounds * ((count + 1) * (f + 1)) ≤ greatest → c.moves + rounds * ((count + 1) * (f + 1)) ≤ greatest
      → HaveNumbersFor count rounds c
  rounds_all count zero f c st bound room moves = tt
  rounds_all count (suc rounds) f c st bound room moves =
      let each : ℕ = (count + 1) * (f + 1) in
      let sum : each + rounds * each ≡ suc rounds * each = omega arith in
      let h : Hopped c (round after_move count c) each = round_all count c f st bound (omega (arith, room, sum)) (omega (arith, moves, sum)) in
      let next : Chain = after_moves_by after_move c (round after_move count c) in
      let on : Onward c next = onward_moves (round after_move count c) c (round_travels count c) in
      let B : List ℕ → Type 0 = λ l. 3 * (length l * (top e i r + 1)) ≤ f in
      (h.numbers, rounds_all count rounds f next h.stands (subst B (sym on.members) bound) (omega (arith, room, sum, h.messages)) (omega (arith, moves, sum, h.moves)))

-- a chain with room has numbers for its rounds
pub have_numbers : (chain : ℕ) (run : Run) (count rounds : ℕ) → IsRunOf chain run → HasRoom count rounds (chain_after_moves chain run) → HaveNumbersFor count rounds (chain_after_moves chain run)
have_numbers chain run count rounds is room =
    let c : Chain = chain_after_moves chain run in
    let e : ℕ = longest_history c in
    let i : ℕ = largest_state c in
    let r : ℕ = most_reads c in
    rounds_all e i r room.step count rounds (3 * (length c.members * (top e i r + 1))) c
    (record { sound = sound_after chain run.members run.moves; followed = every_run chain run is; none = none_is_master chain run is; within = within_at_first c })
    (omega arith) room.messages room.moves
