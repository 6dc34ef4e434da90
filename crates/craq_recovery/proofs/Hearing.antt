-- The membership reaches each member that runs.
use Rattle.std.proofs.Common.{◌≡◌, inl, inr, ℕ, suc, ◌+◌, ◌≤◌, ◌==◌, nat_le, Bool, true, false, not, cond, ◌||◌, List, [], ◌∷◌, ◌++◌, map, length, drop, append_assoc, Some, None, Result, Ok, Err, refl, ap, sym, subst, ◌∙◌, arith}
use Rattle.std.proofs.lemmas.Bool.{cond_both, both_ways, eq-eqb, eqb-true, leb-true, not-true}
use Rattle.std.proofs.Math.Seq.{drop-append_seam}
use Rattle.std.specs.List.{AllByRecursion}
use Rattle.craq_names.specs.declared.name.NodeName.{NodeName}
use Rattle.craq_names.specs.declared.refusal.Refusal.{Refusal}
use Rattle.craq_names.specs.declared.refusal.Refusal.TheVariants as refusals
use Rattle.craq_commands.specs.declared.entry.Entry.{Entry}
use Rattle.craq_model.specs.declared.message.Body.TheVariants as bodies
use Rattle.craq_model.specs.declared.message.LinkMessage.{LinkMessage}
use Rattle.craq_model.specs.declared.step.Why.TheVariants.{OtherEpoch, NotNeighbour}
use Rattle.craq_model.specs.Deliveries.{body_transition, config_transition, delivery_transition}
use Rattle.craq_model.specs.Members.{is_member}
use Rattle.craq_model.specs.Plain.{Plain, id_of}
use Rattle.craq_model.specs.Settle.{Transition, settling_transition, transition_ignoring}
use Rattle.craq_protocol.specs.Machine.{MachineState}
use Rattle.craq_protocol.specs.Members.{membership_of}
use Rattle.craq_protocol.specs.Promises.{IsSafe}
use Rattle.craq_protocol.proofs.Reached.{reached_safe}
use Rattle.craq_refinement.specs.Follows.{Follows, NodeFollows, seen_of}
use Rattle.craq_refinement.specs.Lines.{IsFollowed}
use Rattle.craq_refinement.proofs.EachStep.{every_run}
use Rattle.craq_laws.proofs.Nodes.{node_here, node_id}
use Rattle.craq_refinement.proofs.Stages.{Arrived, arrived}
use Rattle.craq_runs.specs.declared.run.Move.{Move}
use Rattle.craq_runs.specs.declared.run.Move.TheVariants.{Deliver, Tick}
use Rattle.craq_runs.specs.declared.run.Run.{Run}
use Rattle.craq_runs.specs.Chain.{Chain, Progress, chain_step, config_progress, config_to, is_running, message_at, node_at, numbers_left, opening_chain, sent_in, set_node}
use Rattle.craq_runs.specs.Runs.{IsRunOf, after_move, after_moves, progressed}
use Rattle.craq_recovery.specs.Rounds.{after_moves_by, round, ticks, ticks_of}
use Rattle.craq_recovery.specs.Recovered.{AllRun, HaveHeard, HearsAt, Knows, after_round}
use Rattle.craq_recovery.specs.Taken.{HaveNumbers}
use Rattle.craq_recovery.proofs.Gains.{Gains, Later, followed_moves, later_here, later_moves}
use Rattle.std.specs.Prelude.{⊤}
use Rattle.craq_recovery.proofs.Series.{Has}
use Rattle.craq_recovery.proofs.Arriving.{BringAll, Endures, bring_lasts, bring_more, bring_past, news, round_brings, taken_ok, ticked, ticks_onward}
use Rattle.craq_recovery.proofs.Onward.{Onward, onward_move, onward_moves}
use Rattle.craq_recovery.proofs.Running.{delivery_transition-runs}
use Rattle.craq_recovery.proofs.Sound.{Sound, sound_after}
use Rattle.craq_recovery.proofs.Lines.{by_test}
use Rattle.craq_recovery.proofs.Taking.{master_taken, round_travels, runs_on, ticks_travel}

ok_same : {A B : Type 0} (x y : A) (r : Result A B) → r ≡ Ok x → r ≡ Ok y → x ≡ y
ok_same x y r d e = cc

-- ---- a membership arrives

settled_epoch : (p : Plain) → (settling_transition p).0.epoch ≡ p.epoch
unfolding settling_transition
settled_epoch p = grind (arith)

settled_name : (p : Plain) → (settling_transition p).0.name ≡ p.name
unfolding settling_transition
settled_name p = grind (arith)

config_name : (p : Plain) (e : ℕ) (ms : List ℕ) → (config_transition p e ms).0.name ≡ p.name
unfolding config_transition
config_name p e ms = grind (arith, settled_name (record p { epoch = e; members = ms; floor = None; gathering = None }))

config_epoch : (p : Plain) (e : ℕ) (ms : List ℕ) → is_member ms (id_of p) ≡ true → e ≤ (config_transition p e ms).0.epoch
unfolding config_transition
config_epoch p e ms member =
    let q : Plain = record p { epoch = e; members = ms; floor = None; gathering = None } in
    let t : Transition = cond (not (is_member ms (id_of p))) (transition_ignoring p NotNeighbour) (settling_transition q) in
    cond_both (nat_le e p.epoch) (transition_ignoring p OtherEpoch) t (λ (t : Transition). e ≤ t.0.epoch)
    (λ old. leb-true e p.epoch old)
    (λ new. cond_both (not (is_member ms (id_of p))) (transition_ignoring p NotNeighbour) (settling_transition q) (λ (t : Transition). e ≤ t.0.epoch)
    (λ out. absurd (both_ways (is_member ms (id_of p)) (not-true (is_member ms (id_of p)) out) member))
    (λ _. omega (arith, settled_epoch q)))

-- the message brings this membership to the node of this id
pub record IsConfigTo (epoch : ℕ) (members : List ℕ) (id : ℕ) (m : LinkMessage) : Type 0 where
  pub says : m.body ≡ bodies.Config members
  pub made : m.epoch ≡ epoch
  pub goes_to : m.receiver ≡ id

-- the node of an id runs, and knows at least this epoch
pub record Informed (d : Chain) (id epoch : ℕ) : Type 0 where
  pub node : Plain
  pub at : node_at d.nodes id ≡ Some node
  pub runs : node.running ≡ true
  pub late : epoch ≤ node.epoch

config_informs : (d : Chain) (number : ℕ) (m : LinkMessage) (x : Progress) (epoch : ℕ) (members : List ℕ) (id : ℕ) → message_at d.messages number ≡ Some m → chain_step d (Deliver number) ≡ Ok x
    → IsConfigTo epoch members id m → is_member members id ≡ true → Informed x.0 id epoch
config_informs d number m x epoch members id at k is member =
    let a : Arrived d m x = arrived d number m x at k in
    let p : Plain = a.node in
    let own : id_of p ≡ id = sym a.own ∙ is.goes_to in
    let t : Transition = delivery_transition p m in
    let by : t ≡ config_transition p m.epoch members = ap (body_transition p m) is.says in
    let named : t.0.name ≡ p.name = ap (λ (t : Transition). t.0.name) by ∙ config_name p m.epoch members in
    let same : id_of t.0 ≡ id_of p = ap (λ (n : NodeName). n.node) named in
    let M : ℕ → Type 0 = λ i. is_member members i ≡ true in
    let late : m.epoch ≤ (config_transition p m.epoch members).0.epoch = config_epoch p m.epoch members (subst M (sym own) member) in
    let N : ℕ → Type 0 = λ i. node_at d.nodes i ≡ Some p in
    let R : ℕ → Type 0 = λ i. node_at (set_node d.nodes t.0) i ≡ Some t.0 in
    let here : node_at (set_node d.nodes t.0) id ≡ Some t.0 = subst R (same ∙ own) (node_here d.nodes t.0 p (subst N (sym same) a.at)) in
    let Q : Progress → Type 0 = λ y. Informed y.0 id epoch in
    subst Q (sym a.is) (record {
      node = t.0;
      at = here;
      runs = delivery_transition-runs p m ∙ a.running;
      late = omega (arith, late, is.made, ap (λ (t : Transition). t.0.epoch) by);
    })

-- an informed node stays informed
informed_lasts : (id epoch : ℕ) → Endures (λ d. Informed d id epoch)
informed_lasts id epoch m d t f i =
    let l : Later (after_move d m) id i.node = later_moves (m ∷ []) d id i.node (t, tt) f (later_here d id i.node i.at i.runs) in
    let g : Gains i.node l.node = l.gains in
    record { node = l.node; at = l.at; runs = l.runs; late = omega (arith, i.late, g.epoch) }

-- ---- messages arrive, one of which brings the membership

abbrev IsUp : ℕ → Chain → Type 0
IsUp id d = is_running (node_at d.nodes id) ≡ true

up_lasts : (id : ℕ) → Endures (IsUp id)
up_lasts id m d t f up = runs_on (onward_move d m t) id up

hears : (c : Chain) (epoch : ℕ) (members : List ℕ) (id : ℕ) → is_member members id ≡ true → (ms : List LinkMessage) → Has (IsConfigTo epoch members id) ms → BringAll (λ d. ⊤) c (IsUp id) (λ d. Informed d id epoch) ms
hears c epoch members id member [] has = absurd has
hears c epoch members id member (m ∷ ms) (inl now) =
    bring_more (λ d. ⊤) (λ d m t u. tt) c m ms (IsUp id) (λ d. Informed d id epoch) (λ d. Informed d id epoch)
    (λ d number x s0 s f on up there is. config_informs d number m x epoch members id there is now member)
    (λ d up stopped. let P : ℕ → Type 0 = λ i. is_running (node_at d.nodes i) ≡ true in absurd (both_ways (is_running (node_at d.nodes m.receiver)) stopped (subst P (sym now.goes_to) up)))
    (bring_lasts (λ d. ⊤) (λ d m t u. tt) c (λ d. Informed d id epoch) ms (informed_lasts id epoch))
hears c epoch members id member (m ∷ ms) (inr later) = bring_past (λ d. ⊤) (λ d m t u. tt) c m ms (IsUp id) (λ d. Informed d id epoch) (up_lasts id) (hears c epoch members id member ms later)

-- ---- the master sends it

has_one : (c : Chain) (to : ℕ) (tos : List ℕ) (rest : List LinkMessage) (id : ℕ) (b : Bool) → (to == id) ≡ b → (b || is_member tos id) ≡ true
    → (is_member tos id ≡ true → Has (IsConfigTo c.epoch c.members id) (sent_in (map (config_to c) tos) ++ rest))
    → Has (IsConfigTo c.epoch c.members id) (sent_in (map (config_to c) (to ∷ tos)) ++ rest)
unfolding sent_in
has_one c to tos rest id true e h go = inl (record { says = refl; made = refl; goes_to = eqb-true to id e })
has_one c to tos rest id false e h go = inr (go h)

has_config : (c : Chain) (tos : List ℕ) (rest : List LinkMessage) (id : ℕ) → is_member tos id ≡ true → Has (IsConfigTo c.epoch c.members id) (sent_in (map (config_to c) tos) ++ rest)
unfolding is_member
has_config c [] rest id h = absurd (cc)
has_config c (to ∷ tos) rest id h = has_one c to tos rest id (to == id) refl h (λ i. has_config c tos rest id i)

reported : (c : Chain) (x : Progress) → chain_step c (Tick 0) ≡ Ok x → x.0.messages ≡ c.messages ++ sent_in (map (config_to c) c.members)
unfolding chain_step
reported c x =
    let y : Progress = config_progress c in
    let z : Progress = (record y.0 { messages = c.messages ++ sent_in y.1.outs; moves = c.moves + 1 }, y.1) in
    by_test (numbers_left c y.1) (λ (r : Result Progress Refusal). r ≡ Ok x → x.0.messages ≡ c.messages ++ sent_in (map (config_to c) c.members)) (Ok z) (Err refusals.Exhausted)
    (λ e. ap (λ (p : Progress). p.0.messages) (ok_same x z (Ok x) refl (sym e)))
    (λ e. absurd (cc))

-- ---- a round

informed_by_round : (count : ℕ) (c : Chain) (id : ℕ) → Sound c → IsFollowed c → is_running (node_at c.nodes id) ≡ true → is_member c.members id ≡ true → HaveNumbers c (round after_move (suc count) c)
    → Informed (after_round (suc count) c) id c.epoch
informed_by_round count c id s f runs member numbers =
    round_brings (λ d. ⊤) (λ d m t u. tt) (λ d. Informed d id c.epoch) (informed_lasts id c.epoch) count c (IsUp id) tt s f numbers (runs_on (ticks_onward c) id runs)
    (λ n. hears (ticked c) c.epoch c.members id member (news c (ticked c)) (config_sent n))
  where
    config_sent : HaveNumbers c (ticks c) → Has (IsConfigTo c.epoch c.members id) (news c (ticked c))
    config_sent n =
        let ok : (x : Progress) × (chain_step c (Tick 0) ≡ Ok x) = taken_ok (chain_step c (Tick 0)) (master_taken c) n.0 in
        let t : Chain = after_move c (Tick 0) in
        let on : Onward t (ticked c) = onward_moves (ticks_of c.nodes c.members) t (ticks_travel c.nodes c.members) in
        let configs : List LinkMessage = sent_in (map (config_to c) c.members) in
        let T : Result Progress Refusal → Type 0 = λ r. (progressed c r).messages ≡ c.messages ++ configs in
        let reported_here : t.messages ≡ c.messages ++ configs = subst T (sym ok.1) (reported c ok.0 ok.1) in
        let all : c.messages ++ (configs ++ on.sent) ≡ (ticked c).messages = sym (append_assoc c.messages configs on.sent) ∙ (ap (λ l. l ++ on.sent) (sym reported_here) ∙ on.messages) in
        let new : news c (ticked c) ≡ configs ++ on.sent = sym (ap (drop (length c.messages)) all) ∙ drop-append_seam c.messages (configs ++ on.sent) in
        let H : List LinkMessage → Type 0 = λ l. Has (IsConfigTo c.epoch c.members id) l in
        subst H (sym new) (has_config c c.members on.sent id member)

-- a node that knows at least the master's epoch knows its membership
pub knows_at : (c d : Chain) (id : ℕ) → Onward c d → IsFollowed d → (i : Informed d id c.epoch) → Knows d i.node
knows_at c d id on f i =
    let w : MachineState Entry = f.0 in
    let g : Follows d w = f.2 in
    let p : Plain = i.node in
    let P : ℕ → Type 0 = λ k. node_at d.nodes k ≡ Some p in
    let n : NodeFollows w (seen_of p) = g.nodes (id_of p) p (subst P (sym (node_id d.nodes id p i.at)) i.at) in
    let s : IsSafe w = reached_safe f.1 in
    let most : w.epoch (id_of p) ≤ length w.memberships = s.epoch (id_of p) in
    let same : w.epoch (id_of p) ≡ length w.memberships = omega (arith, most, i.late, n.epoch, g.epoch, on.epoch) in
    record {
      running = i.runs;
      epoch = omega (arith, same, n.epoch, g.epoch);
      members = sym n.members ∙ (ap (membership_of w.memberships) same ∙ g.members);
    }

hears_at : (c d : Chain) (id : ℕ) → Onward c d → IsFollowed d → Informed d id c.epoch → HearsAt d id
hears_at c d id on f i = (i.node, i.at, knows_at c d id on f i)

self_is : (id : ℕ) → (id == id) ≡ true
self_is id = eq-eqb id id refl

also : (a b : Bool) → b ≡ true → (a || b) ≡ true
also true b h = refl
also false b h = h

first_is : (a b : Bool) → a ≡ true → (a || b) ≡ true
first_is true b h = refl
first_is false b h = absurd (cc)

each_hears : (c d : Chain) (ids : List ℕ) → Onward c d → IsFollowed d → ((id : ℕ) → is_member ids id ≡ true → is_running (node_at c.nodes id) ≡ true → Informed d id c.epoch)
    → AllByRecursion (λ id. is_running (node_at c.nodes id) ≡ true) ids → AllByRecursion (HearsAt d) ids
unfolding is_member
each_hears c d [] on f go runs = tt
each_hears c d (id ∷ ids) on f go runs =
    (hears_at c d id on f (go id (first_is (id == id) (is_member ids id) (self_is id)) runs.0), each_hears c d ids on f (λ i m r. go i (also (id == i) (is_member ids i) m) r) runs.1)

pub heard : (chain : ℕ) (run : Run) (count : ℕ) → IsRunOf chain run → AllRun (after_moves (opening_chain chain run.members) run.moves)
    → HaveNumbers (after_moves (opening_chain chain run.members) run.moves) (round after_move (suc count) (after_moves (opening_chain chain run.members) run.moves))
    → HaveHeard (after_moves_by after_move (after_moves (opening_chain chain run.members) run.moves) (round after_move (suc count) (after_moves (opening_chain chain run.members) run.moves)))
unfolding round
heard chain run count is runs numbers =
    let c : Chain = after_moves (opening_chain chain run.members) run.moves in
    let ms : List Move = round after_move (suc count) c in
    let d : Chain = after_moves_by after_move c ms in
    let s : Sound c = sound_after chain run.members run.moves in
    let f : IsFollowed c = every_run chain run is in
    let on : Onward c d = onward_moves ms c (round_travels (suc count) c) in
    let Q : List ℕ → Type 0 = λ l. AllByRecursion (HearsAt d) l in
    subst Q (sym on.members)
    (each_hears c d c.members on (followed_moves ms c f) (λ id m r. informed_by_round count c id s f r m numbers) runs)
