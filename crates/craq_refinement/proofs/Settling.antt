-- A node settles in a membership, or becomes ready.
use Rattle.std.proofs.Common.{◌≡◌, ℕ, ◌≤◌, nat_le, true, false, not, ◌&&◌, List, [], ◌∷◌, ◌++◌, Option, Some, None, refl, ap, ◌∙◌, arith}
use Rattle.std.proofs.lemmas.Bool.{cond_both, and_parts, not-true, leb-true}
use Rattle.craq_commands.specs.declared.entry.Entry.{Entry}
use Rattle.craq_model.specs.declared.step.Out.{Out}
use Rattle.craq_model.specs.Parts.{gathered_position}
use Rattle.craq_model.specs.Plain.{Plain, id_of, is_tail, length_of, acknowledging}
use Rattle.craq_model.specs.Sends.{tick_sends}
use Rattle.craq_model.specs.Settle.{all_given, answer_outs, all_committed, settling_transition, is_reached, without_reached, readiness_transition, transition_with}
use Rattle.craq_protocol.specs.Members.{is_member, with_value}
use Rattle.craq_protocol.specs.Machine.{MachineState, MachineMove, Become_ready, after_commit, after_move, after_moves}
use Rattle.craq_protocol.proofs.Lists.{put_same, put_other}
use Rattle.craq_protocol.proofs.Effects.{ready_does}
use Rattle.craq_protocol.proofs.Reached.{after_moves-append}
use Rattle.craq_runs.specs.Chain.{Chain, node_at}
use Rattle.craq_refinement.specs.Follows.{seen_of, NodeFollows, Follows}
use Rattle.craq_refinement.proofs.Worlds.{OnlyAt, only_trans, only_commit, is_tail-seen, tail_follows, other_follows, history_length}
use Rattle.craq_refinement.proofs.Stages.{TransitionFollows, Stage, stage_transition}
use Rattle.craq_refinement.proofs.Ticks.{none_sendable, sendable_both, sendable_answers, tick_sendable}

-- a node made its own moves, and the last of them may commit: v is before that
pub record Uncommitted (c : Chain) (w : MachineState Entry) (own : List (MachineMove Entry)) (v : MachineState Entry) (q : Plain) : Type 0 where
  pub was : Plain
  pub at : node_at c.nodes (id_of q) ≡ Some was
  pub is : after_moves w own ≡ after_commit v (id_of q)
  pub only : OnlyAt (id_of q) w v
  pub node : NodeFollows v (seen_of q)
  pub running : q.running ≡ true
  pub member : q.ready ≡ true → is_member q.members (id_of q) ≡ true

-- a tail committed
pub committed_stage : {c : Chain} {w : MachineState Entry} {own : List (MachineMove Entry)} {v : MachineState Entry} {q : Plain} → Uncommitted c w own v q → is_tail q ≡ true
    → Stage c w own (after_commit v (id_of q)) (acknowledging q (length_of q))
committed_stage {c} {w} {own} {v} {q} u e = record {
  was = u.was;
  at = u.at;
  is = u.is;
  only = only_trans u.only (only_commit v (id_of q));
  node = tail_follows v (seen_of q) u.node (is_tail-seen v (seen_of q) u.node u.running u.member ∙ e);
  running = u.running;
}

-- another node did not
pub other_stage : {c : Chain} {w : MachineState Entry} {own : List (MachineMove Entry)} {v : MachineState Entry} {q : Plain} → Uncommitted c w own v q → is_tail q ≡ false
    → Stage c w own (after_commit v (id_of q)) q
other_stage {c} {w} {own} {v} {q} u e = record {
  was = u.was;
  at = u.at;
  is = u.is;
  only = only_trans u.only (only_commit v (id_of q));
  node = other_follows v (seen_of q) u.node (is_tail-seen v (seen_of q) u.node u.running u.member ∙ e);
  running = u.running;
}

-- fields that the protocol does not see
reseen : {c : Chain} {w : MachineState Entry} {own : List (MachineMove Entry)} {v : MachineState Entry} (q : Plain) → Stage c w own v (acknowledging q (length_of q)) → Stage c w own v (all_committed q)
reseen q s = record { was = s.was; at = s.at; is = s.is; only = s.only; node = s.node; running = s.running }

pub settling_follows : {Own : List (MachineMove Entry) → Type 0} {c : Chain} {w : MachineState Entry} {own : List (MachineMove Entry)} {v : MachineState Entry} {q : Plain}
    → Follows c w → Uncommitted c w own v q → Own own → TransitionFollows Own c w (settling_transition q)
unfolding settling_transition
settling_follows {Own} {c} {w} {own} {v} {q} f u line =
    let all : List Out = answer_outs (all_given q) ++ tick_sends (all_committed q) in
    cond_both (is_tail q) (transition_with (all_committed q) all) (transition_with q (tick_sends q)) (λ t. TransitionFollows Own c w t)
    (λ e.
    let s : Stage c w own (after_commit v (id_of q)) (all_committed q) = reseen q (committed_stage u e) in
    stage_transition f s line (record { ticket = None; outs = all; ignored = None })
    (sendable_both (after_commit v (id_of q)) (id_of q) (answer_outs (all_given q)) (tick_sends (all_committed q)) (sendable_answers (after_commit v (id_of q)) (id_of q) (all_given q)) (tick_sendable (all_committed q) s.node)))
    (λ e.
    let s : Stage c w own (after_commit v (id_of q)) q = other_stage u e in
    stage_transition f s line (record { ticket = None; outs = tick_sends q; ignored = None }) (tick_sendable q s.node))

-- an unready node that reached its floor
floor_is : (o : Option ℕ) (count : ℕ) → is_reached o count ≡ true → (k : ℕ) × (o ≡ Some k) × (k ≤ count)
floor_is None count h = absurd (cc)
floor_is (Some k) count h = (k, refl, leb-true k count h)

becomes_ready : {c : Chain} {w : MachineState Entry} {own : List (MachineMove Entry)} {v : MachineState Entry} {q : Plain} → Stage c w own v q → q.ready ≡ false → is_reached q.floor (length_of q) ≡ true
    → is_member q.members (id_of q) ≡ true
    → Uncommitted c w (own ++ Become_ready (id_of q) ∷ []) (record v { ready = with_value v.ready (id_of q) true }) (record q { ready = true; gathering = None })
becomes_ready {c} {w} {own} {v} {q} s r h m =
    let id : ℕ = id_of q in
    let f : (k : ℕ) × (q.floor ≡ Some k) × (k ≤ length_of q) = floor_is q.floor (length_of q) h in
    let does : after_move v (Become_ready id) ≡ after_commit (record v { ready = with_value v.ready id true }) id =
    ready_does v id f.0 (s.node.floor ∙ f.1) (s.node.running ∙ s.running) (s.node.ready ∙ r) (omega (arith, f.2, history_length s.node.history))
    in
    record {
      was = s.was;
      at = s.at;
      is = after_moves-append own (Become_ready id ∷ []) w ∙ (ap (λ (x : MachineState Entry). after_move x (Become_ready id)) s.is ∙ does);
      only = only_trans s.only (record {
        memberships = refl;
        joined = refl;
        messages = refl;
        running = λ n ne. refl;
        epoch = λ n ne. refl;
        ready = λ n ne. put_other v.ready id true n ne;
        history = λ n ne. refl;
        acknowledged = λ n ne. refl;
        floor = λ n ne. refl;
      });
      node = record {
        running = s.node.running;
        epoch = s.node.epoch;
        members = s.node.members;
        ready = put_same v.ready id true;
        history = s.node.history;
        placed = s.node.placed;
        acknowledged = s.node.acknowledged;
        based = s.node.based;
        floor = s.node.floor;
        gathering = tt;
      };
      running = s.running;
      member = λ t. m;
    }

-- a gathering that the node no longer needs is dropped
kept_gathering : {c : Chain} {w : MachineState Entry} {own : List (MachineMove Entry)} {v : MachineState Entry} (q : Plain) → Stage c w own v q → Stage c w own v (without_reached q)
unfolding without_reached
kept_gathering {c} {w} {own} {v} q s =
    cond_both (nat_le (gathered_position q.gathering) (length_of q)) (record q { gathering = None }) q (λ (x : Plain). Stage c w own v x)
    (λ e. record {
      was = s.was;
      at = s.at;
      is = s.is;
      only = s.only;
      node = record {
        running = s.node.running;
        epoch = s.node.epoch;
        members = s.node.members;
        ready = s.node.ready;
        history = s.node.history;
        placed = s.node.placed;
        acknowledged = s.node.acknowledged;
        based = s.node.based;
        floor = s.node.floor;
        gathering = tt;
      };
      running = s.running;
    })
    (λ e. s)

pub readiness_follows : {Own : List (MachineMove Entry) → Type 0} {c : Chain} {w : MachineState Entry} {own : List (MachineMove Entry)} {v : MachineState Entry} {q : Plain}
    → Follows c w → Stage c w own v q → Own own → Own (own ++ Become_ready (id_of q) ∷ []) → is_member q.members (id_of q) ≡ true → TransitionFollows Own c w (readiness_transition q)
unfolding readiness_transition
readiness_follows {Own} {c} {w} {own} {v} {q} f s line ready m =
    cond_both (not q.ready && is_reached q.floor (length_of q)) (settling_transition (record q { ready = true; gathering = None })) (transition_with (without_reached q) []) (λ t. TransitionFollows Own c w t)
    (λ e.
    let a : (not q.ready ≡ true) × (is_reached q.floor (length_of q) ≡ true) = and_parts (not q.ready) (is_reached q.floor (length_of q)) e in
    settling_follows f (becomes_ready s (not-true q.ready a.0) a.1 m) ready)
    (λ e. stage_transition f (kept_gathering q s) line (record { ticket = None; outs = []; ignored = None }) (none_sendable v (id_of (without_reached q))))
