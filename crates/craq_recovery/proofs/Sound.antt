-- The nodes and messages of a chain have its id at all times.
use Rattle.std.proofs.Common.{◌≡◌, ℕ, ◌+◌, ◌==◌, nat_le, Bool, not, cond, ◌||◌, List, [], ◌∷◌, ◌++◌, map, length, is_some, Option, Some, None, Result, Ok, Err, refl, ap, sym, subst}
use Rattle.std.specs.Prelude.{⊤}
use Rattle.craq_names.specs.Limits.{greatest, member_limit}
use Rattle.craq_names.specs.declared.name.NodeName.{NodeName}
use Rattle.craq_names.specs.declared.refusal.Refusal.{Refusal}
use Rattle.craq_names.specs.declared.refusal.Refusal.TheVariants as refusals
use Rattle.craq_names.proofs.Lists.{all_append}
use Rattle.craq_model.specs.declared.ask.Event.{Event}
use Rattle.craq_model.specs.declared.ask.Event.TheVariants as events
use Rattle.craq_model.specs.declared.message.LinkMessage.{LinkMessage}
use Rattle.craq_model.specs.Members.{is_member, without}
use Rattle.craq_model.specs.Node.{event_transition, node_step}
use Rattle.craq_model.specs.Plain.{Plain, opening_joined}
use Rattle.craq_model.specs.Settle.{Transition}
use Rattle.craq_laws.proofs.Kept.{event_keeps_name}
use Rattle.craq_runs.specs.declared.run.Move.{Move}
use Rattle.craq_runs.specs.declared.run.Move.TheVariants as moves
use Rattle.craq_runs.specs.declared.run.Taken.{Taken}
use Rattle.craq_runs.specs.Chain.{Chain, Progress, chain_step, config_progress, config_to, counted_progress, is_running, join_progress, message_at, move_progress, next_epoch, node_at, node_progress, arrival_progress, numbers_left, opening_chain, removal_progress, sent_in, transition_progress, with_node}
use Rattle.craq_runs.specs.Runs.{after_move, after_moves, progressed}
use Rattle.craq_recovery.proofs.Speaking.{AreOfChain, Speak, Speaks, event_speaks}
use Rattle.craq_recovery.proofs.Each.{Each, each_at, each_opening, each_pushed, each_set}
use Rattle.craq_recovery.proofs.Lines.{IfTaken, by_test, in_step}

-- the node has this chain's id
abbrev IsOf : ℕ → Plain → Type 0
IsOf chain p = p.name.chain ≡ chain

abbrev pub NodesAreOf : ℕ → List Plain → Type 0
NodesAreOf chain ps = Each (IsOf chain) ps

-- a chain whose nodes and messages have its id
pub record Sound (c : Chain) : Type 0 where
  pub nodes : NodesAreOf c.chain c.nodes
  pub messages : AreOfChain c.chain c.messages

-- a move's result, before it is counted, is of the same chain
record Does (c : Chain) (x : Progress) : Type 0 where
  same : x.0.chain ≡ c.chain
  nodes : NodesAreOf c.chain x.0.nodes
  sends : Speak c.chain x.1.outs

abbrev DoesIfAny : Chain → Result Progress Refusal → Type 0
DoesIfAny c (Ok x) = Does c x
DoesIfAny c (Err e) = ⊤

-- the node of an id has the chain's id
pub own_chain : (chain id : ℕ) (ps : List Plain) (q : Plain) → NodesAreOf chain ps → node_at ps id ≡ Some q → q.name.chain ≡ chain
own_chain chain id ps q h e = each_at (IsOf chain) ps id q h e

-- a node and its messages also have the chain's id after a step
abbrev Bears : ℕ → Transition → Type 0
Bears chain t = IsOf chain t.0 × Speaks chain t

step_bears : (p : Plain) (e : Event) → IfTaken (Bears p.name.chain) (node_step p e)
step_bears p e = in_step (Bears p.name.chain) p e (transition_bears (event_transition p e) refl)
  where
    transition_bears : (r : Result Transition Refusal) → event_transition p e ≡ r → IfTaken (Bears p.name.chain) r
    transition_bears (Ok t) is =
        let S : Result Transition Refusal → Type 0 = λ r. IfTaken (Speaks p.name.chain) r in
        (ap (λ (n : NodeName). n.chain) (event_keeps_name p e t is), subst S is (event_speaks p.name.chain p e refl))
    transition_bears (Err err) is = tt

transition_does : (c : Chain) (r : Result Transition Refusal) → NodesAreOf c.chain c.nodes → IfTaken (Bears c.chain) r → DoesIfAny c (transition_progress c r)
transition_does c (Ok t) h n = record { same = refl; nodes = each_set (IsOf c.chain) c.nodes t.0 h n.0; sends = n.1 }
transition_does c (Err e) h n = tt

node_does : (c : Chain) (id : ℕ) (o : Option Plain) (e : Event) → node_at c.nodes id ≡ o → Sound c → DoesIfAny c (node_progress c o e)
node_does c id None e at s = tt
node_does c id (Some p) e at s =
    let P : ℕ → Type 0 = λ n. IfTaken (Bears n) (node_step p e) in
    transition_does c (node_step p e) s.nodes (subst P (own_chain c.chain id c.nodes p s.nodes at) (step_bears p e))

arrival_does : (c : Chain) (o : Option LinkMessage) → Sound c → DoesIfAny c (arrival_progress c o)
arrival_does c None s = tt
arrival_does c (Some m) s = node_does c m.receiver (node_at c.nodes m.receiver) (events.Deliver m) refl s

reported : (c : Chain) (tos : List ℕ) → Speak c.chain (map (config_to c) tos)
unfolding sent_in
reported c [] = tt
reported c (to ∷ tos) = (refl, reported c tos)

unless : (c : Chain) (b : Bool) (e : Refusal) (r : Result Progress Refusal) → DoesIfAny c r → DoesIfAny c (cond b (Err e) r)
unless c b e r h = by_test b (DoesIfAny c) (Err e) r tt h

removal_does : (c : Chain) (id : ℕ) → Sound c → DoesIfAny c (removal_progress c id)
unfolding removal_progress
removal_does c id s =
    let d : Chain = next_epoch c (without c.members id) in
    let r4 : Result Progress Refusal = Ok (config_progress d) in
    let r3 : Result Progress Refusal = cond (c.epoch == greatest) (Err refusals.Exhausted) r4 in
    let r2 : Result Progress Refusal = cond (length c.members == 1) (Err refusals.LastNode) r3 in
    let r1 : Result Progress Refusal = cond (is_running (node_at c.nodes id)) (Err refusals.NotStopped) r2 in
    unless c (not (is_member c.members id)) refusals.NotMember r1
    (unless c (is_running (node_at c.nodes id)) refusals.NotStopped r2
    (unless c (length c.members == 1) refusals.LastNode r3
    (unless c (c.epoch == greatest) refusals.Exhausted r4 (record { same = refl; nodes = s.nodes; sends = reported d d.members }))))

join_does : (c : Chain) (id : ℕ) → Sound c → DoesIfAny c (join_progress c id)
unfolding join_progress
join_does c id s =
    let d : Chain = next_epoch (with_node c id) (c.members ++ id ∷ []) in
    let r3 : Result Progress Refusal = Ok (config_progress d) in
    let r2 : Result Progress Refusal = cond (c.epoch == greatest) (Err refusals.Exhausted) r3 in
    let r1 : Result Progress Refusal = cond (nat_le member_limit (length c.members)) (Err refusals.ChainFull) r2 in
    unless c ((id == 0) || is_some (node_at c.nodes id)) refusals.UsedId r1
    (unless c (nat_le member_limit (length c.members)) refusals.ChainFull r2
    (unless c (c.epoch == greatest) refusals.Exhausted r3
    (record { same = refl; nodes = each_pushed (IsOf c.chain) c.nodes (opening_joined (record { chain = c.chain; node = id })) s.nodes refl; sends = reported d d.members })))

move_does : (c : Chain) (m : Move) → Sound c → DoesIfAny c (move_progress c m)
move_does c (moves.Ask node ask) s = node_does c node (node_at c.nodes node) (events.Ask ask) refl s
move_does c (moves.Deliver number) s = arrival_does c (message_at c.messages number) s
move_does c (moves.Tick node) s =
    by_test (node == 0) (DoesIfAny c) (Ok (config_progress c)) (node_progress c (node_at c.nodes node) events.Tick)
    (record { same = refl; nodes = s.nodes; sends = reported c c.members })
    (node_does c node (node_at c.nodes node) events.Tick refl s)
move_does c (moves.Stop node) s = node_does c node (node_at c.nodes node) events.Stop refl s
move_does c (moves.Remove node) s = removal_does c node s
move_does c (moves.Join node) s = join_does c node s

sound_counted : (c : Chain) (r : Result Progress Refusal) → Sound c → DoesIfAny c r → Sound (progressed c (counted_progress c r))
sound_counted c (Ok x) s d =
    let y : Chain = record x.0 { messages = c.messages ++ sent_in x.1.outs; moves = c.moves + 1 } in
    let N : ℕ → Type 0 = λ n. NodesAreOf n x.0.nodes in
    let M : ℕ → Type 0 = λ n. AreOfChain n (c.messages ++ sent_in x.1.outs) in
    let after : Sound y = record {
      nodes = subst N (sym d.same) d.nodes;
      messages = subst M (sym d.same) (all_append (λ (m : LinkMessage). m.chain ≡ c.chain) c.messages (sent_in x.1.outs) s.messages d.sends);
    } in
    by_test (numbers_left c x.1) (λ (r : Result Progress Refusal). Sound (progressed c r)) (Ok (y, x.1)) (Err refusals.Exhausted) after s
sound_counted c (Err e) s d = s

pub sound_move : (c : Chain) (m : Move) → Sound c → Sound (after_move c m)
unfolding chain_step
sound_move c m s = sound_counted c (move_progress c m) s (move_does c m s)

sound_moves : (ts : List Taken) (c : Chain) → Sound c → Sound (after_moves c ts)
sound_moves [] c s = s
sound_moves (t ∷ ts) c s = sound_moves ts (after_move c t.chosen) (sound_move c t.chosen s)

pub sound_after : (chain : ℕ) (members : List ℕ) (ts : List Taken) → Sound (after_moves (opening_chain chain members) ts)
sound_after chain members ts = sound_moves ts (opening_chain chain members) (record { nodes = each_opening (IsOf chain) chain members (λ id. refl); messages = tt })
