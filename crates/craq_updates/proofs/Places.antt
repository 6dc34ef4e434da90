-- The node of a chain's move, and the changes there.
use Rattle.std.proofs.Common.{◌≡◌, ◌≢◌, ◌⊎◌, inl, inr, ℕ, ◌+◌, ◌==◌, nat_le, Bool, true, false, not, cond, ◌||◌, List, [], ◌∷◌, ◌++◌, map, length, is_some, Option, Some, None, Result, Ok, Err, refl, ap, sym, subst, ◌∙◌}
use Rattle.std.proofs.lemmas.Bool.{cond_both, eqb-true, eqb-false, or_parts}
use Rattle.craq_names.specs.Limits.{greatest, member_limit}
use Rattle.craq_names.specs.declared.refusal.Refusal.{Refusal}
use Rattle.craq_names.specs.declared.refusal.Refusal.TheVariants as refusals
use Rattle.craq_model.specs.declared.message.LinkMessage.{LinkMessage}
use Rattle.craq_model.specs.declared.ask.Event.{Event}
use Rattle.craq_model.specs.declared.ask.Event.TheVariants as events
use Rattle.craq_model.specs.Members.{is_member, without}
use Rattle.craq_model.specs.Plain.{Plain, opening_joined}
use Rattle.craq_model.specs.Settle.{Transition}
use Rattle.craq_model.specs.Node.{event_transition}
use Rattle.craq_runs.specs.declared.run.Move.{Move}
use Rattle.craq_runs.specs.declared.run.Move.TheVariants as moves
use Rattle.craq_runs.specs.Chain.{Chain, Progress, node_at, message_at, sent_in, config_to, config_progress, next_epoch, with_node, is_running, node_progress, arrival_progress, tick_progress, removal_progress, join_progress, counted_progress, chain_step}
use Rattle.craq_runs.specs.Seen.{ask_in}
use Rattle.craq_refinement.proofs.Stages.{Took, took, moved}
use Rattle.craq_refinement.proofs.Master.{Counted, counted, progress_same}
use Rattle.craq_updates.proofs.EachMove.{place_of, arrives_at}

-- the event at the node of a move
abbrev pub EventOf : Chain → Move → Event → Type 0
EventOf c (moves.Ask node ask) e = e ≡ events.Ask ask
EventOf c (moves.Deliver number) e = (m : LinkMessage) × (message_at c.messages number ≡ Some m) × (e ≡ events.Deliver m)
EventOf c (moves.Tick node) e = e ≡ events.Tick
EventOf c (moves.Stop node) e = e ≡ events.Stop
EventOf c (moves.Remove node) e = ⊥
EventOf c (moves.Join node) e = ⊥

-- a move at a node
pub record AtNode (c : Chain) (chosen : Move) (x : Progress) : Type 0 where
  pub was : Plain
  pub at : node_at c.nodes (place_of c chosen) ≡ Some was
  pub running : was.running ≡ true
  pub event : Event
  pub by : EventOf c chosen event
  pub transition : Transition
  pub does : event_transition was event ≡ Ok transition
  pub is : x ≡ (moved c transition, transition.1)

-- the nodes after a move of the master: the same, or one more
pub record OneMore (nodes more : List Plain) : Type 0 where
  pub new : ℕ
  pub chain : ℕ
  pub some : new ≢ 0
  pub fresh : node_at nodes new ≡ None
  pub is : more ≡ nodes ++ opening_joined (record { chain = chain; node = new }) ∷ []

-- a move of the master
pub record AtMaster (c : Chain) (chosen : Move) (x : Progress) : Type 0 where
  pub place : place_of c chosen ≡ 0
  pub no_ask : (number : ℕ) (ticket : Option ℕ) → ask_in number ticket chosen ≡ []
  pub tos : List ℕ
  pub next : Chain
  pub outs : x.1.outs ≡ map (config_to next) tos
  pub nodes : (x.0.nodes ≡ c.nodes) ⊎ OneMore c.nodes x.0.nodes
  pub messages : x.0.messages ≡ c.messages ++ sent_in x.1.outs
  pub count : x.0.moves ≡ c.moves + 1

at_node : (c : Chain) (chosen : Move) (id : ℕ) (e : Event) (x : Progress) → place_of c chosen ≡ id → EventOf c chosen e → counted_progress c (node_progress c (node_at c.nodes id) e) ≡ Ok x → AtNode c chosen x
at_node c chosen id e x same by k =
    let t : Took c (node_at c.nodes id) e x = took c (node_at c.nodes id) e x k in
    let P : ℕ → Type 0 = λ j. node_at c.nodes j ≡ Some t.node in
    record { was = t.node; at = subst P (sym same) t.there; running = t.running; event = e; by = by; transition = t.transition; does = t.does; is = t.is }

denied : {y : Progress} (b : Bool) (e : Refusal) (r : Result Progress Refusal) → cond b (Err e) r ≡ Ok y → (b ≡ false) × (r ≡ Ok y)
denied {y} b e r h = cond_both b (Err e) r (λ (x : Result Progress Refusal). x ≡ Ok y → (b ≡ false) × (r ≡ Ok y)) (λ i k. absurd (cc)) (λ i k. (i, k)) h

-- the master's progress, once counted
at_master : (c d : Chain) (chosen : Move) (x : Progress) → place_of c chosen ≡ 0 → ((number : ℕ) (ticket : Option ℕ) → ask_in number ticket chosen ≡ []) → (d.nodes ≡ c.nodes) ⊎ OneMore c.nodes d.nodes
    → counted_progress c (Ok (config_progress d)) ≡ Ok x → AtMaster c chosen x
at_master c d chosen x place no_ask nodes k =
    let t : Counted c (Ok (config_progress d)) x = counted c (Ok (config_progress d)) x k in
    let same : config_progress d ≡ t.progress = progress_same (config_progress d) t.progress (Ok (config_progress d)) refl t.does in
    let is : x ≡ (record d { messages = c.messages ++ sent_in (config_progress d).1.outs; moves = c.moves + 1 }, (config_progress d).1) =
    t.is ∙ sym (ap (λ (y : Progress). (record y.0 { messages = c.messages ++ sent_in y.1.outs; moves = c.moves + 1 }, y.1)) same) in
    let P : Progress → Type 0 = λ x. AtMaster c chosen x in
    subst P (sym is) (record { place = place; no_ask = no_ask; tos = d.members; next = d; outs = refl; nodes = nodes; messages = refl; count = refl })

is_none : {A : Type 0} (o : Option A) → is_some o ≡ false → o ≡ None
is_none None h = refl
is_none (Some x) h = absurd (cc)

join_at : (c : Chain) (id : ℕ) (x : Progress) → counted_progress c (join_progress c id) ≡ Ok x → AtMaster c (moves.Join id) x
unfolding join_progress
join_at c id x k =
    let t : Counted c (join_progress c id) x = counted c (join_progress c id) x k in
    let d : Chain = next_epoch (with_node c id) (c.members ++ id ∷ []) in
    let r3 : Result Progress Refusal = Ok (config_progress d) in
    let r2 : Result Progress Refusal = cond (c.epoch == greatest) (Err refusals.Exhausted) r3 in
    let r1 : Result Progress Refusal = cond (nat_le member_limit (length c.members)) (Err refusals.ChainFull) r2 in
    let a1 : _ = denied ((id == 0) || is_some (node_at c.nodes id)) refusals.UsedId r1 t.does in
    let a2 : _ = denied (nat_le member_limit (length c.members)) refusals.ChainFull r2 a1.1 in
    let a3 : _ = denied (c.epoch == greatest) refusals.Exhausted r3 a2.1 in
    let p : ((id == 0) ≡ false) × (is_some (node_at c.nodes id) ≡ false) = or_parts (id == 0) (is_some (node_at c.nodes id)) a1.0 in
    let k' : counted_progress c (Ok (config_progress d)) ≡ Ok x = ap (counted_progress c) (a3.1 ∙ sym t.does) ∙ k in
    at_master c d (moves.Join id) x refl (λ number ticket. refl)
    (inr (record { new = id; chain = c.chain; some = eqb-false id 0 p.0; fresh = is_none (node_at c.nodes id) p.1; is = refl })) k'

removal_at : (c : Chain) (id : ℕ) (x : Progress) → counted_progress c (removal_progress c id) ≡ Ok x → AtMaster c (moves.Remove id) x
unfolding removal_progress
removal_at c id x k =
    let t : Counted c (removal_progress c id) x = counted c (removal_progress c id) x k in
    let d : Chain = next_epoch c (without c.members id) in
    let r4 : Result Progress Refusal = Ok (config_progress d) in
    let r3 : Result Progress Refusal = cond (c.epoch == greatest) (Err refusals.Exhausted) r4 in
    let r2 : Result Progress Refusal = cond (length c.members == 1) (Err refusals.LastNode) r3 in
    let r1 : Result Progress Refusal = cond (is_running (node_at c.nodes id)) (Err refusals.NotStopped) r2 in
    let a1 : _ = denied (not (is_member c.members id)) refusals.NotMember r1 t.does in
    let a2 : _ = denied (is_running (node_at c.nodes id)) refusals.NotStopped r2 a1.1 in
    let a3 : _ = denied (length c.members == 1) refusals.LastNode r3 a2.1 in
    let a4 : _ = denied (c.epoch == greatest) refusals.Exhausted r4 a3.1 in
    let k' : counted_progress c (Ok (config_progress d)) ≡ Ok x = ap (counted_progress c) (a4.1 ∙ sym t.does) ∙ k in
    at_master c d (moves.Remove id) x refl (λ number ticket. refl) (inl refl) k'

tick_at : (c : Chain) (id : ℕ) (x : Progress) → counted_progress c (tick_progress c id) ≡ Ok x → AtNode c (moves.Tick id) x ⊎ AtMaster c (moves.Tick id) x
tick_at c id x k =
    cond_both (id == 0) (Ok (config_progress c)) (node_progress c (node_at c.nodes id) events.Tick) (λ (r : Result Progress Refusal). counted_progress c r ≡ Ok x → AtNode c (moves.Tick id) x ⊎ AtMaster c (moves.Tick id) x)
    (λ e i. inr (at_master c c (moves.Tick id) x (eqb-true id 0 e) (λ number ticket. refl) (inl refl) i))
    (λ e i. inl (at_node c (moves.Tick id) id events.Tick x refl refl i))
    k

arrival_at : (c : Chain) (number : ℕ) (o : Option LinkMessage) (x : Progress) → message_at c.messages number ≡ o → counted_progress c (arrival_progress c o) ≡ Ok x → AtNode c (moves.Deliver number) x
arrival_at c number None x at k = absurd (cc)
arrival_at c number (Some m) x at k = at_node c (moves.Deliver number) m.receiver (events.Deliver m) x (arrives_at c number m at) (m, at, refl) k

pub happens_at : (c : Chain) (chosen : Move) (x : Progress) → chain_step c chosen ≡ Ok x → AtNode c chosen x ⊎ AtMaster c chosen x
unfolding chain_step
happens_at c (moves.Ask node ask) x k = inl (at_node c (moves.Ask node ask) node (events.Ask ask) x refl refl k)
happens_at c (moves.Deliver number) x k = inl (arrival_at c number (message_at c.messages number) x refl k)
happens_at c (moves.Tick node) x k = tick_at c node x k
happens_at c (moves.Stop node) x k = inl (at_node c (moves.Stop node) node events.Stop x refl refl k)
happens_at c (moves.Remove node) x k = inr (removal_at c node x k)
happens_at c (moves.Join node) x k = inr (join_at c node x k)
