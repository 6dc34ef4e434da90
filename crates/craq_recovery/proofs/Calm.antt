-- No read waits at a ready last member, after every run.
use Rattle.std.proofs.Common.{◌≡◌, ℕ, ◌-◌, ◌≤◌, ◌==◌, true, not, List, [], ◌∷◌, filter, length, take, Some, None, Result, Ok, Err, refl, ap, sym, subst, ◌∙◌, arith}
use Rattle.std.proofs.lemmas.Bool.{and_parts, cond_both, both_ways, eq-eqb}
use Rattle.std.proofs.lemmas.List.{take_all}
use Rattle.craq_names.specs.declared.refusal.Refusal.{Refusal}
use Rattle.craq_names.specs.declared.refusal.Refusal.TheVariants as refusals
use Rattle.craq_commands.specs.declared.entry.Entry.{Entry}
use Rattle.craq_commands.specs.SingleCopy.{after_entries}
use Rattle.craq_model.specs.Asks.{is_clean}
use Rattle.craq_model.specs.declared.ask.Ask.{Ask}
use Rattle.craq_model.specs.declared.ask.Event.{Event}
use Rattle.craq_model.specs.declared.ask.Event.TheVariants as events
use Rattle.craq_model.specs.declared.message.LinkMessage.{LinkMessage}
use Rattle.craq_model.specs.declared.waiting.WaitingRead.{WaitingRead}
use Rattle.craq_model.specs.Deliveries.{acknowledgement_transition, delivery_transition, reads_without}
use Rattle.craq_model.specs.Members.{is_member}
use Rattle.craq_model.specs.Node.{event_transition, is_for}
use Rattle.craq_model.specs.Plain.{Plain, clean, id_of, is_last, is_tail, length_of, newest, newest_object}
use Rattle.craq_model.specs.Settle.{Transition, settling_transition}
use Rattle.craq_commands.specs.Objects.{object_of}
use Rattle.craq_protocol.specs.Machine.{MachineState}
use Rattle.craq_protocol.specs.Members as protocol
use Rattle.craq_protocol.proofs.Invariant.{Clauses, HoldsLog, Invariant}
use Rattle.craq_protocol.proofs.Reached.{reached_inv}
use Rattle.craq_refinement.specs.Follows.{Follows, NodeFollows, seen_of}
use Rattle.craq_refinement.specs.Lines.{IsFollowed}
use Rattle.craq_refinement.proofs.EachStep.{every_run}
use Rattle.craq_refinement.proofs.Members.{last_of-same}
use Rattle.craq_refinement.proofs.Worlds.{history_length}
use Rattle.craq_laws.proofs.Nodes.{node_id}
use Rattle.craq_runs.specs.declared.run.Move.{Move}
use Rattle.craq_runs.specs.declared.run.Run.{Run}
use Rattle.craq_runs.specs.declared.run.Taken.{Taken}
use Rattle.craq_runs.specs.Chain.{Chain, node_at, opening_chain}
use Rattle.craq_runs.specs.Runs.{IsRunOf, after_move, after_moves}
use Rattle.craq_recovery.specs.Recovered.{chain_after_moves}
use Rattle.craq_recovery.proofs.Gains.{Goes, goes_move}
use Rattle.craq_recovery.proofs.Each.{Each, each_at, each_moved, each_opening}
use Rattle.craq_recovery.proofs.Lines.{ByAsk, ByMessage, IfTaken, by_ask, by_message, by_test}

-- at a tail no read waits
abbrev pub Calm : Plain → Type 0
Calm p = is_tail p ≡ true → p.waiting_reads ≡ []

abbrev After : Transition → Type 0
After t = Calm t.0

settling_calm : (p : Plain) → After (settling_transition p)
unfolding settling_transition
settling_calm p = cond_both (is_tail p) _ _ After (λ e. λ t. refl) (λ e. λ t. absurd (both_ways (is_tail p) e t))

message_calm : (m : LinkMessage) → ByMessage Calm After m
unfolding acknowledgement_transition reads_without
message_calm m = record {
  silent = λ t none h. h;
  sends = λ p past to bs h. h;
  joins = λ p epoch members h. settling_calm (record p { epoch = epoch; members = members; floor = None; gathering = None });
  readies = λ p h. settling_calm (record p { ready = true; gathering = None });
  commits = λ p position h. h;
  answers = λ p r answer h t. ap (filter (λ (x : WaitingRead). not (x.ticket == r.ticket))) (h t);
  takes = λ p past floor h. h;
  drops = λ p h. h;
  gathers = λ p part g says from at count lacks h. h;
}

-- ---- requests

take_whole : (n : ℕ) (es : List Entry) → length es ≤ n → take n es ≡ es
take_whole n es le = take_all n es le

-- if all entries are known to be committed, each object is clean
all_clean : (p : Plain) (key : List ℕ) → p.past.acknowledged ≡ length_of p → is_clean p key ≡ true
unfolding newest clean
all_clean p key known =
    let base : ℕ = p.past.base in
    let far : length p.past.entries ≤ p.past.acknowledged - base = omega (arith, known) in
    let V : List Entry → Type 0 = λ l. ((newest_object p key).0 == (object_of (after_entries p.past.base_state l).objects key).0) ≡ true in
    subst V (sym (take_whole (p.past.acknowledged - base) p.past.entries far)) (eq-eqb (newest_object p key).0 (newest_object p key).0 refl)

-- a tail's entries are all known to be committed
abbrev IsKnown : Plain → Type 0
IsKnown p = is_tail p ≡ true → p.past.acknowledged ≡ length_of p

abbrev KnownCalm : Plain → Type 0
KnownCalm p = IsKnown p × Calm p

ask_calm : ByAsk KnownCalm After
ask_calm = record {
  answered = λ p past answer to bs h. h.1;
  waits = λ p past us to bs h. h.1;
  asks = λ p r bs dirty h t. absurd (both_ways (is_clean p r.key) dirty (all_clean p r.key (h.0 t)));
}

event_calm : (p : Plain) (e : Event) → KnownCalm p → IfTaken After (event_transition p e)
event_calm p (events.Ask ask) h = by_ask KnownCalm After ask_calm p ask h
event_calm p (events.Deliver m) h = by_test (is_for p m) (IfTaken After) (Ok (delivery_transition p m)) (Err refusals.WrongNode) (by_message Calm After m (message_calm m) p h.1) tt
event_calm p events.Tick h = h.1
event_calm p events.Stop h = h.1

-- ---- a chain

-- a running tail knows all its entries to be committed
tail_known : (c : Chain) (id : ℕ) (p : Plain) → IsFollowed c → node_at c.nodes id ≡ Some p → p.running ≡ true → is_tail p ≡ true → p.past.acknowledged ≡ length_of p
tail_known c id p f at runs tail =
    let w : MachineState Entry = f.0 in
    let g : Follows c w = f.2 in
    let N : ℕ → Type 0 = λ j. node_at c.nodes j ≡ Some p in
    let n : NodeFollows w (seen_of p) = g.nodes (id_of p) p (subst N (sym (node_id c.nodes id p at)) at) in
    let i : Invariant w = reached_inv f.1 in
    let s : Clauses w i.ages = i.clauses in
    let parts : (p.ready ≡ true) × (is_last p ≡ true) = and_parts p.ready (is_last p) tail in
    let ready : w.ready (id_of p) ≡ true = n.ready ∙ parts.0 in
    let M : List ℕ → Type 0 = λ l. protocol.is_member l (id_of p) ≡ true in
    let member : protocol.is_member p.members (id_of p) ≡ true = subst M n.members (s.is_member_there (id_of p) (s.ready_has_epoch (id_of p) ready)) in
    let L : List ℕ → Type 0 = λ l. protocol.is_last l (id_of p) ≡ true in
    let last : protocol.is_last p.members (id_of p) ≡ true = sym (last_of-same p.members (id_of p) member) ∙ parts.1 in
    let log : HoldsLog w (id_of p) = i.tails (id_of p) (n.running ∙ runs) ready (subst L (sym n.members) last) in
    let held : w.acknowledged (id_of p) ≤ length (w.history (id_of p)) = s.acknowledged_held (id_of p) in
    omega (arith, log.1, held, n.acknowledged, history_length n.history)

calm_move : (c : Chain) (m : Move) → IsFollowed c → Each Calm c.nodes → Each Calm (after_move c m).nodes
calm_move c m f all =
    each_moved Calm c m all
    (λ x a h. let T : Result Transition Refusal → Type 0 = λ r. IfTaken After r in subst T a.does (event_calm a.was a.event (λ t. tail_known c _ a.was f a.at a.running t, h)))
    (λ name some t. refl)

calm_moves : (ts : List Taken) (c : Chain) → IsFollowed c → Each Calm c.nodes → Each Calm (after_moves c ts).nodes
calm_moves [] c f a = a
calm_moves (t ∷ ts) c f a = let g : Goes c (after_move c t.chosen) = goes_move c t.chosen f in calm_moves ts (after_move c t.chosen) g.followed (calm_move c t.chosen f a)

pub calm_after : (chain : ℕ) (run : Run) (id : ℕ) (p : Plain) → IsRunOf chain run → node_at (chain_after_moves chain run).nodes id ≡ Some p → Calm p
calm_after chain run id p is at =
    let c : Chain = opening_chain chain run.members in
    let none : Run = record { members = run.members; moves = [] } in
    let f : IsFollowed c = every_run chain none (record { members = is.members; moves = tt }) in
    each_at Calm (chain_after_moves chain run).nodes id p (calm_moves run.moves c f (each_opening Calm chain run.members (λ id t. refl))) at
