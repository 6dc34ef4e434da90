-- The first request of a run names the run's chain.
use Rattle.std.proofs.Common.{◌≡◌, ⊎_elim, ℕ, ◌+◌, ◌<◌, ◌==◌, nat_le, Bool, true, false, not, cond, ◌||◌, List, [], ◌∷◌, ◌++◌, map, length, is_some, Option, Some, None, Result, Ok, Err, refl, ap, sym, subst, ◌∙◌, arith}
use Rattle.std.specs.Prelude.{⊤}
use Rattle.std.proofs.lemmas.Bool.{eqb-true, and_parts, not-false}
use Rattle.std.proofs.lemmas.List.{length-append, length-map}
use Rattle.craq_names.specs.Limits.{greatest, member_limit}
use Rattle.craq_names.specs.declared.name.ObjectId.{ObjectId}
use Rattle.craq_names.specs.declared.name.NodeName.{NodeName}
use Rattle.craq_names.specs.declared.refusal.Refusal.{Refusal}
use Rattle.craq_names.specs.declared.refusal.Refusal.TheVariants as refusals
use Rattle.craq_commands.specs.declared.command.Command.{Command}
use Rattle.craq_commands.specs.declared.command.Command.TheVariants.{Put, TestAndSet, Append, Prepend, Increment, Decrement, Mini}
use Rattle.craq_commands.specs.Evaluation.{chain_of_first, objects_named, all_of_chain}
use Rattle.craq_model.specs.declared.ask.Ask.{Ask}
use Rattle.craq_model.specs.declared.ask.Ask.TheVariants as asks
use Rattle.craq_model.specs.declared.ask.Event.{Event}
use Rattle.craq_model.specs.declared.ask.Event.TheVariants as events
use Rattle.craq_model.specs.declared.message.LinkMessage.{LinkMessage}
use Rattle.craq_model.specs.declared.step.Step.{Step}
use Rattle.craq_model.specs.Asks.{asked_objects, accepted_ask_transition, ask_transition}
use Rattle.craq_model.specs.Members.{is_member, without}
use Rattle.craq_model.specs.Node.{node_step, event_transition}
use Rattle.craq_model.specs.Plain.{Plain, opening_member, opening_joined}
use Rattle.craq_model.specs.Settle.{Transition}
use Rattle.craq_runs.specs.declared.run.Move.{Move}
use Rattle.craq_runs.specs.declared.run.Move.TheVariants as moves
use Rattle.craq_runs.specs.declared.run.Run.{Run}
use Rattle.craq_runs.specs.declared.run.Taken.{Taken}
use Rattle.craq_runs.specs.Chain.{Chain, Progress, node_at, message_at, config_progress, next_epoch, with_node, is_running, transition_progress, node_progress, arrival_progress, removal_progress, join_progress, move_progress, counted_progress, numbers_left, sent_in, opening_chain, chain_step}
use Rattle.craq_runs.specs.Runs.{IsRunOf, progressed, Takes, AreTaken, after_move}
use Rattle.craq_runs.specs.Typed.{AreOfType, IsAskOfType, IsOfType, IsMoveOfType}
use Rattle.craq_laws.proofs.Kept.{name_kept}
use Rattle.craq_refinement.proofs.Updates.{refused}
use Rattle.craq_updates.proofs.Places.{AtNode, AtMaster, happens_at}
use Rattle.craq_chain.proofs.Steps.{AreOf, own_name, names_push, set_names}
use Rattle.craq_world.specs.Named.{named_first, named_in}

-- ---- each node of a chain has the chain's id

abbrev IsOf : ℕ → Chain → Type 0
IsOf chain c = (c.chain ≡ chain) × AreOf chain c.nodes

abbrev StaysOf : ℕ → Result Progress Refusal → Type 0
StaysOf chain (Ok x) = IsOf chain x.0
StaysOf chain (Err e) = ⊤

by_test : {A : Type 0} (b : Bool) (Q : A → Type 0) (x y : A) → Q x → Q y → Q (cond b x y)
by_test true Q x y h k = h
by_test false Q x y h k = k

unless : (chain : ℕ) (b : Bool) (e : Refusal) (r : Result Progress Refusal) → StaysOf chain r → StaysOf chain (cond b (Err e) r)
unless chain b e r h = by_test b (StaysOf chain) (Err e) r tt h

transition_stays : (chain : ℕ) (c : Chain) (p : Plain) (r : Result Transition Refusal) → IsOf chain c → p.name.chain ≡ chain → ((t : Transition) → r ≡ Ok t → t.0.name ≡ p.name) → StaysOf chain (transition_progress c r)
transition_stays chain c p (Ok t) h own keeps = (h.0, set_names chain c.nodes t.0 h.1 (ap (λ (n : NodeName). n.chain) (keeps t refl) ∙ own))
transition_stays chain c p (Err e) h own keeps = tt

node_stays : (chain : ℕ) (c : Chain) (id : ℕ) (o : Option Plain) (e : Event) → node_at c.nodes id ≡ o → IsOf chain c → StaysOf chain (node_progress c o e)
node_stays chain c id None e at h = tt
node_stays chain c id (Some p) e at h = transition_stays chain c p (node_step p e) h (own_name chain id c.nodes p h.1 at) (λ t does. name_kept p t.0 e t.1 does)

arrival_stays : (chain : ℕ) (c : Chain) (o : Option LinkMessage) → IsOf chain c → StaysOf chain (arrival_progress c o)
arrival_stays chain c None h = tt
arrival_stays chain c (Some m) h = node_stays chain c m.receiver (node_at c.nodes m.receiver) (events.Deliver m) refl h

removal_stays : (chain : ℕ) (c : Chain) (id : ℕ) → IsOf chain c → StaysOf chain (removal_progress c id)
unfolding removal_progress
removal_stays chain c id h =
    let r4 : Result Progress Refusal = Ok (config_progress (next_epoch c (without c.members id))) in
    let r3 : Result Progress Refusal = cond (c.epoch == greatest) (Err refusals.Exhausted) r4 in
    let r2 : Result Progress Refusal = cond (length c.members == 1) (Err refusals.LastNode) r3 in
    let r1 : Result Progress Refusal = cond (is_running (node_at c.nodes id)) (Err refusals.NotStopped) r2 in
    unless chain (not (is_member c.members id)) refusals.NotMember r1
    (unless chain (is_running (node_at c.nodes id)) refusals.NotStopped r2
    (unless chain (length c.members == 1) refusals.LastNode r3
    (unless chain (c.epoch == greatest) refusals.Exhausted r4 h)))

join_stays : (chain : ℕ) (c : Chain) (id : ℕ) → IsOf chain c → StaysOf chain (join_progress c id)
unfolding join_progress
join_stays chain c id h =
    let r3 : Result Progress Refusal = Ok (config_progress (next_epoch (with_node c id) (c.members ++ id ∷ []))) in
    let r2 : Result Progress Refusal = cond (c.epoch == greatest) (Err refusals.Exhausted) r3 in
    let r1 : Result Progress Refusal = cond (nat_le member_limit (length c.members)) (Err refusals.ChainFull) r2 in
    unless chain ((id == 0) || is_some (node_at c.nodes id)) refusals.UsedId r1
    (unless chain (nat_le member_limit (length c.members)) refusals.ChainFull r2
    (unless chain (c.epoch == greatest) refusals.Exhausted r3
    (h.0, names_push chain c.nodes (opening_joined (record { chain = c.chain; node = id })) h.1 h.0)))

move_stays : (chain : ℕ) (c : Chain) (m : Move) → IsOf chain c → StaysOf chain (move_progress c m)
move_stays chain c (moves.Ask node ask) h = node_stays chain c node (node_at c.nodes node) (events.Ask ask) refl h
move_stays chain c (moves.Deliver number) h = arrival_stays chain c (message_at c.messages number) h
move_stays chain c (moves.Tick node) h = by_test (node == 0) (StaysOf chain) (Ok (config_progress c)) (node_progress c (node_at c.nodes node) events.Tick) h (node_stays chain c node (node_at c.nodes node) events.Tick refl h)
move_stays chain c (moves.Stop node) h = node_stays chain c node (node_at c.nodes node) events.Stop refl h
move_stays chain c (moves.Remove node) h = removal_stays chain c node h
move_stays chain c (moves.Join node) h = join_stays chain c node h

counted_stays : (chain : ℕ) (c : Chain) (r : Result Progress Refusal) → StaysOf chain r → StaysOf chain (counted_progress c r)
counted_stays chain c (Ok x) h =
    by_test (numbers_left c x.1) (StaysOf chain) (Ok (record x.0 { messages = c.messages ++ sent_in x.1.outs; moves = c.moves + 1 }, x.1)) (Err refusals.Exhausted) h tt
counted_stays chain c (Err e) h = tt

step_stays : (chain : ℕ) (c : Chain) (m : Move) → IsOf chain c → StaysOf chain (chain_step c m)
unfolding chain_step
step_stays chain c m h = counted_stays chain c (move_progress c m) (move_stays chain c m h)

after_stays : (chain : ℕ) (c : Chain) (r : Result Progress Refusal) → IsOf chain c → StaysOf chain r → IsOf chain (progressed c r)
after_stays chain c (Ok x) h s = s
after_stays chain c (Err e) h s = h

opening_is : (chain : ℕ) (members ids : List ℕ) → AreOf chain (map (λ id. opening_member (record { chain = chain; node = id }) members) ids)
opening_is chain members [] = tt
opening_is chain members (id ∷ ids) = (refl, opening_is chain members ids)

-- ---- a request that is accepted names the chain

some_named : (t : Command) → IsOfType t → 0 < length (objects_named t)
some_named (Put o v) l = omega arith
some_named (TestAndSet o expect v) l = omega arith
some_named (Append o v) l = omega arith
some_named (Prepend o v) l = omega arith
some_named (Increment o by) l = omega arith
some_named (Decrement o by) l = omega arith
some_named (Mini t) l =
    let some : 0 < length t.compares + length t.reads + length t.writes = l.some in
    let compared : List ObjectId = map (λ (c : ObjectId × ℕ). c.0) t.compares in
    let written : List ObjectId = map (λ (w : ObjectId × List ℕ). w.0) t.writes in
    omega (arith, some, length-append (compared ++ t.reads) written, length-append compared t.reads, length-map t.compares (λ (c : ObjectId × ℕ). c.0), length-map t.writes (λ (w : ObjectId × List ℕ). w.0))

some_asked : (ask : Ask) → IsAskOfType ask → 0 < length (asked_objects ask)
some_asked (asks.Update u) l = some_named u.command l
some_asked (asks.Read mode object) l = omega arith

first_is : (chain : ℕ) (objects : List ObjectId) → 0 < length objects → all_of_chain chain objects ≡ true → chain_of_first objects ≡ chain
unfolding all_of_chain
first_is chain [] some all = absurd (omega (arith, some))
first_is chain (o ∷ os) some all = eqb-true o.chain chain (and_parts (o.chain == chain) _ all).0

ask_is : (p : Plain) (ask : Ask) (t : Transition) → ask_transition p ask ≡ Ok t → IsAskOfType ask → chain_of_first (asked_objects ask) ≡ p.name.chain
unfolding ask_transition
ask_is p ask t does type =
    let here : Bool = all_of_chain p.name.chain (asked_objects ask) in
    let a : _ = refused (not p.ready) refusals.NotReady (cond (not here) (Err refusals.TwoChains) (accepted_ask_transition p ask)) does in
    let b : _ = refused (not here) refusals.TwoChains (accepted_ask_transition p ask) a.1 in
    first_is p.name.chain (asked_objects ask) (some_asked ask type) (not-false here b.0)

asked_at : (chain : ℕ) (c : Chain) (node : ℕ) (ask : Ask) (x : Progress) → IsOf chain c → chain_step c (moves.Ask node ask) ≡ Ok x → IsAskOfType ask → chain_of_first (asked_objects ask) ≡ chain
asked_at chain c node ask x h does type =
    ⊎_elim
    (λ (a : AtNode c (moves.Ask node ask) x).
    let P : Event → Type 0 = λ e. event_transition a.was e ≡ Ok a.transition in
    ask_is a.was ask a.transition (subst P a.by a.does) type ∙ own_name chain node c.nodes a.was h.1 a.at)
    (λ (m : AtMaster c (moves.Ask node ask) x). let none : _ = m.no_ask 0 None in absurd (cc))
    (happens_at c (moves.Ask node ask) x does)

taken_names : (chain : ℕ) (c : Chain) (node : ℕ) (ask : Ask) (step : Step) (r : Result Progress Refusal) → chain_step c (moves.Ask node ask) ≡ r → Takes r step → IsOf chain c → IsAskOfType ask → chain_of_first (asked_objects ask) ≡ chain
taken_names chain c node ask step (Ok x) does taken h type = asked_at chain c node ask x h does type
taken_names chain c node ask step (Err e) does taken h type = absurd taken

same_some : (m n : ℕ) → Some m ≡ Some n → m ≡ n
same_some m n e = cc

by_move : (chain : ℕ) (c : Chain) (m : Move) (step : Step) (later : Option ℕ) (x : ℕ) → IsOf chain c → Takes (chain_step c m) step → IsMoveOfType m → (later ≡ Some x → x ≡ chain) → named_first m later ≡ Some x → x ≡ chain
by_move chain c (moves.Ask node ask) step later x h taken type rest is =
    sym (same_some (chain_of_first (asked_objects ask)) x is) ∙ taken_names chain c node ask step (chain_step c (moves.Ask node ask)) refl taken h type
by_move chain c (moves.Deliver number) step later x h taken type rest is = rest is
by_move chain c (moves.Tick node) step later x h taken type rest is = rest is
by_move chain c (moves.Stop node) step later x h taken type rest is = rest is
by_move chain c (moves.Remove node) step later x h taken type rest is = rest is
by_move chain c (moves.Join node) step later x h taken type rest is = rest is

names_chain : (chain : ℕ) (c : Chain) (ts : List Taken) (x : ℕ) → IsOf chain c → AreTaken c ts → AreOfType ts → named_in ts ≡ Some x → x ≡ chain
names_chain chain c [] x h taken type is = absurd (cc)
names_chain chain c (t ∷ ts) x h taken type is =
    let next : IsOf chain (after_move c t.chosen) = after_stays chain c (chain_step c t.chosen) h (step_stays chain c t.chosen h) in
    by_move chain c t.chosen t.step (named_in ts) x h taken.0 type.0 (λ e. names_chain chain (after_move c t.chosen) ts x next taken.1 type.1 e) is

pub named_is : (chain : ℕ) (run : Run) (x : ℕ) → IsRunOf chain run → AreOfType run.moves → named_in run.moves ≡ Some x → x ≡ chain
named_is chain run x i type is = names_chain chain (opening_chain chain run.members) run.moves x (refl, opening_is chain run.members run.members) i.moves type is
