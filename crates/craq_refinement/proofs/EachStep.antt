-- Each move of a chain, and each run.
use Rattle.std.proofs.Common.{◌≡◌, ℕ, ◌+◌, ◌==◌, false, List, [], ◌∷◌, ◌++◌, Option, Some, None, Result, Ok, Err, refl, ap, sym, subst, ◌∙◌}
use Rattle.std.proofs.lemmas.Bool.{cond_both}
use Rattle.craq_names.specs.declared.name.ObjectId.{ObjectId}
use Rattle.craq_names.specs.declared.refusal.Refusal.{Refusal}
use Rattle.craq_commands.specs.declared.entry.Entry.{Entry}
use Rattle.craq_commands.specs.declared.read_mode.ReadMode.{ReadMode}
use Rattle.craq_commands.specs.declared.state.State.{State}
use Rattle.craq_model.specs.declared.message.Body.{Body}
use Rattle.craq_model.specs.declared.message.Body.TheVariants as bodies
use Rattle.craq_model.specs.declared.message.LinkMessage.{LinkMessage}
use Rattle.craq_model.specs.declared.message.StatePart.{StatePart}
use Rattle.craq_model.specs.declared.ask.Ask.TheVariants as asks
use Rattle.craq_model.specs.declared.ask.Event.{Event}
use Rattle.craq_model.specs.declared.ask.Event.TheVariants as events
use Rattle.craq_model.specs.Plain.{Plain, id_of}
use Rattle.craq_model.specs.Settle.{Transition, transition_with}
use Rattle.craq_model.specs.Sends.{tick_sends}
use Rattle.craq_model.specs.Node.{event_transition}
use Rattle.craq_protocol.specs.Machine as machine
use Rattle.craq_protocol.specs.Machine.{MachineState, initial_state}
use Rattle.craq_protocol.specs.Promises.{IsReached}
use Rattle.craq_protocol.proofs.Reached.{after_moves-append, reached_opening, reached_run}
use Rattle.craq_runs.specs.declared.run.Move.{Move}
use Rattle.craq_runs.specs.declared.run.Move.TheVariants.{Ask, Deliver, Tick, Stop, Remove, Join}
use Rattle.craq_runs.specs.declared.run.Run.{Run}
use Rattle.craq_runs.specs.declared.run.Taken.{Taken}
use Rattle.craq_runs.specs.Chain.{Chain, Progress, node_at, message_at, sent_in, config_progress, node_progress, arrival_progress, counted_progress, chain_step, opening_chain}
use Rattle.craq_runs.specs.Runs.{progressed, Takes, AreTaken, after_moves, IsRunOf}
use Rattle.craq_laws.proofs.Nodes.{node_id}
use Rattle.craq_refinement.specs.Follows.{BodyFollows, Follows}
use Rattle.craq_refinement.specs.Lines.{moves_of_sends, StandsFor, CanFollow, IsFollowed, IsTaking, IsTakingAll, IsHearing, IsAdopting, IsUpdating, IsStopping, IsRemoving, IsJoining, IsNothing}
use Rattle.craq_refinement.proofs.Stages.{TransitionFollows, Took, took, Arrived, arrived}
use Rattle.craq_refinement.proofs.Here.{Here}
use Rattle.craq_refinement.proofs.Copies.{copy_follows, part_follows, floor_follows}
use Rattle.craq_refinement.proofs.Blanks.{blank_follows}
use Rattle.craq_refinement.proofs.Others.{query_follows, version_follows, tick_follows, read_follows, stop_follows}
use Rattle.craq_refinement.proofs.Updates.{transition_same}
use Rattle.craq_refinement.proofs.Master.{Counted, counted, progress_same, master_stands, removal_follows, join_follows}
use Rattle.craq_refinement.proofs.Opening.{opening_follows, distinct_members}
use Rattle.craq_refinement.proofs.EachLine.{delivered, said_as, entry_line, batch_line, ack_line, config_line, update_line}

-- ---- the effect of the other messages

pub copy_line : (c : Chain) (w : MachineState Entry) (number : ℕ) (m : LinkMessage) (position : ℕ) (state : State) (x : Progress) → Follows c w → message_at c.messages number ≡ Some m
    → m.body ≡ bodies.Copy position state → chain_step c (Deliver number) ≡ Ok x → StandsFor (IsTaking m.receiver) w x
copy_line c w number m position state x f at is step =
    let a : Arrived c m x = arrived c number m x at step in
    let h : Here c w a.node = record { follows = f; at = a.at; running = a.running } in
    let s : BodyFollows w.memberships w.messages m.epoch m.sender m.receiver (bodies.Copy position state) = said_as f number m (bodies.Copy position state) at is in
    delivered (λ id. IsTaking id) m (bodies.Copy position state) x is a
    (copy_follows a.node h m position state s.0 a.own s.1 s.2 s.3 s.4)

pub part_line : (c : Chain) (w : MachineState Entry) (number : ℕ) (m : LinkMessage) (part : StatePart) (x : Progress) → Follows c w → IsReached w → message_at c.messages number ≡ Some m
    → m.body ≡ bodies.Part part → chain_step c (Deliver number) ≡ Ok x → StandsFor (IsTaking m.receiver) w x
part_line c w number m part x f r at is step =
    let a : Arrived c m x = arrived c number m x at step in
    let h : Here c w a.node = record { follows = f; at = a.at; running = a.running } in
    delivered (λ id. IsTaking id) m (bodies.Part part) x is a (part_follows a.node h r m part a.own (said_as f number m (bodies.Part part) at is))

pub floor_line : (c : Chain) (w : MachineState Entry) (number : ℕ) (m : LinkMessage) (count : ℕ) (x : Progress) → Follows c w → message_at c.messages number ≡ Some m
    → m.body ≡ bodies.Floor count → chain_step c (Deliver number) ≡ Ok x → StandsFor (IsTaking m.receiver) w x
floor_line c w number m count x f at is step =
    let a : Arrived c m x = arrived c number m x at step in
    let h : Here c w a.node = record { follows = f; at = a.at; running = a.running } in
    delivered (λ id. IsTaking id) m (bodies.Floor count) x is a (floor_follows a.node h m count a.own (said_as f number m (bodies.Floor count) at is))

pub blank_line : (c : Chain) (w : MachineState Entry) (number : ℕ) (m : LinkMessage) (count : ℕ) (x : Progress) → Follows c w → IsReached w → message_at c.messages number ≡ Some m
    → m.body ≡ bodies.Blank count → chain_step c (Deliver number) ≡ Ok x → StandsFor IsNothing w x
blank_line c w number m count x f r at is step =
    let a : Arrived c m x = arrived c number m x at step in
    let h : Here c w a.node = record { follows = f; at = a.at; running = a.running } in
    delivered (λ id. IsNothing) m (bodies.Blank count) x is a (blank_follows a.node h r m count)

pub query_line : (c : Chain) (w : MachineState Entry) (number : ℕ) (m : LinkMessage) (ticket : ℕ) (key : List ℕ) (x : Progress) → Follows c w → message_at c.messages number ≡ Some m
    → m.body ≡ bodies.Query ticket key → chain_step c (Deliver number) ≡ Ok x → StandsFor IsNothing w x
query_line c w number m ticket key x f at is step =
    let a : Arrived c m x = arrived c number m x at step in
    let h : Here c w a.node = record { follows = f; at = a.at; running = a.running } in
    delivered (λ id. IsNothing) m (bodies.Query ticket key) x is a (query_follows a.node h m ticket key)

pub version_line : (c : Chain) (w : MachineState Entry) (number : ℕ) (m : LinkMessage) (ticket version : ℕ) (x : Progress) → Follows c w → message_at c.messages number ≡ Some m
    → m.body ≡ bodies.VersionIs ticket version → chain_step c (Deliver number) ≡ Ok x → StandsFor IsNothing w x
version_line c w number m ticket version x f at is step =
    let a : Arrived c m x = arrived c number m x at step in
    let h : Here c w a.node = record { follows = f; at = a.at; running = a.running } in
    delivered (λ id. IsNothing) m (bodies.VersionIs ticket version) x is a (version_follows a.node h m ticket version)

-- ---- reads, ticks and stops

stepped : {c : Chain} {w : MachineState Entry} (id : ℕ) (e : Event) (x : Progress) (Own : ℕ → List (machine.MachineMove Entry) → Type 0) → Follows c w → counted_progress c (node_progress c (node_at c.nodes id) e) ≡ Ok x
    → ((p : Plain) → Here c w p → (t : Transition) → event_transition p e ≡ Ok t → TransitionFollows (Own (id_of p)) c w t) → StandsFor (Own id) w x
stepped {c} {w} id e x Own f k go =
    let t : Took c (node_at c.nodes id) e x = took c (node_at c.nodes id) e x k in
    let same : id_of t.node ≡ id = node_id c.nodes id t.node t.there in
    let P : ℕ → Type 0 = λ j. node_at c.nodes j ≡ Some t.node in
    let h : Here c w t.node = record { follows = f; at = subst P (sym same) t.there; running = t.running } in
    let Q : Progress → Type 0 = λ y. StandsFor (Own (id_of t.node)) w y in
    let R : ℕ → Type 0 = λ id. StandsFor (Own id) w x in
    subst R same (subst Q (sym t.is) (go t.node h t.transition t.does))

pub read_line : (c : Chain) (w : MachineState Entry) (node : ℕ) (mode : ReadMode) (object : ObjectId) (x : Progress) → Follows c w
    → chain_step c (Ask node (asks.Read mode object)) ≡ Ok x → StandsFor IsNothing w x
unfolding chain_step
read_line c w node mode object x f k = stepped node (events.Ask (asks.Read mode object)) x (λ id. IsNothing) f k (λ p h t e. read_follows p h mode object t e)

ticked : {c : Chain} {w : MachineState Entry} (node : ℕ) (x : Progress) → Follows c w → counted_progress c (node_progress c (node_at c.nodes node) events.Tick) ≡ Ok x → StandsFor IsNothing w x
ticked {c} {w} node x f k =
    stepped node events.Tick x (λ id. IsNothing) f k
    (λ p h t e. let P : Transition → Type 0 = λ t. TransitionFollows IsNothing c w t in
    subst P (transition_same (transition_with p (tick_sends p)) t (event_transition p events.Tick) refl e) (tick_follows p h))

reported_line : {c : Chain} {w : MachineState Entry} (x : Progress) → Follows c w → counted_progress c (Ok (config_progress c)) ≡ Ok x → StandsFor IsNothing w x
reported_line {c} {w} x f k =
    let t : Counted c (Ok (config_progress c)) x = counted c (Ok (config_progress c)) x k in
    let same : config_progress c ≡ t.progress = progress_same (config_progress c) t.progress (Ok (config_progress c)) refl t.does in
    let Q : Progress → Type 0 = λ y. StandsFor IsNothing w y in
    subst Q (sym (t.is ∙ sym (ap (λ (y : Progress). (record y.0 { messages = c.messages ++ sent_in y.1.outs; moves = c.moves + 1 }, y.1)) same)))
    (master_stands [] c (config_progress c).1 (c.moves + 1) refl f refl)

pub tick_line : (c : Chain) (w : MachineState Entry) (node : ℕ) (x : Progress) → Follows c w → chain_step c (Tick node) ≡ Ok x → StandsFor IsNothing w x
unfolding chain_step
tick_line c w node x f k =
    cond_both (node == 0) (Ok (config_progress c)) (node_progress c (node_at c.nodes node) events.Tick) (λ (r : Result Progress Refusal). counted_progress c r ≡ Ok x → StandsFor IsNothing w x)
    (λ e i. reported_line x f i)
    (λ e i. ticked node x f i)
    k

pub stop_line : (c : Chain) (w : MachineState Entry) (node : ℕ) (x : Progress) → Follows c w → chain_step c (Stop node) ≡ Ok x → StandsFor (IsStopping node) w x
unfolding chain_step
stop_line c w node x f k =
    stepped node events.Stop x (λ id own. own ≡ machine.Stop id ∷ []) f k
    (λ p h t e. let P : Transition → Type 0 = λ t. TransitionFollows (λ own. own ≡ machine.Stop (id_of p) ∷ []) c w t in
    subst P (transition_same (transition_with (record p { running = false }) []) t (event_transition p events.Stop) refl e) (stop_follows p h))

pub removal_line : (c : Chain) (w : MachineState Entry) (node : ℕ) (x : Progress) → Follows c w → IsReached w → chain_step c (Remove node) ≡ Ok x → StandsFor (IsRemoving node) w x
unfolding chain_step
removal_line c w node x f r k = removal_follows f r node x k

pub join_line : (c : Chain) (w : MachineState Entry) (node : ℕ) (x : Progress) → Follows c w → IsReached w → chain_step c (Join node) ≡ Ok x → StandsFor (IsJoining node) w x
unfolding chain_step
join_line c w node x f r k = join_follows f r node x k

-- ---- each move

goes : {w : MachineState Entry} {x : Progress} (Own : List (machine.MachineMove Entry) → Type 0) → StandsFor Own w x → CanFollow w x.0
goes {w} {x} Own s = (s.own ++ moves_of_sends (sent_in x.1.outs), s.follows)

by_body : (c : Chain) (w : MachineState Entry) (number : ℕ) (m : LinkMessage) (b : Body) (x : Progress) → Follows c w → IsReached w → message_at c.messages number ≡ Some m → m.body ≡ b
    → chain_step c (Deliver number) ≡ Ok x → CanFollow w x.0
by_body c w number m (bodies.Config members) x f r at is k = goes (IsAdopting m.receiver m.epoch) (config_line c w number m members x f at is k)
by_body c w number m (bodies.Entry e) x f r at is k = goes (IsTaking m.receiver) (entry_line c w number m e x f at is k)
by_body c w number m (bodies.Batch es) x f r at is k = goes (IsTakingAll m.receiver) (batch_line c w number m es x f at is k)
by_body c w number m (bodies.Part part) x f r at is k = goes (IsTaking m.receiver) (part_line c w number m part x f r at is k)
by_body c w number m (bodies.Ack position) x f r at is k = goes (IsHearing m.receiver) (ack_line c w number m position x f at is k)
by_body c w number m (bodies.Query ticket key) x f r at is k = goes IsNothing (query_line c w number m ticket key x f at is k)
by_body c w number m (bodies.VersionIs ticket version) x f r at is k = goes IsNothing (version_line c w number m ticket version x f at is k)
by_body c w number m (bodies.Blank count) x f r at is k = goes IsNothing (blank_line c w number m count x f r at is k)
by_body c w number m (bodies.Copy position state) x f r at is k = goes (IsTaking m.receiver) (copy_line c w number m position state x f at is k)
by_body c w number m (bodies.Floor count) x f r at is k = goes (IsTaking m.receiver) (floor_line c w number m count x f at is k)

by_message : (c : Chain) (w : MachineState Entry) (number : ℕ) (o : Option LinkMessage) (x : Progress) → Follows c w → IsReached w → message_at c.messages number ≡ o
    → chain_step c (Deliver number) ≡ Ok x → CanFollow w x.0
unfolding chain_step
by_message c w number None x f r at k = let i : counted_progress c (arrival_progress c None) ≡ Ok x = sym (ap (λ o. counted_progress c (arrival_progress c o)) at) ∙ k in absurd (cc)
by_message c w number (Some m) x f r at k = by_body c w number m m.body x f r at refl k

pub every_step : (c : Chain) (w : MachineState Entry) (m : Move) (x : Progress) → Follows c w → IsReached w → chain_step c m ≡ Ok x → CanFollow w x.0
every_step c w (Ask node (asks.Update u)) x f r k = goes (IsUpdating node) (update_line c w node u x f r k)
every_step c w (Ask node (asks.Read mode object)) x f r k = goes IsNothing (read_line c w node mode object x f k)
every_step c w (Deliver number) x f r k = by_message c w number (message_at c.messages number) x f r refl k
every_step c w (Tick node) x f r k = goes IsNothing (tick_line c w node x f k)
every_step c w (Stop node) x f r k = goes (IsStopping node) (stop_line c w node x f k)
every_step c w (Remove node) x f r k = goes (IsRemoving node) (removal_line c w node x f r k)
every_step c w (Join node) x f r k = goes (IsJoining node) (join_line c w node x f r k)

-- ---- runs

by_result : (t : Taken) (ts : List Taken) (c : Chain) (w : MachineState Entry) → Follows c w → IsReached w
    → ((d : Chain) (v : MachineState Entry) → Follows d v → IsReached v → AreTaken d ts → CanFollow v (after_moves d ts))
    → (res : Result Progress Refusal) → chain_step c t.chosen ≡ res → Takes res t.step × AreTaken (progressed c res) ts → CanFollow w (after_moves (progressed c res) ts)
by_result t ts c w f r go (Err e) is a = absurd a.0
by_result t ts c w f r go (Ok x) is a =
    let one : CanFollow w x.0 = every_step c w t.chosen x f r is in
    let v : MachineState Entry = machine.after_moves w one.0 in
    let rest : CanFollow v (after_moves x.0 ts) = go x.0 v one.1 (reached_run r one.0) a.1 in
    let P : MachineState Entry → Type 0 = λ u. Follows (after_moves x.0 ts) u in
    (one.0 ++ rest.0, subst P (sym (after_moves-append one.0 rest.0 w)) rest.1)

pub every_moves : (ts : List Taken) (c : Chain) (w : MachineState Entry) → Follows c w → IsReached w → AreTaken c ts → CanFollow w (after_moves c ts)
every_moves [] c w f r a = ([], f)
every_moves (t ∷ ts) c w f r a = by_result t ts c w f r (λ d v f r a. every_moves ts d v f r a) (chain_step c t.chosen) refl a

pub every_run : (chain : ℕ) (run : Run) → IsRunOf chain run → IsFollowed (after_moves (opening_chain chain run.members) run.moves)
every_run chain run i =
    let r : IsReached (initial_state {A = Entry} run.members) = reached_opening run.members (distinct_members run.members i.members.distinct) in
    let g : CanFollow (initial_state run.members) (after_moves (opening_chain chain run.members) run.moves) =
    every_moves run.moves (opening_chain chain run.members) (initial_state run.members) (opening_follows chain run.members) r i.moves
    in
    (machine.after_moves (initial_state run.members) g.0, reached_run r g.0, g.1)
