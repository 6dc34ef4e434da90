-- The effect of each move of a chain in the world that stands for it.
use Rattle.std.proofs.Common.{◌≡◌, ◌⊎◌, inl, inr, ℕ, zero, suc, ◌==◌, true, false, not, cond, ◌||◌, List, [], ◌∷◌, ◌++◌, map, slice_get, slice_index, Option, Some, None, Ok, Err, refl, ap, sym, subst, ◌∙◌, arith}
use Rattle.std.specs.Prelude.{⊤}
use Rattle.std.proofs.lemmas.Bool.{not-false}
use Rattle.craq_names.specs.Limits.{greatest}
use Rattle.craq_names.specs.declared.refusal.Refusal.TheVariants as refusals
use Rattle.craq_commands.specs.declared.command.Update.{Update}
use Rattle.craq_commands.specs.declared.entry.Entry.{Entry}
use Rattle.craq_commands.specs.declared.reply.Reply.{Reply}
use Rattle.craq_commands.specs.Evaluation.{eval, objects_named, all_of_chain, some_used_up}
use Rattle.craq_commands.specs.SingleCopy.{said}
use Rattle.craq_model.specs.declared.message.Body.{Body}
use Rattle.craq_model.specs.declared.message.Body.TheVariants as bodies
use Rattle.craq_model.specs.declared.message.LinkMessage.{LinkMessage}
use Rattle.craq_model.specs.declared.ask.Ask.TheVariants as asks
use Rattle.craq_model.specs.declared.ask.Event.TheVariants as events
use Rattle.craq_model.specs.Members.{first_of}
use Rattle.craq_model.specs.Plain.{Plain, id_of, is_first, length_of, newest, position_of}
use Rattle.craq_model.specs.Settle.{Transition}
use Rattle.craq_model.specs.Asks.{entry_of, new_update_transition, update_transition, accepted_ask_transition, ask_transition}
use Rattle.craq_protocol.specs.Machine as machine
use Rattle.craq_protocol.specs.Machine.{MachineState, after_moves}
use Rattle.craq_protocol.specs.Promises.{IsReached}
use Rattle.craq_runs.specs.declared.run.Move.{Move}
use Rattle.craq_runs.specs.declared.run.Move.TheVariants as moves
use Rattle.craq_runs.specs.Chain.{Chain, Progress, node_at, message_at, arrival_progress, counted_progress, chain_step}
use Rattle.craq_runs.specs.Seen.{node_of}
use Rattle.craq_laws.proofs.Nodes.{node_id}
use Rattle.craq_refinement.specs.Follows.{Follows}
use Rattle.craq_refinement.specs.Lines.{StandsFor}
use Rattle.craq_refinement.proofs.Stages.{TransitionFollows, Took, took}
use Rattle.craq_refinement.proofs.Here.{Here}
use Rattle.craq_refinement.proofs.Updates.{refused, new_update, old_update}
use Rattle.craq_refinement.proofs.EachLine.{entry_line, batch_line, ack_line, config_line}
use Rattle.craq_refinement.proofs.EachStep.{copy_line, part_line, floor_line, blank_line, query_line, version_line, read_line, tick_line, stop_line, removal_line, join_line}
use Rattle.craq_updates.proofs.Machine.{IsClosed}
use Rattle.craq_updates.proofs.Moves.{held_append, log_by}
use Rattle.craq_updates.proofs.Steps.{Went, Does, went, does_nothing, does_one, like, taking, taking_all, hearing, adopting}

-- ---- an update

-- the entry that the node makes of a new update
abbrev pub entry_for : Plain → Update → Entry
entry_for p u = entry_of p u (eval (newest p).objects u.command)

-- the update is new to the node, and of its chain
pub record IsNewAt (p : Plain) (u : Update) : Type 0 where
  pub new : said (newest p) u.client u.number ≡ None
  pub here : all_of_chain p.name.chain (objects_named u.command) ≡ true

-- the head appends the entry of an update that is new, or makes no move
abbrev pub IsAppending : Plain → Update → List (machine.MachineMove Entry) → Type 0
IsAppending p u own = (own ≡ []) ⊎ ((own ≡ machine.Append (id_of p) (entry_for p u) ∷ []) × IsNewAt p u)

pub update_stands : {c : Chain} {w : MachineState Entry} (p : Plain) → Here c w p → IsReached w → (u : Update) (t : Transition) → ask_transition p (asks.Update u) ≡ Ok t → TransitionFollows (IsAppending p u) c w t
unfolding ask_transition update_transition
update_stands {c} {w} p h r u t k =
    let a : (not p.ready ≡ false) × (cond (not (all_of_chain p.name.chain (objects_named u.command))) (Err refusals.TwoChains) (accepted_ask_transition p (asks.Update u)) ≡ Ok t) =
    refused (not p.ready) refusals.NotReady (cond (not (all_of_chain p.name.chain (objects_named u.command))) (Err refusals.TwoChains) (accepted_ask_transition p (asks.Update u))) k in
    let b : (not (all_of_chain p.name.chain (objects_named u.command)) ≡ false) × (accepted_ask_transition p (asks.Update u) ≡ Ok t) =
    refused (not (all_of_chain p.name.chain (objects_named u.command))) refusals.TwoChains (accepted_ask_transition p (asks.Update u)) a.1 in
    let d : _ = refused (not (is_first p)) (refusals.NotHead (first_of p.members)) (cond (p.last_ticket == greatest) (Err refusals.Exhausted) (update_transition p u (said (newest p) u.client u.number))) b.1 in
    let e : _ = refused (p.last_ticket == greatest) refusals.Exhausted (update_transition p u (said (newest p) u.client u.number)) d.1 in
    by_reply (said (newest p) u.client u.number) refl (not-false p.ready a.0) (not-false (all_of_chain p.name.chain (objects_named u.command)) b.0) (not-false (is_first p) d.0) e.1
  where
    by_reply : (o : Option Reply) → said (newest p) u.client u.number ≡ o → p.ready ≡ true → all_of_chain p.name.chain (objects_named u.command) ≡ true → is_first p ≡ true → update_transition p u o ≡ Ok t → TransitionFollows (IsAppending p u) c w t
    by_reply (Some reply) new ready here first i = old_update p h r ready (position_of p u.client) reply (inl refl) t i
    by_reply None new ready here first i =
        let entry : Entry = entry_for p u in
        let g : _ = refused (length_of p == greatest || some_used_up (newest p).objects (objects_named u.command)) refusals.Exhausted (new_update_transition p entry) i in
        new_update p h r ready first entry (omega arith) (inr (refl, record { new = new; here = here })) t g.1

-- P may hold of the history with a new entry
abbrev pub MayAppend : (List Entry → Type 0) → Chain → MachineState Entry → Move → Type 0
MayAppend P c w (moves.Ask node (asks.Update u)) = (p : Plain) → node_at c.nodes node ≡ Some p → IsNewAt p u → P (w.history node ++ entry_for p u ∷ [])
MayAppend P c w move = ⊤

appending : (P : List Entry → Type 0) (c : Chain) (id : ℕ) (w : MachineState Entry) (p : Plain) (u : Update) (own : List (machine.MachineMove Entry)) → id_of p ≡ id → node_at c.nodes id ≡ Some p → IsAppending p u own
    → Does P (MayAppend P c w (moves.Ask id (asks.Update u))) id w (after_moves w own)
appending P c id w p u own same at (inl e) = like e (does_nothing P (MayAppend P c w (moves.Ask id (asks.Update u))) id w)
appending P c id w p u own same at (inr (e, new)) =
    like e (record {
      log = log_by id w (machine.Append (id_of p) (entry_for p u)) same;
      held = λ m h. let Q : ℕ → Type 0 = λ j. P (w.history j ++ entry_for p u ∷ []) in held_append P w (id_of p) (entry_for p u) h (subst Q (sym same) (m p at new));
    })

pub update_went : (P : List Entry → Type 0) (c : Chain) (w : MachineState Entry) (node : ℕ) (u : Update) (x : Progress) → Follows c w → IsReached w
    → chain_step c (moves.Ask node (asks.Update u)) ≡ Ok x → Went P (MayAppend P c w (moves.Ask node (asks.Update u))) node w x.0
unfolding chain_step
update_went P c w node u x f r step =
    let t : Took c (node_at c.nodes node) (events.Ask (asks.Update u)) x = took c (node_at c.nodes node) (events.Ask (asks.Update u)) x step in
    let id : id_of t.node ≡ node = node_id c.nodes node t.node t.there in
    let Q : ℕ → Type 0 = λ j. node_at c.nodes j ≡ Some t.node in
    let h : Here c w t.node = record { follows = f; at = subst Q (sym id) t.there; running = t.running } in
    let R : Progress → Type 0 = λ y. StandsFor (IsAppending t.node u) w y in
    let s : StandsFor (IsAppending t.node u) w x = subst R (sym t.is) (update_stands t.node h r u t.transition t.does) in
    went r s (appending P c node w t.node u s.own id t.there s.line)

-- ---- every move

-- the node of a move
abbrev pub place_of : Chain → Move → ℕ
place_of c chosen = node_of (map (λ (m : LinkMessage). m.receiver) c.messages) chosen

received : (ms : List LinkMessage) (i : ℕ) (m : LinkMessage) → slice_get ms i ≡ Some m → slice_index (map (λ (m : LinkMessage). m.receiver) ms) i ≡ m.receiver
received [] i m h = absurd (cc)
received (x ∷ ms) zero m h = let same : x ≡ m = cc in ap (λ (m : LinkMessage). m.receiver) same
received (x ∷ ms) (suc i) m h = received ms i m h

pub arrives_at : (c : Chain) (number : ℕ) (m : LinkMessage) → message_at c.messages number ≡ Some m → place_of c (moves.Deliver number) ≡ m.receiver
arrives_at c zero m h = absurd (cc)
arrives_at c (suc i) m h = received c.messages i m h

by_body : (P : List Entry → Type 0) → IsClosed P → (c : Chain) (w : MachineState Entry) (number : ℕ) (m : LinkMessage) (b : Body) (x : Progress) → Follows c w → IsReached w → message_at c.messages number ≡ Some m → m.body ≡ b
    → chain_step c (moves.Deliver number) ≡ Ok x → Went P ⊤ m.receiver w x.0
by_body P q c w number m (bodies.Config members) x f r at is k = let s : _ = config_line c w number m members x f at is k in went r s (adopting P q ⊤ m.receiver m.epoch w s.own r s.line)
by_body P q c w number m (bodies.Entry e) x f r at is k = let s : _ = entry_line c w number m e x f at is k in went r s (taking P q ⊤ m.receiver w s.own r s.line)
by_body P q c w number m (bodies.Ack position) x f r at is k = let s : _ = ack_line c w number m position x f at is k in went r s (hearing P q ⊤ m.receiver w s.own r s.line)
by_body P q c w number m (bodies.Query ticket key) x f r at is k = let s : _ = query_line c w number m ticket key x f at is k in went r s (like s.line (does_nothing P ⊤ m.receiver w))
by_body P q c w number m (bodies.VersionIs ticket version) x f r at is k = let s : _ = version_line c w number m ticket version x f at is k in went r s (like s.line (does_nothing P ⊤ m.receiver w))
by_body P q c w number m (bodies.Blank count) x f r at is k = let s : _ = blank_line c w number m count x f r at is k in went r s (like s.line (does_nothing P ⊤ m.receiver w))
by_body P q c w number m (bodies.Batch es) x f r at is k = let s : _ = batch_line c w number m es x f at is k in went r s (taking_all P q ⊤ m.receiver w s.own r s.line)
by_body P q c w number m (bodies.Part part) x f r at is k = let s : _ = part_line c w number m part x f r at is k in went r s (taking P q ⊤ m.receiver w s.own r s.line)
by_body P q c w number m (bodies.Copy position state) x f r at is k = let s : _ = copy_line c w number m position state x f at is k in went r s (taking P q ⊤ m.receiver w s.own r s.line)
by_body P q c w number m (bodies.Floor count) x f r at is k = let s : _ = floor_line c w number m count x f at is k in went r s (taking P q ⊤ m.receiver w s.own r s.line)

by_message : (P : List Entry → Type 0) → IsClosed P → (c : Chain) (w : MachineState Entry) (number : ℕ) (o : Option LinkMessage) (x : Progress) → Follows c w → IsReached w → message_at c.messages number ≡ o
    → chain_step c (moves.Deliver number) ≡ Ok x → Went P ⊤ (place_of c (moves.Deliver number)) w x.0
unfolding chain_step
by_message P q c w number None x f r at k = let i : counted_progress c (arrival_progress c None) ≡ Ok x = sym (ap (λ o. counted_progress c (arrival_progress c o)) at) ∙ k in absurd (cc)
by_message P q c w number (Some m) x f r at k = let R : ℕ → Type 0 = λ j. Went P ⊤ j w x.0 in subst R (sym (arrives_at c number m at)) (by_body P q c w number m m.body x f r at refl k)

-- the world after any move
pub each_move : (P : List Entry → Type 0) → IsClosed P → (c : Chain) (w : MachineState Entry) (chosen : Move) (x : Progress) → Follows c w → IsReached w → chain_step c chosen ≡ Ok x
    → Went P (MayAppend P c w chosen) (place_of c chosen) w x.0
each_move P q c w (moves.Ask node (asks.Update u)) x f r k = update_went P c w node u x f r k
each_move P q c w (moves.Ask node (asks.Read mode object)) x f r k = let s : _ = read_line c w node mode object x f k in went r s (like s.line (does_nothing P ⊤ node w))
each_move P q c w (moves.Deliver number) x f r k = by_message P q c w number (message_at c.messages number) x f r refl k
each_move P q c w (moves.Tick node) x f r k = let s : _ = tick_line c w node x f k in went r s (like s.line (does_nothing P ⊤ node w))
each_move P q c w (moves.Stop node) x f r k = let s : _ = stop_line c w node x f k in went r s (like s.line (does_one P q ⊤ node w (machine.Stop node) r tt (inl refl)))
each_move P q c w (moves.Remove node) x f r k = let s : _ = removal_line c w node x f r k in went r s (like s.line (does_one P q ⊤ 0 w (machine.Remove node) r tt (log_by 0 w (machine.Remove node) tt)))
each_move P q c w (moves.Join node) x f r k = let s : _ = join_line c w node x f r k in went r s (like s.line (does_one P q ⊤ 0 w (machine.Join node) r tt (log_by 0 w (machine.Join node) tt)))
