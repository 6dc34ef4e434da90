-- Each move of a chain, in the world that stands for it.
use Rattle.std.proofs.Common.{◌≡◌, inl, inr, ℕ, Bool, cond, ◌&&◌, List, [], ◌∷◌, ◌++◌, map, length, take, Option, Some, None, refl, ap, sym, subst, ◌∙◌}
use Rattle.std.proofs.lemmas.Bool.{cond_both}
use Rattle.craq_commands.specs.declared.entry.Entry.{Entry}
use Rattle.craq_model.specs.declared.message.Body.{Body}
use Rattle.craq_model.specs.declared.message.Body.TheVariants as bodies
use Rattle.craq_model.specs.declared.message.LinkMessage.{LinkMessage}
use Rattle.craq_protocol.specs.Members.{is_next}
use Rattle.craq_protocol.specs.Machine.{MachineState, Message, MachineMove, Entry as EntryBody, Ack as AckBody, Copy as CopyBody, Floor as FloorBody, known_membership, entry_at, after_send_entry, after_move, after_moves, Take, Become_ready, Adopt, Send_entry}
use Rattle.craq_protocol.specs.Promises.{IsReached, Later}
use Rattle.craq_protocol.proofs.Reached.{after_moves-append, reached_run, reached_later}
use Rattle.craq_runs.specs.Chain.{Chain, Progress, sent_in}
use Rattle.craq_refinement.specs.Follows.{Follows}
use Rattle.craq_refinement.specs.Lines.{moves_of_send, moves_of_sends, StandsFor, IsTaking, IsTakingAll, IsHearing, IsAdopting}
use Rattle.craq_updates.proofs.Machine.{IsClosed, Held}
use Rattle.craq_updates.proofs.Moves.{IsQuiet, held_quiet, LogBy, log_by, log_ready, log_takes}

-- ---- sending messages changes nothing else

pub record OnlySent (w v : MachineState Entry) : Type 0 where
  pub messages : List (Message Entry)
  pub is : v ≡ record w { messages = messages }

sent_if : (w : MachineState Entry) (b : Bool) (messages : List (Message Entry)) → OnlySent w (cond b (record w { messages = messages }) w)
sent_if w b messages = cond_both b (record w { messages = messages }) w (λ v. OnlySent w v) (λ e. record { messages = messages; is = refl }) (λ e. record { messages = w.messages; is = refl })

sent_entry : (w : MachineState Entry) (n to place : ℕ) (o : Option Entry) → OnlySent w (after_send_entry w n to place o)
sent_entry w n to place None = record { messages = w.messages; is = refl }
sent_entry w n to place (Some e) = sent_if w (w.running n && is_next (known_membership w n) n to) (record { epoch = w.epoch n; from = n; to = to; body = EntryBody place e } ∷ w.messages)

-- entries are sent one after the other
sent_entries : (es : List Entry) (w : MachineState Entry) (n to : ℕ) → OnlySent w (after_moves w (map (λ (e : Entry). Send_entry n to e.position) es))
sent_entries [] w n to = record { messages = w.messages; is = refl }
sent_entries (e ∷ es) w n to =
    let v : MachineState Entry = after_move w (Send_entry n to e.position) in
    let one : OnlySent w v = sent_entry w n to e.position (entry_at (w.history n) e.position) in
    let more : OnlySent v (after_moves v (map (λ (e : Entry). Send_entry n to e.position) es)) = sent_entries es v n to in
    record { messages = more.messages; is = more.is ∙ ap (λ (u : MachineState Entry). record u { messages = more.messages }) one.is }

sent_body : (w : MachineState Entry) (n to : ℕ) (b : Body) → OnlySent w (after_moves w (moves_of_send n to b))
sent_body w n to (bodies.Config members) = record { messages = w.messages; is = refl }
sent_body w n to (bodies.Entry e) = sent_entry w n to e.position (entry_at (w.history n) e.position)
sent_body w n to (bodies.Ack position) = sent_if w (w.running n && is_next (known_membership w n) to n) (record { epoch = w.epoch n; from = n; to = to; body = AckBody (w.acknowledged n) } ∷ w.messages)
sent_body w n to (bodies.Query ticket key) = record { messages = w.messages; is = refl }
sent_body w n to (bodies.VersionIs ticket version) = record { messages = w.messages; is = refl }
sent_body w n to (bodies.Blank count) = record { messages = w.messages; is = refl }
sent_body w n to (bodies.Batch es) = sent_entries es w n to
sent_body w n to (bodies.Part part) = sent_if w (w.running n && is_next (known_membership w n) n to) (record { epoch = w.epoch n; from = n; to = to; body = CopyBody (take (w.acknowledged n) (w.history n)) } ∷ w.messages)
sent_body w n to (bodies.Copy position state) = sent_if w (w.running n && is_next (known_membership w n) n to) (record { epoch = w.epoch n; from = n; to = to; body = CopyBody (take (w.acknowledged n) (w.history n)) } ∷ w.messages)
sent_body w n to (bodies.Floor count) = sent_if w ((w.running n && w.ready n) && is_next (known_membership w n) n to) (record { epoch = w.epoch n; from = n; to = to; body = FloorBody (length (w.history n)) } ∷ w.messages)

pub all_sent : (ms : List LinkMessage) (w : MachineState Entry) → OnlySent w (after_moves w (moves_of_sends ms))
all_sent [] w = record { messages = w.messages; is = refl }
all_sent (m ∷ ms) w =
    let first : List (MachineMove Entry) = moves_of_send m.sender m.receiver m.body in
    let one : OnlySent w (after_moves w first) = sent_body w m.sender m.receiver m.body in
    let more : OnlySent (after_moves w first) (after_moves (after_moves w first) (moves_of_sends ms)) = all_sent ms (after_moves w first) in
    record {
      messages = more.messages;
      is = after_moves-append first (moves_of_sends ms) w ∙ (more.is ∙ ap (λ (v : MachineState Entry). record v { messages = more.messages }) one.is);
    }

-- ---- a move of a chain

-- the world after a move: a property of all histories holds again, if it may hold of the new entry
pub record Went (P : List Entry → Type 0) (May : Type 0) (id : ℕ) (w : MachineState Entry) (d : Chain) : Type 0 where
  pub world : MachineState Entry
  pub reached : IsReached world
  pub follows : Follows d world
  pub later : Later w world
  pub log : LogBy id w world
  pub held : May → Held P w → Held P world

-- the effect of a line's own moves
pub record Does (P : List Entry → Type 0) (May : Type 0) (id : ℕ) (w v : MachineState Entry) : Type 0 where
  pub log : LogBy id w v
  pub held : May → Held P w → Held P v

pub went : {P : List Entry → Type 0} {May : Type 0} {Own : List (MachineMove Entry) → Type 0} {id : ℕ} {w : MachineState Entry} {x : Progress} → IsReached w → (s : StandsFor Own w x)
    → Does P May id w (after_moves w s.own) → Went P May id w x.0
went {P} {May} {Own} {id} {w} {x} r s d =
    let ms : List (MachineMove Entry) = moves_of_sends (sent_in x.1.outs) in
    let u : MachineState Entry = after_moves w s.own in
    let v : MachineState Entry = after_moves w (s.own ++ ms) in
    let sent : OnlySent u (after_moves u ms) = all_sent (sent_in x.1.outs) u in
    let same : v ≡ record u { messages = sent.messages } = after_moves-append s.own ms w ∙ sent.is in
    let L : MachineState Entry → Type 0 = λ y. LogBy id w y in
    let H : MachineState Entry → Type 0 = λ y. May → Held P w → Held P y in
    record {
      world = v;
      reached = reached_run r (s.own ++ ms);
      follows = s.follows;
      later = reached_later r (s.own ++ ms);
      log = subst L (sym same) d.log;
      held = subst H (sym same) (λ m h. let g : _ = d.held m h in record { histories = g.histories; log = g.log });
    }

pub does_nothing : (P : List Entry → Type 0) (May : Type 0) (id : ℕ) (w : MachineState Entry) → Does P May id w w
does_nothing P May id w = record { log = inl refl; held = λ m h. h }

pub does_one : (P : List Entry → Type 0) → IsClosed P → (May : Type 0) (id : ℕ) (w : MachineState Entry) (move : MachineMove Entry) → IsReached w → IsQuiet move → LogBy id w (after_move w move) → Does P May id w (after_move w move)
does_one P c May id w move r q l = record { log = l; held = λ m h. held_quiet P c w move r q h }

pub like : {P : List Entry → Type 0} {May : Type 0} {id : ℕ} {w : MachineState Entry} {own moves : List (MachineMove Entry)} → own ≡ moves → Does P May id w (after_moves w moves) → Does P May id w (after_moves w own)
like {P} {May} {id} {w} e d = let Q : List (MachineMove Entry) → Type 0 = λ l. Does P May id w (after_moves w l) in subst Q (sym e) d

pub taking : (P : List Entry → Type 0) → IsClosed P → (May : Type 0) (id : ℕ) (w : MachineState Entry) (own : List (MachineMove Entry)) → IsReached w → IsTaking id own → Does P May id w (after_moves w own)
taking P c May id w own r (inl e) = like e (does_nothing P May id w)
taking P c May id w own r (inr (k, inl e)) = like e (does_one P c May id w (Take id k) r tt (log_by id w (Take id k) refl))
taking P c May id w own r (inr (k, inr e)) =
    like e (record {
      log = log_ready w (after_move w (Take id k)) id (log_by id w (Take id k) refl);
      held = λ m h. held_quiet P c (after_move w (Take id k)) (Become_ready id) (reached_run r (Take id k ∷ [])) tt (held_quiet P c w (Take id k) r tt h);
    })

-- messages are taken one after the other
held_takes : (P : List Entry → Type 0) → IsClosed P → (w : MachineState Entry) (id : ℕ) (which : List ℕ) → IsReached w → Held P w → Held P (after_moves w (map (Take id) which))
held_takes P c w id [] r h = h
held_takes P c w id (k ∷ ks) r h = held_takes P c (after_move w (Take id k)) id ks (reached_run r (Take id k ∷ [])) (held_quiet P c w (Take id k) r tt h)

pub taking_all : (P : List Entry → Type 0) → IsClosed P → (May : Type 0) (id : ℕ) (w : MachineState Entry) (own : List (MachineMove Entry)) → IsReached w → IsTakingAll id own → Does P May id w (after_moves w own)
taking_all P c May id w own r (inl e) = like e (does_nothing P May id w)
taking_all P c May id w own r (inr (k, ks, inl e)) = like e (record { log = log_takes w id (k ∷ ks); held = λ m h. held_takes P c w id (k ∷ ks) r h })
taking_all P c May id w own r (inr (k, ks, inr e)) =
    let takes : List (MachineMove Entry) = map (Take id) (k ∷ ks) in
    let u : MachineState Entry = after_moves w takes in
    let D : MachineState Entry → Type 0 = λ v. Does P May id w v in
    like e (subst D (sym (after_moves-append takes (Become_ready id ∷ []) w)) (record {
      log = log_ready w u id (log_takes w id (k ∷ ks));
      held = λ m h. held_quiet P c u (Become_ready id) (reached_run r takes) tt (held_takes P c w id (k ∷ ks) r h);
    }))

pub hearing : (P : List Entry → Type 0) → IsClosed P → (May : Type 0) (id : ℕ) (w : MachineState Entry) (own : List (MachineMove Entry)) → IsReached w → IsHearing id own → Does P May id w (after_moves w own)
hearing P c May id w own r (inl e) = like e (does_nothing P May id w)
hearing P c May id w own r (inr (k, e)) = like e (does_one P c May id w (Take id k) r tt (log_by id w (Take id k) refl))

pub adopting : (P : List Entry → Type 0) → IsClosed P → (May : Type 0) (id epoch : ℕ) (w : MachineState Entry) (own : List (MachineMove Entry)) → IsReached w → IsAdopting id epoch own → Does P May id w (after_moves w own)
adopting P c May id epoch w own r (inl e) = like e (does_nothing P May id w)
adopting P c May id epoch w own r (inr e) = like e (does_one P c May id w (Adopt id epoch) r tt (log_by id w (Adopt id epoch) refl))
