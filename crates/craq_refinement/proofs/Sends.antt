-- The protocol allows each message that a node sends.
use Rattle.std.proofs.Common.{◌≡◌, inl, inr, ℕ, ◌≤◌, true, List, [], ◌∷◌, map, length, take, Some, refl, ap, sym, subst, ◌∙◌}
use Rattle.std.specs.List.{AllByRecursion}
use Rattle.craq_names.proofs.Lists.{all_like}
use Rattle.craq_commands.specs.declared.entry.Entry.{Entry}
use Rattle.craq_commands.specs.SingleCopy.{opening_state, after_entries}
use Rattle.craq_model.specs.declared.message.Body.{Body}
use Rattle.craq_model.specs.declared.message.Body.TheVariants as bodies
use Rattle.craq_model.specs.declared.message.LinkMessage.{LinkMessage}
use Rattle.craq_model.specs.declared.message.StatePart.{StatePart}
use Rattle.craq_model.specs.Parts.{part_of}
use Rattle.craq_protocol.specs.Members.{is_next}
use Rattle.craq_protocol.specs.Machine as machine
use Rattle.craq_protocol.specs.Machine.{MachineState, Message, MachineMove, known_membership, entry_at, after_send, after_move, after_moves, Send_entry, Send_ack, Send_copy, Send_floor}
use Rattle.craq_protocol.specs.Promises.{Sent}
use Rattle.craq_protocol.proofs.Effects.{send_entry_does, send_ack_does, send_copy_does, send_floor_does}
use Rattle.craq_protocol.proofs.Reached.{after_moves-append}
use Rattle.craq_refinement.specs.Follows.{IsPlaced, said, BodyFollows, MessageFollows}
use Rattle.craq_refinement.specs.Lines.{moves_of_send, moves_of_sends}
use Rattle.craq_refinement.proofs.Worlds.{part_later}

-- the entry is in the history at its position
abbrev pub IsAt : List Entry → Entry → Type 0
IsAt history e = entry_at history e.position ≡ Some e

-- the part is one of the state after these entries
pub record IsPartAfter (committed : List Entry) (part : StatePart) : Type 0 where
  pub count : length committed ≡ part.position
  pub placed : IsPlaced 0 committed
  pub first : 1 ≤ part.number
  pub last : part.number ≤ part.count
  pub share : part_of part.position (after_entries opening_state committed) part.number ≡ part

-- the node may send this body to that node
abbrev pub BodySendable : MachineState Entry → ℕ → ℕ → Body → Type 0
BodySendable w id to (bodies.Config members) = ⊥
BodySendable w id to (bodies.Entry e) = (is_next (known_membership w id) id to ≡ true) × IsAt (w.history id) e
BodySendable w id to (bodies.Batch es) = (is_next (known_membership w id) id to ≡ true) × ((before : ℕ) × IsPlaced before es) × AllByRecursion (IsAt (w.history id)) es
BodySendable w id to (bodies.Ack position) = (is_next (known_membership w id) to id ≡ true) × (w.acknowledged id ≡ position)
BodySendable w id to (bodies.Copy position state) =
    (is_next (known_membership w id) id to ≡ true) × (length (take (w.acknowledged id) (w.history id)) ≡ position)
    × (after_entries opening_state (take (w.acknowledged id) (w.history id)) ≡ state) × IsPlaced 0 (take (w.acknowledged id) (w.history id))
BodySendable w id to (bodies.Part part) = (is_next (known_membership w id) id to ≡ true) × IsPartAfter (take (w.acknowledged id) (w.history id)) part
BodySendable w id to (bodies.Floor count) = (is_next (known_membership w id) id to ≡ true) × (w.ready id ≡ true) × (length (w.history id) ≡ count)
BodySendable w id to body = Unit {0}

abbrev pub Sendable : MachineState Entry → ℕ → LinkMessage → Type 0
Sendable w id m = (m.sender ≡ id) × (m.epoch ≡ w.epoch id) × BodySendable w id m.receiver m.body

-- messages were sent, and nothing else happened
pub record AfterSends (w : MachineState Entry) (moves : List (MachineMove Entry)) (ms : List LinkMessage) : Type 0 where
  pub messages : List (Message Entry)
  pub is : after_moves w moves ≡ record w { messages = messages }
  pub kept : (m : Message Entry) → Sent w.messages m → Sent messages m
  pub said : AllByRecursion (MessageFollows w.memberships messages) ms

-- one message that does not stand for one of the protocol
nothing_sent : (w : MachineState Entry) (m : LinkMessage) → BodyFollows w.memberships w.messages m.epoch m.sender m.receiver m.body → AfterSends w [] (m ∷ [])
nothing_sent w m b = record { messages = w.messages; is = refl; kept = λ k s. s; said = (b, tt) }

one_sent : (w : MachineState Entry) (id to : ℕ) (b : machine.MachineBody Entry) (move : MachineMove Entry) (m : LinkMessage)
    → after_move w move ≡ after_send w id to b
    → (Sent (said (w.epoch id) id to b ∷ w.messages) (said (w.epoch id) id to b) → BodyFollows w.memberships (said (w.epoch id) id to b ∷ w.messages) m.epoch m.sender m.receiver m.body)
    → AfterSends w (move ∷ []) (m ∷ [])
one_sent w id to b move m e f = record {
  messages = said (w.epoch id) id to b ∷ w.messages;
  is = e;
  kept = λ k s. inr s;
  said = (f (inl refl), tt);
}

-- entries are sent one after the other
record EntriesSent (w : MachineState Entry) (id to : ℕ) (es : List Entry) : Type 0 where
  messages : List (Message Entry)
  is : after_moves w (map (λ (e : Entry). Send_entry id to e.position) es) ≡ record w { messages = messages }
  kept : (m : Message Entry) → Sent w.messages m → Sent messages m
  all : AllByRecursion (λ (e : Entry). Sent messages (said (w.epoch id) id to (machine.Entry e.position e))) es

entries_sent : (es : List Entry) (w : MachineState Entry) (id to : ℕ) → w.running id ≡ true → is_next (known_membership w id) id to ≡ true → AllByRecursion (IsAt (w.history id)) es → EntriesSent w id to es
entries_sent [] w id to u nx a = record { messages = w.messages; is = refl; kept = λ m s. s; all = tt }
entries_sent (e ∷ es) w id to u nx a =
    let first : Message Entry = said (w.epoch id) id to (machine.Entry e.position e) in
    let v : MachineState Entry = record w { messages = first ∷ w.messages } in
    let rest : EntriesSent v id to es = entries_sent es v id to u nx a.1 in
    record {
      messages = rest.messages;
      is = ap (λ (x : MachineState Entry). after_moves x (map (λ (e : Entry). Send_entry id to e.position) es)) (send_entry_does w id to e.position e a.0 u nx) ∙ rest.is;
      kept = λ m s. rest.kept m (inr s);
      all = (rest.kept first (inl refl), rest.all);
    }

sends_one : (w : MachineState Entry) (id : ℕ) → w.running id ≡ true → (m : LinkMessage) → Sendable w id m → AfterSends w (moves_of_send m.sender m.receiver m.body) (m ∷ [])
sends_one w id u m s =
    let P : ℕ → ℕ → Type 0 = λ e from. AfterSends w (moves_of_send from m.receiver m.body) (record m { epoch = e; sender = from } ∷ []) in
    let Q : ℕ → Type 0 = λ e. P e m.sender in
    let R : ℕ → Type 0 = λ from. P (w.epoch id) from in
    subst Q (sym s.1) (subst R (sym s.0) (by_body m m.body s.2))
  where
    by_body : (m : LinkMessage) (b : Body) → BodySendable w id m.receiver b → AfterSends w (moves_of_send id m.receiver b) (record m { epoch = w.epoch id; sender = id; body = b } ∷ [])
    by_body m (bodies.Config members) s = absurd s
    by_body m (bodies.Entry e) s = one_sent w id m.receiver (machine.Entry e.position e) (Send_entry id m.receiver e.position) (record m { epoch = w.epoch id; sender = id; body = bodies.Entry e })
        (send_entry_does w id m.receiver e.position e s.1 u s.0) (λ i. i)
    by_body m (bodies.Ack position) s =
        let b : machine.MachineBody Entry = machine.Ack (w.acknowledged id) in
        one_sent w id m.receiver b (Send_ack id m.receiver) (record m { epoch = w.epoch id; sender = id; body = bodies.Ack position })
        (send_ack_does w id m.receiver u s.0)
        (λ i. let P : ℕ → Type 0 = λ k. Sent (said (w.epoch id) id m.receiver b ∷ w.messages) (said (w.epoch id) id m.receiver (machine.Ack k)) in subst P s.1 i)
    by_body m (bodies.Batch es) s =
        let sent : EntriesSent w id m.receiver es = entries_sent es w id m.receiver u s.0 s.2 in
        record { messages = sent.messages; is = sent.is; kept = sent.kept; said = ((s.1.0, s.1.1, sent.all), tt) }
    by_body m (bodies.Part part) s =
        one_sent w id m.receiver (machine.Copy (take (w.acknowledged id) (w.history id))) (Send_copy id m.receiver) (record m { epoch = w.epoch id; sender = id; body = bodies.Part part })
        (send_copy_does w id m.receiver u s.0)
        (λ i. record { entries = take (w.acknowledged id) (w.history id); count = s.1.count; placed = s.1.placed; first = s.1.first; last = s.1.last; share = s.1.share; sent = i })
    by_body m (bodies.Copy position state) s =
        one_sent w id m.receiver (machine.Copy (take (w.acknowledged id) (w.history id))) (Send_copy id m.receiver) (record m { epoch = w.epoch id; sender = id; body = bodies.Copy position state })
        (send_copy_does w id m.receiver u s.0)
        (λ i. (take (w.acknowledged id) (w.history id), s.1, s.2, s.3, i))
    by_body m (bodies.Floor count) s =
        let b : machine.MachineBody Entry = machine.Floor (length (w.history id)) in
        one_sent w id m.receiver b (Send_floor id m.receiver) (record m { epoch = w.epoch id; sender = id; body = bodies.Floor count })
        (send_floor_does w id m.receiver u s.1 s.0)
        (λ i. let P : ℕ → Type 0 = λ k. Sent (said (w.epoch id) id m.receiver b ∷ w.messages) (said (w.epoch id) id m.receiver (machine.Floor k)) in subst P s.2 i)
    by_body m (bodies.Query ticket key) s = nothing_sent w (record m { epoch = w.epoch id; sender = id; body = bodies.Query ticket key }) tt
    by_body m (bodies.VersionIs ticket version) s = nothing_sent w (record m { epoch = w.epoch id; sender = id; body = bodies.VersionIs ticket version }) tt
    by_body m (bodies.Blank count) s = nothing_sent w (record m { epoch = w.epoch id; sender = id; body = bodies.Blank count }) tt

-- the content of a sent message stays sent
pub body_stays : (cs : List (List ℕ)) (old new : List (Message Entry)) → ((m : Message Entry) → Sent old m → Sent new m) → (epoch from to : ℕ) (b : Body)
    → BodyFollows cs old epoch from to b → BodyFollows cs new epoch from to b
body_stays cs old new f epoch from to (bodies.Config members) a = a
body_stays cs old new f epoch from to (bodies.Entry e) a = f (said epoch from to (machine.Entry e.position e)) a
body_stays cs old new f epoch from to (bodies.Ack position) a = f (said epoch from to (machine.Ack position)) a
body_stays cs old new f epoch from to (bodies.Batch es) a =
    (a.0, a.1, all_like (λ (e : Entry). Sent old (said epoch from to (machine.Entry e.position e))) (λ (e : Entry). Sent new (said epoch from to (machine.Entry e.position e))) es (λ e h. f (said epoch from to (machine.Entry e.position e)) h) a.2)
body_stays cs old new f epoch from to (bodies.Part part) a = part_later old new f epoch from to part a
body_stays cs old new f epoch from to (bodies.Copy position state) a = (a.0, a.1, a.2, a.3, f (said epoch from to (machine.Copy a.0)) a.4)
body_stays cs old new f epoch from to (bodies.Floor count) a = f (said epoch from to (machine.Floor count)) a
body_stays cs old new f epoch from to (bodies.Query ticket key) a = a
body_stays cs old new f epoch from to (bodies.VersionIs ticket version) a = a
body_stays cs old new f epoch from to (bodies.Blank count) a = a

pub sends_all : (ms : List LinkMessage) (w : MachineState Entry) (id : ℕ) → w.running id ≡ true → AllByRecursion (Sendable w id) ms → AfterSends w (moves_of_sends ms) ms
sends_all [] w id u a = record { messages = w.messages; is = refl; kept = λ m s. s; said = tt }
sends_all (m ∷ ms) w id u a =
    let first : AfterSends w (moves_of_send m.sender m.receiver m.body) (m ∷ []) = sends_one w id u m a.0 in
    let v : MachineState Entry = record w { messages = first.messages } in
    let rest : AfterSends v (moves_of_sends ms) ms = sends_all ms v id u a.1 in
    record {
      messages = rest.messages;
      is = after_moves-append (moves_of_send m.sender m.receiver m.body) (moves_of_sends ms) w
          ∙ (ap (λ (x : MachineState Entry). after_moves x (moves_of_sends ms)) first.is ∙ rest.is);
      kept = λ k s. rest.kept k (first.kept k s);
      said = (body_stays w.memberships first.messages rest.messages rest.kept m.epoch m.sender m.receiver m.body first.said.0, rest.said);
    }
