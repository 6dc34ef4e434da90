-- The claims about waiting requests and messages stay true, move by move.
use Rattle.std.proofs.Common.{◌≡◌, inl, inr, ⊎_elim, ℕ, ◌-◌, ◌≤◌, ◌==◌, ◌&&◌, List, [], ◌∷◌, length, slice_index, Some, ap, ◌∙◌, arith}
use Rattle.std.specs.List.{AllByRecursion, AllZip}
use Rattle.craq_commands.specs.declared.entry.Entry.{Entry}
use Rattle.craq_commands.specs.Objects.{version_of}
use Rattle.craq_commands.specs.declared.state.State.{State}
use Rattle.craq_commands.specs.SingleCopy.{opening_state, after_entries, said}
use Rattle.craq_model.specs.declared.message.Body.{Body}
use Rattle.craq_model.specs.declared.message.Body.TheVariants as bodies
use Rattle.craq_model.specs.declared.message.LinkMessage.{LinkMessage}
use Rattle.craq_model.specs.declared.waiting.WaitingUpdate.{WaitingUpdate}
use Rattle.craq_model.specs.declared.waiting.WaitingRead.{WaitingRead}
use Rattle.craq_protocol.specs.Machine.{MachineState}
use Rattle.craq_protocol.specs.Promises.{IsPrefix, Later}
use Rattle.craq_protocol.proofs.Prefix.{take_prefix, prefix_length}
use Rattle.craq_runs.specs.declared.explanation.Place.{Place}
use Rattle.craq_runs.specs.Seen.{Asked, ask_with}
use Rattle.craq_runs.specs.Explain.{Account}
use Rattle.craq_updates.proofs.Found.{find_all}
use Rattle.craq_updates.proofs.Entries.{StaysAsked}
use Rattle.craq_strong_answers.proofs.Outs.{Says}
use Rattle.craq_strong_answers.proofs.Stands.{state_after, before, pending_of, PendingUpdate, AskedRead, PendingRead, ReportedVersion, IsReported}

-- an account goes on: more requests, pending places and lengths
pub record GoesOn (a b : Account) (w v : MachineState Entry) : Type 0 where
  pub stay : StaysAsked a.asks b.asks
  pub in_time : AllByRecursion (λ (x : Asked). x.move ≤ length a.lens) a.asks
  pub pending : (node ticket : ℕ) (p : Place) → pending_of a.pending node ticket ≡ Some p → pending_of b.pending node ticket ≡ Some p
  pub lens : (move : ℕ) → move ≤ length a.lens → slice_index (0 ∷ b.lens) move ≡ slice_index (0 ∷ a.lens) move
  pub longer : length a.lens ≤ length b.lens
  pub later : Later w v

pub asked_in_time : (a : Account) (n node ticket : ℕ) (ask : Asked) → AllByRecursion (λ (x : Asked). x.move ≤ n) a.asks → ask_with a.asks node ticket ≡ Some ask → ask.move ≤ n
unfolding ask_with
asked_in_time a n node ticket ask below h = find_all (λ (x : Asked). x.move ≤ n) (λ (x : Asked). (x.node == node) && _) a.asks ask below h

pub before_stays : {a b : Account} {w v : MachineState Entry} → GoesOn a b w v → (node ticket : ℕ) (ask : Asked) → ask_with a.asks node ticket ≡ Some ask → before b ask ≡ before a ask
before_stays {a} {b} g node ticket ask h =
    let le : ask.move ≤ length a.lens = asked_in_time a (length a.lens) node ticket ask g.in_time h in
    g.lens (ask.move - 1) (omega (arith, le))

-- the state of a common prefix
pub state_stays : (k : ℕ) (xs ys : List Entry) → IsPrefix xs ys → k ≤ length xs → state_after k ys ≡ state_after k xs
state_stays k xs ys p le = ap (after_entries opening_state) (take_prefix k p le)

pub update_stays : {a b : Account} {w v : MachineState Entry} → GoesOn a b w v → (id : ℕ) (u : WaitingUpdate) → PendingUpdate a w id u → PendingUpdate b v id u
update_stays {a} {b} {w} {v} g id u d =
    let l : Later w v = g.later in
    let same : before b d.ask ≡ before a d.ask = before_stays g id u.ticket d.ask d.is_ask in
    record {
      ready = l.ready id d.ready;
      ask = d.ask;
      update = d.update;
      is_ask = g.stay id u.ticket d.ask d.is_ask;
      is = d.is;
      place = d.place;
      pending = g.pending id u.ticket d.place d.pending;
      not_before = omega (arith, same, d.not_before);
      reached = ⊎_elim (λ le. inl le) (λ le. inr (omega (arith, le, prefix_length l.log))) d.reached;
      held = omega (arith, d.held, prefix_length (l.history id));
      is_said = ap (λ (s : State). said s d.update.client d.update.number) (state_stays d.place.position (w.history id) (v.history id) (l.history id) d.held) ∙ d.is_said;
      newest = omega (arith, d.newest, prefix_length (l.history id));
      is_newest = ap (λ (s : State). said s d.update.client d.update.number) (state_stays u.position (w.history id) (v.history id) (l.history id) d.newest) ∙ d.is_newest;
    }

pub asked_stays : {a b : Account} {w v : MachineState Entry} → GoesOn a b w v → (id ticket : ℕ) (key : List ℕ) → AskedRead a id ticket key → AskedRead b id ticket key
asked_stays g id ticket key r = record { ask = r.ask; object = r.object; is_ask = g.stay id ticket r.ask r.is_ask; is = r.is; key_is = r.key_is }

pub read_stays : {a b : Account} {w v : MachineState Entry} → GoesOn a b w v → (id : ℕ) (r : WaitingRead) → PendingRead a w id r → PendingRead b v id r
read_stays {a} {b} {w} {v} g id r d = let l : Later w v = g.later in record { ready = l.ready id d.ready; asked = asked_stays g id r.ticket r.key d.asked }

pub reported_stays : {a b : Account} {w v : MachineState Entry} → GoesOn a b w v → (id ticket version sent : ℕ) → ReportedVersion a w id ticket version sent → ReportedVersion b v id ticket version sent
reported_stays {a} {b} {w} {v} g id ticket version sent t =
    let l : Later w v = g.later in
    let same : before b t.ask ≡ before a t.ask = before_stays g id ticket t.ask t.is_ask in
    record {
      ask = t.ask;
      object = t.object;
      is_ask = g.stay id ticket t.ask t.is_ask;
      is = t.is;
      not_before = omega (arith, same, t.not_before);
      committed = omega (arith, t.committed, prefix_length l.log);
      version_is = ap (λ (s : State). version_of s.objects t.object.key) (state_stays sent w.log v.log l.log t.committed) ∙ t.version_is;
    }

pub message_stays : {a b : Account} {w v : MachineState Entry} → GoesOn a b w v → (m : LinkMessage) (sent : ℕ) → IsReported a w m sent → IsReported b v m sent
message_stays {a} {b} {w} {v} g m sent t = by_body m.body t
  where
    A : Account → MachineState Entry → Body → Type 0
    A a w body = Says (λ sender ticket key. AskedRead a sender ticket key) (λ receiver ticket version. ReportedVersion a w receiver ticket version sent) m.sender m.receiver body

    by_body : (body : Body) → Says (λ sender ticket key. AskedRead a sender ticket key) (λ receiver ticket version. ReportedVersion a w receiver ticket version sent) m.sender m.receiver body → Says (λ sender ticket key. AskedRead b sender ticket key) (λ receiver ticket version. ReportedVersion b v receiver ticket version sent) m.sender m.receiver body
    by_body (bodies.Config members) t = tt
    by_body (bodies.Entry e) t = tt
    by_body (bodies.Ack position) t = tt
    by_body (bodies.Query ticket key) t = asked_stays g m.sender ticket key t
    by_body (bodies.VersionIs ticket version) t = reported_stays g m.receiver ticket version sent t
    by_body (bodies.Blank count) t = tt
    by_body (bodies.Batch es) t = tt
    by_body (bodies.Copy position state) t = tt
    by_body (bodies.Part part) t = tt
    by_body (bodies.Floor count) t = tt

pub messages_stay : {a b : Account} {w v : MachineState Entry} → GoesOn a b w v → (ms : List LinkMessage) (sents : List ℕ) → AllZip (IsReported a w) ms sents → AllZip (IsReported b v) ms sents
messages_stay g [] [] z = tt
messages_stay g [] (s ∷ sents) z = absurd z
messages_stay g (m ∷ ms) [] z = absurd z
messages_stay g (m ∷ ms) (s ∷ sents) z = (message_stays g m s z.0, messages_stay g ms sents z.1)
