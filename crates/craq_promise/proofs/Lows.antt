-- No reply of a node has a later version than the node holds.
use Rattle.std.proofs.Common.{◌≡◌, ⊎_elim, ℕ, ◌+◌, ◌≤◌, List, [], ◌∷◌, ◌++◌, filter_map, length, take, find, Some, refl, ap, sym, subst, ◌∙◌, arith, take-take}
use Rattle.std.proofs.lemmas.List.Elements.{filter_map-append}
use Rattle.std.proofs.lemmas.List.{map-append}
use Rattle.std.proofs.Math.Seq.{take-length}
use Rattle.craq_names.specs.declared.name.ObjectId.{ObjectId}
use Rattle.craq_commands.specs.declared.command.Update.{Update}
use Rattle.craq_commands.specs.declared.entry.Entry.{Entry}
use Rattle.craq_commands.specs.declared.read_mode.ReadMode.{ReadMode}
use Rattle.craq_commands.specs.declared.read_mode.ReadMode.TheVariants.{Strong, Eventual, Bounded}
use Rattle.craq_commands.specs.declared.reply.Reply.{Reply}
use Rattle.craq_commands.specs.declared.reply.Reply.TheVariants.{Written}
use Rattle.craq_commands.specs.Objects.{version_of}
use Rattle.craq_commands.specs.declared.state.State.{State}
use Rattle.craq_commands.specs.SingleCopy.{opening_state, window_of, after_entry, after_entries}
use Rattle.craq_model.specs.declared.ask.Ask.{Ask}
use Rattle.craq_model.specs.declared.ask.Ask.TheVariants as asks
use Rattle.craq_model.specs.declared.ask.Answer.{Answer}
use Rattle.craq_model.specs.declared.ask.Answer.TheVariants as answers
use Rattle.craq_laws.proofs.Histories.{opening_rises}
use Rattle.craq_protocol.specs.Machine.{MachineState}
use Rattle.craq_protocol.specs.Promises.{IsPrefix, IsSafe, Later}
use Rattle.craq_protocol.proofs.Prefix.{prefix_take, prefix_length}
use Rattle.craq_protocol.proofs.Reached.{reached_safe}
use Rattle.craq_runs.specs.Seen.{Asked, Answered, ask_with, update_at}
use Rattle.craq_runs.specs.Explain.{Account, ask_number}
use Rattle.craq_runs.specs.Valid.{same_request, single_object}
use Rattle.craq_updates.specs.ValidEntries.{IsValidEntry, AllValid}
use Rattle.craq_updates.proofs.Found.{IsNumbered, find_left}
use Rattle.craq_updates.proofs.Entries.{StaysAsked, valid_closed}
use Rattle.craq_updates.proofs.Updates.{numbers_of, updates_of, updates_cons}
use Rattle.craq_updates.proofs.Known.{Known}
use Rattle.craq_strong_answers.proofs.Stands.{state_after, UpdateReported, Owed, IsAnswer}
use Rattle.craq_strong_answers.proofs.Stays.{GoesOn, state_stays}
use Rattle.craq_strong_answers.proofs.Versions.{no_older_prefix, version_rises}
use Rattle.craq_strong_answers.proofs.Nodes.{version_after, rises_between}
use Rattle.craq_promise.proofs.Writes.{Has, IsReplyOf, reply_of, said_kept}

-- ---- the updates of longer lists

pub updates_stay : (asked more : List Asked) → StaysAsked asked more → (s : State) (es : List Entry) → IsNumbered asked → IsNumbered more → AllValid asked s es → updates_of more es ≡ updates_of asked es
updates_stay asked more f s [] n m g = refl
updates_stay asked more f s (e ∷ es) n m g =
    let o : IsValidEntry asked s e = g.0 in
    let h : IsValidEntry more s e = record {
      update = o.update;
      by = record { ask = o.by.ask; is_ask = f e.origin_node e.origin_ticket o.by.ask o.by.is_ask; is = o.by.is; client = o.by.client; number = o.by.number };
      new = o.new;
      reply = o.reply;
      writes = o.writes;
      once = o.once;
      applied = o.applied;
    } in
    updates_cons more s e es m h ∙ (ap (λ l. o.update ∷ l) (updates_stay asked more f (after_entry s e) es n m g.1) ∙ sym (updates_cons asked s e es n o))

updates_append : (asked : List Asked) (xs ys : List Entry) → updates_of asked (xs ++ ys) ≡ updates_of asked xs ++ updates_of asked ys
updates_append asked xs ys = ap (filter_map (update_at asked)) (map-append (ask_number asked) xs ys) ∙ filter_map-append (update_at asked) (numbers_of asked xs) (numbers_of asked ys)

found_longer : (asked : List Asked) (xs ys : List Entry) (u g : Update) → IsPrefix xs ys → find (same_request u) (updates_of asked xs) ≡ Some g → find (same_request u) (updates_of asked ys) ≡ Some g
found_longer asked xs ys u g p h =
    ap (find (same_request u)) (ap (updates_of asked) (sym p.is) ∙ updates_append asked xs p.rest) ∙ find_left (same_request u) (updates_of asked xs) (updates_of asked p.rest) g h

-- the committed update of a request
abbrev pub CommittedAs : Account → Update → Update → Type 0
CommittedAs a u g = find (same_request u) (updates_of a.asks a.committed) ≡ Some g

pub committed_stays : {a b : Account} {w v : MachineState Entry} → Known a w → Known b v → GoesOn a b w v → IsPrefix a.committed b.committed → (u g : Update) → CommittedAs a u g → CommittedAs b u g
committed_stays {a} {b} {w} {v} k n g p u x h =
    let P : List Entry → Type 0 = λ l. AllValid a.asks opening_state l in
    let held : _ = k.held in
    let same : updates_of b.asks a.committed ≡ updates_of a.asks a.committed = updates_stay a.asks b.asks g.stay opening_state a.committed k.numbered n.numbered (subst P (sym k.committed) held.log) in
    found_longer b.asks a.committed b.committed u x p (ap (find (same_request u)) same ∙ h)

-- ---- the versions in a reply, against those that its node holds

-- the object's newest version at a node, and its version among the entries that the node knows to
-- be committed
abbrev pub newest_at : MachineState Entry → ℕ → List ℕ → ℕ
newest_at w id key = version_of (after_entries opening_state (w.history id)).objects key

abbrev pub clean_at : MachineState Entry → ℕ → List ℕ → ℕ
clean_at w id key = version_after (w.history id) key (w.acknowledged id)

-- a bounded reply is from a prefix, near to the clean version
pub record IsNear (w : MachineState Entry) (id j : ℕ) (key : List ℕ) (version : ℕ) : Type 0 where
  pub count : ℕ
  pub short : count ≤ length (w.history id)
  pub is : version_after (w.history id) key count ≡ version
  pub near : version ≤ clean_at w id key + j

pub record LowRead (w : MachineState Entry) (id : ℕ) (mode : ReadMode) (key : List ℕ) (version : ℕ) : Type 0 where
  pub whole : version ≤ newest_at w id key
  pub near : (j : ℕ) → mode ≡ Bounded j → IsNear w id j key version

pub record LowWrite (a : Account) (w : MachineState Entry) (id : ℕ) (u : Update) (version : ℕ) : Type 0 where
  pub update : Update
  pub found : CommittedAs a u update
  pub low : (o : ObjectId) → single_object update.command ≡ Some o → version ≤ clean_at w id o.key

abbrev pub LowBy : Account → MachineState Entry → ℕ → Ask → Answer → Type 0
LowBy a w id (asks.Read mode object) (answers.Read version value) = LowRead w id mode object.key version
LowBy a w id (asks.Update u) (answers.Update reply) = (version : ℕ) → reply ≡ Written version → LowWrite a w id u version
LowBy a w id (asks.Read mode object) (answers.Update reply) = ⊥
LowBy a w id (asks.Update u) (answers.Read version value) = ⊥

pub record Low (a : Account) (w : MachineState Entry) (y : Answered) : Type 0 where
  pub ask : Asked
  pub is_ask : ask_with a.asks y.node y.ticket ≡ Some ask
  pub low : LowBy a w y.node ask.ask y.answer

-- ---- it stays true

whole_take : (h : List Entry) (key : List ℕ) → version_after h key (length h) ≡ version_of (after_entries opening_state h).objects key
whole_take h key = ap (λ l. version_of (after_entries opening_state l).objects key) (take-length h)

pub newest_rises : (b : Account) (w v : MachineState Entry) → Known b v → Later w v → (id : ℕ) (key : List ℕ) → newest_at w id key ≤ newest_at v id key
newest_rises b w v n l id key =
    let held : _ = n.held in
    version_rises (after_entries opening_state (w.history id)).objects (after_entries opening_state (v.history id)).objects key
    (no_older_prefix b.asks (w.history id) (v.history id) key n.numbered (held.histories id) (l.history id))

pub clean_rises : (a b : Account) (w v : MachineState Entry) → Known a w → Known b v → Later w v → (id : ℕ) (key : List ℕ) → clean_at w id key ≤ clean_at v id key
clean_rises a b w v k n l id key =
    let held : _ = n.held in
    let s : IsSafe w = reached_safe k.reached in
    let known : w.acknowledged id ≤ length (w.history id) = (s.acknowledged id).0 in
    let same : version_after (v.history id) key (w.acknowledged id) ≡ clean_at w id key = ap (λ (s : State). version_of s.objects key) (state_stays (w.acknowledged id) (w.history id) (v.history id) (l.history id) known) in
    let up : version_after (v.history id) key (w.acknowledged id) ≤ clean_at v id key = rises_between b.asks (v.history id) key (w.acknowledged id) (v.acknowledged id) n.numbered (held.histories id) (l.acknowledged id) in
    omega (arith, same, up)

low_by_stays : (a b : Account) (w v : MachineState Entry) → Known a w → Known b v → GoesOn a b w v → IsPrefix a.committed b.committed → (id : ℕ) (ask : Ask) (answer : Answer) → LowBy a w id ask answer → LowBy b v id ask answer
low_by_stays a b w v k n g p id (asks.Read mode object) (answers.Read version value) h =
    let l : Later w v = g.later in
    record {
      whole = omega (arith, h.whole, newest_rises b w v n l id object.key);
      near = λ j is.
          let i : IsNear w id j object.key version = h.near j is in
          record {
            count = i.count;
            short = omega (arith, i.short, prefix_length (l.history id));
            is = ap (λ (s : State). version_of s.objects object.key) (state_stays i.count (w.history id) (v.history id) (l.history id) i.short) ∙ i.is;
            near = omega (arith, i.near, clean_rises a b w v k n l id object.key);
          };
    }
low_by_stays a b w v k n g p id (asks.Update u) (answers.Update reply) h =
    λ version is.
    let i : LowWrite a w id u version = h version is in
    record {
      update = i.update;
      found = committed_stays k n g p u i.update i.found;
      low = λ o single. omega (arith, i.low o single, clean_rises a b w v k n g.later id o.key);
    }
low_by_stays a b w v k n g p id (asks.Read mode object) (answers.Update reply) h = absurd h
low_by_stays a b w v k n g p id (asks.Update u) (answers.Read version value) h = absurd h

pub low_stays : (a b : Account) (w v : MachineState Entry) → Known a w → Known b v → GoesOn a b w v → IsPrefix a.committed b.committed → (y : Answered) → Low a w y → Low b v y
low_stays a b w v k n g p y h = record { ask = h.ask; is_ask = g.stay y.node y.ticket h.ask h.is_ask; low = low_by_stays a b w v k n g p y.node h.ask.ask y.answer h.low }

-- ---- a new reply

pub clean_whole : (b : Account) (v : MachineState Entry) → Known b v → (id : ℕ) (key : List ℕ) → clean_at v id key ≤ newest_at v id key
clean_whole b v n id key =
    let held : _ = n.held in
    version_rises (state_after (v.acknowledged id) (v.history id)).objects (after_entries opening_state (v.history id)).objects key
    (no_older_prefix b.asks (take (v.acknowledged id) (v.history id)) (v.history id) key n.numbered (held.histories id) (prefix_take (v.acknowledged id) (v.history id)))

beginning_whole : (b : Account) (v : MachineState Entry) → Known b v → (id count : ℕ) (key : List ℕ) → version_after (v.history id) key count ≤ newest_at v id key
beginning_whole b v n id count key =
    let held : _ = n.held in
    version_rises (state_after count (v.history id)).objects (after_entries opening_state (v.history id)).objects key
    (no_older_prefix b.asks (take count (v.history id)) (v.history id) key n.numbered (held.histories id) (prefix_take count (v.history id)))

-- nothing is kept at first
nothing_kept : (number version client : ℕ) → Has (number, Written version) (window_of opening_state client) → ⊥
unfolding window_of
nothing_kept number version client h = h

low_update : (b : Account) (v : MachineState Entry) (id ticket : ℕ) (ask : Asked) (u : Update) (reply : Reply) → Known b v → UpdateReported b v id ticket ask u reply → (version : ℕ) → reply ≡ Written version → LowWrite b v id u version
low_update b v id ticket ask u reply n t version is =
    let held : _ = n.held in
    let h : List Entry = v.history id in
    let s : IsSafe v = reached_safe n.reached in
    let part : AllValid b.asks opening_state (take t.known h) = valid_closed b.asks opening_state (take t.known h) h (prefix_take t.known h) (held.histories id) in
    let kept : Has (u.number, Written version) (window_of (state_after t.known h) u.client) = said_kept (window_of (state_after t.known h) u.client) u.number version (t.is_known ∙ ap (λ r. Some r) is) in
    let r : IsReplyOf b.asks opening_state (take t.known h) u (Written version) =
    ⊎_elim (λ e. absurd (nothing_kept u.number version u.client e)) (λ r. r) (reply_of b.asks opening_state (take t.known h) u (Written version) opening_rises n.numbered part kept) in
    let a : _ = s.acknowledged id in
    let within : t.known ≤ length v.log = omega (arith, t.acknowledged, a.1) in
    let same : take t.known h ≡ take t.known v.log = sym (take-take t.known (v.acknowledged id) h t.acknowledged) ∙ (ap (take t.known) a.2 ∙ take-take t.known (v.acknowledged id) v.log t.acknowledged) in
    let Q : List Entry → Type 0 = λ l. IsPrefix l b.committed in
    let R : List Entry → Type 0 = λ l. IsPrefix (take t.known v.log) l in
    let prefix : IsPrefix (take t.known h) b.committed = subst Q (sym same) (subst R (sym n.committed) (prefix_take t.known v.log)) in
    record {
      update = r.update;
      found = found_longer b.asks (take t.known h) b.committed u r.update prefix r.found;
      low = λ o single. omega (arith, r.low o version single refl, rises_between b.asks h o.key t.known (v.acknowledged id) n.numbered (held.histories id) t.acknowledged);
    }

low_owed : (b : Account) (v : MachineState Entry) (position : List ℕ → ℕ) (id ticket : ℕ) (ask : Asked) (kind : Ask) (answer : Answer) → Known b v → Owed b v position id ticket ask kind answer → LowBy b v id kind answer
low_owed b v position id ticket ask (asks.Update u) (answers.Update reply) n o = low_update b v id ticket ask u reply n o
low_owed b v position id ticket ask (asks.Update u) (answers.Read version value) n o = absurd o
low_owed b v position id ticket ask (asks.Read Strong object) (answers.Update reply) n o = absurd o
low_owed b v position id ticket ask (asks.Read Eventual object) (answers.Update reply) n o = absurd o
low_owed b v position id ticket ask (asks.Read (Bounded k) object) (answers.Update reply) n o = absurd o
low_owed b v position id ticket ask (asks.Read Strong object) (answers.Read version value) n o =
    let is : version_after v.log object.key (position object.key) ≡ version = ap (λ (x : ℕ × List ℕ). x.0) o.is_said in
    let same : version_after (v.history id) object.key (position object.key) ≡ version_after v.log object.key (position object.key) = ap (λ (s : State). version_of s.objects object.key) (state_stays (position object.key) v.log (v.history id) o.begins o.not_beyond) in
    record { whole = omega (arith, is, same, beginning_whole b v n id (position object.key) object.key); near = λ j e. absurd (cc) }
low_owed b v position id ticket ask (asks.Read Eventual object) (answers.Read version value) n o =
    let is : newest_at v id object.key ≡ version = ap (λ (x : ℕ × List ℕ). x.0) o.is_said in
    record { whole = omega (arith, is); near = λ j e. absurd (cc) }
low_owed b v position id ticket ask (asks.Read (Bounded k) object) (answers.Read version value) n o =
    let is : version_after (v.history id) object.key o.count ≡ version = ap (λ (x : ℕ × List ℕ). x.0) o.is_said in
    record {
      whole = omega (arith, is, beginning_whole b v n id o.count object.key);
      near = λ j e. let same : k ≡ j = bound_same k j e in record { count = o.count; short = o.short; is = is; near = omega (arith, o.near_clean, same) };
    }
  where
    bound_same : (k j : ℕ) → Bounded k ≡ Bounded j → k ≡ j
    bound_same k j e = cc

pub low_answer : (b : Account) (v : MachineState Entry) (position : List ℕ → ℕ) (number id ticket : ℕ) (answer : Answer) → Known b v → IsAnswer b v position id ticket answer → Low b v (record { move = number; node = id; ticket = ticket; answer = answer })
low_answer b v position number id ticket answer n a = record { ask = a.ask; is_ask = a.is_ask; low = low_owed b v position id ticket a.ask a.ask.ask answer n a.owed }
