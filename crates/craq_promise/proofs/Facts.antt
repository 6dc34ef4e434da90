-- Eventual and bounded replies, each against the earlier replies of its node.
use Rattle.std.proofs.Common.{◌≡◌, ◌⊎◌, ⊎_elim, ℕ, ◌+◌, ◌≤◌, ◌==◌, Bool, true, ◌&&◌, List, [], ◌∷◌, ◌++◌, length, take, Some, refl, ap, sym, subst, ◌∙◌, arith, append_assoc, append-nil}
use Rattle.std.specs.Prelude.{⊤}
use Rattle.std.specs.List.{AllByRecursion}
use Rattle.std.proofs.lemmas.Bool.{leb-true}
use Rattle.std.proofs.Math.Seq.{take-length}
use Rattle.craq_names.specs.declared.name.ObjectId.{ObjectId}
use Rattle.craq_names.proofs.Lists.{all_append, all_like}
use Rattle.craq_commands.specs.declared.command.Update.{Update}
use Rattle.craq_commands.specs.declared.entry.Entry.{Entry}
use Rattle.craq_commands.specs.declared.read_mode.ReadMode.{ReadMode}
use Rattle.craq_commands.specs.declared.read_mode.ReadMode.TheVariants.{Strong, Eventual, Bounded}
use Rattle.craq_commands.specs.declared.reply.Reply.TheVariants.{Written}
use Rattle.craq_commands.specs.Objects.{object_of, version_of}
use Rattle.craq_commands.specs.declared.state.State.{State}
use Rattle.craq_commands.specs.SingleCopy.{opening_state, after_entry, after_entries}
use Rattle.craq_model.specs.declared.ask.Ask.{Ask}
use Rattle.craq_model.specs.declared.ask.Ask.TheVariants as asks
use Rattle.craq_model.specs.declared.ask.Answer.{Answer}
use Rattle.craq_model.specs.declared.ask.Answer.TheVariants as answers
use Rattle.craq_model.specs.declared.step.Out.{Out}
use Rattle.craq_model.specs.declared.step.Out.TheVariants as outs
use Rattle.craq_protocol.specs.Machine.{MachineState}
use Rattle.craq_protocol.specs.Promises.{IsPrefix}
use Rattle.craq_protocol.proofs.Prefix.{take_prefix}
use Rattle.craq_runs.specs.Seen.{Asked, Answered, ask_with, answers_in}
use Rattle.craq_runs.specs.Explain.{Account}
use Rattle.craq_runs.specs.Valid.{single_object, any_mode, bounded_within}
use Rattle.craq_updates.specs.ValidEntries.{AllValid}
use Rattle.craq_updates.proofs.Found.{find_all}
use Rattle.craq_updates.proofs.Entries.{valid_stays}
use Rattle.craq_updates.proofs.Lens.{AreLens}
use Rattle.craq_updates.proofs.Updates.{numbers_of, number_is, numbers_stay, numbers_length}
use Rattle.craq_updates.proofs.Known.{Known}
use Rattle.craq_strong_answers.proofs.Outs.{AllReported}
use Rattle.craq_strong_answers.proofs.Stands.{state_after, Owed, IsAnswer}
use Rattle.craq_strong_answers.proofs.Stays.{GoesOn}
use Rattle.craq_strong_answers.proofs.Answering.{Answered as IsAnswered, Questions, Versions}
use Rattle.craq_strong_answers.proofs.Nodes.{version_after, rises_between}
use Rattle.craq_strong_answers.proofs.Placed.{after_move}
use Rattle.craq_promise.proofs.Lows.{CommittedAs, committed_stays, LowWrite, LowBy, Low, IsNear, newest_at, clean_at, clean_whole, low_answer}

-- a line of entries at a reply
pub record LineAt (a : Account) (x : Answered) (h : List Entry) : Type 0 where
  pub valid_entry : AllValid a.asks opening_state h
  pub in_time : AllByRecursion (λ k. k ≤ x.move) (numbers_of a.asks h)
  pub begins : IsPrefix (take (after_move a x.move) a.committed) h
  pub moved : x.move ≤ length a.lens

pub record BelowWrite (a : Account) (object : ObjectId) (version : ℕ) (u : Update) (reported : ℕ) : Type 0 where
  pub update : Update
  pub found : CommittedAs a u update
  pub below : (o : ObjectId) → single_object update.command ≡ Some o → o.key ≡ object.key → reported ≤ version

-- the version in a reply about the object is no later
abbrev pub BelowBy : Account → (ReadMode → Bool) → ObjectId → ℕ → Ask → Answer → Type 0
BelowBy a counts object version (asks.Read mode o) (answers.Read reported value) = counts mode ≡ true → o.key ≡ object.key → reported ≤ version
BelowBy a counts object version (asks.Update u) (answers.Update reply) = (reported : ℕ) → reply ≡ Written reported → BelowWrite a object version u reported
BelowBy a counts object version (asks.Read mode o) (answers.Update reply) = ⊤
BelowBy a counts object version (asks.Update u) (answers.Read reported value) = ⊤

pub record Below (a : Account) (counts : ReadMode → Bool) (object : ObjectId) (version : ℕ) (y : Answered) : Type 0 where
  pub ask : Asked
  pub is_ask : ask_with a.asks y.node y.ticket ≡ Some ask
  pub below : BelowBy a counts object version ask.ask y.answer

-- a reply of the node is no later than the version
abbrev pub BelowAt : Account → ℕ → (ReadMode → Bool) → ObjectId → ℕ → Answered → Type 0
BelowAt a node counts object version y = y.node ≡ node → Below a counts object version y

pub record EventualFact (a : Account) (x : Answered) (earlier : List Answered) (object : ObjectId) (version : ℕ) (value : List ℕ) : Type 0 where
  pub line : List Entry
  pub is_line : LineAt a x line
  pub here : object_of (after_entries opening_state line).objects object.key ≡ (version, value)
  pub lows : AllByRecursion (BelowAt a x.node any_mode object version) earlier

pub record BoundedFact (a : Account) (x : Answered) (earlier : List Answered) (k : ℕ) (object : ObjectId) (version : ℕ) (value : List ℕ) : Type 0 where
  pub line : List Entry
  pub is_line : LineAt a x line
  pub count : ℕ
  pub here : object_of (state_after count line).objects object.key ≡ (version, value)
  pub near : version ≤ version_of (state_after (after_move a x.move) a.committed).objects object.key + k
  pub lows : AllByRecursion (BelowAt a x.node (bounded_within k) object version) earlier

abbrev pub LookBy : Account → Answered → List Answered → Ask → Answer → Type 0
LookBy a x earlier (asks.Read Eventual object) (answers.Read version value) = EventualFact a x earlier object version value
LookBy a x earlier (asks.Read (Bounded k) object) (answers.Read version value) = BoundedFact a x earlier k object version value
LookBy a x earlier (asks.Read Strong object) (answers.Read version value) = ⊤
LookBy a x earlier (asks.Read mode object) (answers.Update reply) = ⊤
LookBy a x earlier (asks.Update u) answer = ⊤

pub record ReadFact (a : Account) (x : Answered) (earlier : List Answered) : Type 0 where
  pub ask : Asked
  pub is_ask : ask_with a.asks x.node x.ticket ≡ Some ask
  pub fact : LookBy a x earlier ask.ask x.answer

-- each reply, after those before it
abbrev pub Facts : Account → List Answered → List Answered → Type 0
Facts a earlier [] = ⊤
Facts a earlier (x ∷ xs) = ReadFact a x earlier × Facts a (earlier ++ x ∷ []) xs

pub facts_append : (a : Account) (earlier xs ys : List Answered) → Facts a earlier xs → Facts a (earlier ++ xs) ys → Facts a earlier (xs ++ ys)
facts_append a earlier [] ys f g = let P : List Answered → Type 0 = λ l. Facts a l ys in subst P (append-nil earlier) g
facts_append a earlier (x ∷ xs) ys f g =
    let P : List Answered → Type 0 = λ l. Facts a l ys in
    (f.0, facts_append a (earlier ++ x ∷ []) xs ys f.1 (subst P (sym (append_assoc earlier (x ∷ []) xs)) g))

pub fact_at : (a : Account) (front earlier later : List Answered) (x : Answered) → Facts a front (earlier ++ x ∷ later) → ReadFact a x (front ++ earlier)
fact_at a front [] later x f = let P : List Answered → Type 0 = λ l. ReadFact a x l in subst P (sym (append-nil front)) f.0
fact_at a front (y ∷ earlier) later x f = let P : List Answered → Type 0 = λ l. ReadFact a x l in subst P (append_assoc front (y ∷ []) earlier) (fact_at a (front ++ y ∷ []) earlier later x f.1)

-- ---- earlier claims stay true

below_by_stays : (a b : Account) (w v : MachineState Entry) → Known a w → Known b v → GoesOn a b w v → IsPrefix a.committed b.committed → (counts : ReadMode → Bool) (object : ObjectId) (version : ℕ) (ask : Ask) (answer : Answer)
    → BelowBy a counts object version ask answer → BelowBy b counts object version ask answer
below_by_stays a b w v k n g p counts object version (asks.Read mode o) (answers.Read reported value) h = h
below_by_stays a b w v k n g p counts object version (asks.Update u) (answers.Update reply) h =
    λ reported is. let i : BelowWrite a object version u reported = h reported is in record { update = i.update; found = committed_stays k n g p u i.update i.found; below = i.below }
below_by_stays a b w v k n g p counts object version (asks.Read mode o) (answers.Update reply) h = tt
below_by_stays a b w v k n g p counts object version (asks.Update u) (answers.Read reported value) h = tt

belows_stay : (a b : Account) (w v : MachineState Entry) → Known a w → Known b v → GoesOn a b w v → IsPrefix a.committed b.committed → (node : ℕ) (counts : ReadMode → Bool) (object : ObjectId) (version : ℕ) (ys : List Answered)
    → AllByRecursion (BelowAt a node counts object version) ys → AllByRecursion (BelowAt b node counts object version) ys
belows_stay a b w v k n g p node counts object version ys h =
    all_like (BelowAt a node counts object version) (BelowAt b node counts object version) ys
    (λ y f same. let i : Below a counts object version y = f same in record { ask = i.ask; is_ask = g.stay y.node y.ticket i.ask i.is_ask; below = below_by_stays a b w v k n g p counts object version i.ask.ask y.answer i.below }) h

-- the first that were committed by then
taken_stays : (a b : Account) (w v : MachineState Entry) → Known a w → GoesOn a b w v → IsPrefix a.committed b.committed → (move : ℕ) → move ≤ length a.lens → take (after_move b move) b.committed ≡ take (after_move a move) a.committed
taken_stays a b w v k g p move le =
    let l : AreLens a.chain.moves a.lens (numbers_of a.asks a.committed) = k.lens in
    ap (λ j. take j b.committed) (g.lens move le) ∙ take_prefix (after_move a move) p (omega (arith, l.within move, numbers_length a.asks a.committed))

line_stays : (a b : Account) (w v : MachineState Entry) → Known a w → GoesOn a b w v → IsPrefix a.committed b.committed → (x : Answered) (h : List Entry) → LineAt a x h → LineAt b x h
line_stays a b w v k g p x h l =
    let N : List ℕ → Type 0 = λ ns. AllByRecursion (λ k. k ≤ x.move) ns in
    let P : List Entry → Type 0 = λ es. IsPrefix es h in
    record {
      valid_entry = valid_stays a.asks b.asks g.stay opening_state h l.valid_entry;
      in_time = subst N (sym (numbers_stay a.asks b.asks g.stay opening_state h l.valid_entry)) l.in_time;
      begins = subst P (sym (taken_stays a b w v k g p x.move l.moved)) l.begins;
      moved = omega (arith, l.moved, g.longer);
    }

look_by_stays : (a b : Account) (w v : MachineState Entry) → Known a w → Known b v → GoesOn a b w v → IsPrefix a.committed b.committed → (x : Answered) (earlier : List Answered) (ask : Ask) (answer : Answer) → LookBy a x earlier ask answer → LookBy b x earlier ask answer
look_by_stays a b w v k n g p x earlier (asks.Read Eventual object) (answers.Read version value) f = record {
  line = f.line;
  is_line = line_stays a b w v k g p x f.line f.is_line;
  here = f.here;
  lows = belows_stay a b w v k n g p x.node any_mode object version earlier f.lows;
}
look_by_stays a b w v k n g p x earlier (asks.Read (Bounded j) object) (answers.Read version value) f =
    let l : LineAt a x f.line = f.is_line in
    let V : List Entry → ℕ = λ es. version_of (after_entries opening_state es).objects object.key in
    let same : V (take (after_move b x.move) b.committed) ≡ V (take (after_move a x.move) a.committed) = ap V (taken_stays a b w v k g p x.move l.moved) in
    record {
      line = f.line;
      is_line = line_stays a b w v k g p x f.line l;
      count = f.count;
      here = f.here;
      near = omega (arith, f.near, same);
      lows = belows_stay a b w v k n g p x.node (bounded_within j) object version earlier f.lows;
    }
look_by_stays a b w v k n g p x earlier (asks.Read Strong object) (answers.Read version value) f = tt
look_by_stays a b w v k n g p x earlier (asks.Read Strong object) (answers.Update reply) f = tt
look_by_stays a b w v k n g p x earlier (asks.Read Eventual object) (answers.Update reply) f = tt
look_by_stays a b w v k n g p x earlier (asks.Read (Bounded j) object) (answers.Update reply) f = tt
look_by_stays a b w v k n g p x earlier (asks.Update u) (answers.Update reply) f = tt
look_by_stays a b w v k n g p x earlier (asks.Update u) (answers.Read version value) f = tt

pub facts_stay : (a b : Account) (w v : MachineState Entry) → Known a w → Known b v → GoesOn a b w v → IsPrefix a.committed b.committed → (earlier xs : List Answered) → Facts a earlier xs → Facts b earlier xs
facts_stay a b w v k n g p earlier [] f = tt
facts_stay a b w v k n g p earlier (x ∷ xs) f =
    let l : ReadFact a x earlier = f.0 in
    (record { ask = l.ask; is_ask = g.stay x.node x.ticket l.ask l.is_ask; fact = look_by_stays a b w v k n g p x earlier l.ask.ask x.answer l.fact }, facts_stay a b w v k n g p (earlier ++ x ∷ []) xs f.1)

-- ---- a new reply

-- a later read is not below the earlier replies
below_eventual : (b : Account) (v : MachineState Entry) → Known b v → (object : ObjectId) (version node : ℕ) → newest_at v node object.key ≡ version → (ask : Ask) (answer : Answer) → LowBy b v node ask answer → BelowBy b any_mode object version ask answer
below_eventual b v n object version node is (asks.Read mode o) (answers.Read reported value) l =
    λ c same. let e : newest_at v node o.key ≡ newest_at v node object.key = ap (newest_at v node) same in omega (arith, l.whole, e, is)
below_eventual b v n object version node is (asks.Update u) (answers.Update reply) l =
    λ reported w. let i : LowWrite b v node u reported = l reported w in
    record { update = i.update; found = i.found; below = λ o single same. let e : newest_at v node o.key ≡ newest_at v node object.key = ap (newest_at v node) same in omega (arith, i.low o single, clean_whole b v n node o.key, e, is) }
below_eventual b v n object version node is (asks.Read mode o) (answers.Update reply) l = tt
below_eventual b v n object version node is (asks.Update u) (answers.Read reported value) l = tt

-- the version is the newest that a bounded read may return at the node
pub record IsMost (v : MachineState Entry) (node k : ℕ) (key : List ℕ) (version : ℕ) : Type 0 where
  pub most : (c : ℕ) → v.acknowledged node ≤ c → version_after (v.history node) key c ≤ clean_at v node key + k → version_after (v.history node) key c ≤ version

below_bounded : (b : Account) (v : MachineState Entry) → Known b v → (object : ObjectId) (k version node : ℕ) → IsMost v node k object.key version → (ask : Ask) (answer : Answer) → LowBy b v node ask answer → BelowBy b (bounded_within k) object version ask answer
below_bounded b v n object k version node m (asks.Update u) (answers.Update reply) l =
    λ reported w. let i : LowWrite b v node u reported = l reported w in
    record { update = i.update; found = i.found; below = λ o single same. let e : clean_at v node o.key ≡ clean_at v node object.key = ap (clean_at v node) same in omega (arith, i.low o single, e, m.most (v.acknowledged node) (omega arith) (omega arith)) }
below_bounded b v n object k version node m (asks.Read Strong o) (answers.Read reported value) l = λ c same. absurd (cc)
below_bounded b v n object k version node m (asks.Read Eventual o) (answers.Read reported value) l = λ c same. absurd (cc)
below_bounded b v n object k version node m (asks.Read (Bounded j) o) (answers.Read reported value) l =
    λ c same.
    let less : j ≤ k = leb-true j k c in
    let i : IsNear v node j o.key reported = l.near j refl in
    let h : List Entry = v.history node in
    let at : version_after h o.key i.count ≡ version_after h object.key i.count = ap (λ key. version_after h key i.count) same in
    let e : clean_at v node o.key ≡ clean_at v node object.key = ap (clean_at v node) same in
    let held : _ = n.held in
    ⊎_elim
    (λ (after : v.acknowledged node ≤ i.count). omega (arith, i.is, at, m.most i.count after (omega (arith, at, i.is, i.near, e, less))))
    (λ (before : i.count ≤ v.acknowledged node).
    omega (arith, i.is, at, rises_between b.asks h object.key i.count (v.acknowledged node) n.numbered (held.histories node) before, m.most (v.acknowledged node) (omega arith) (omega arith)))
    (either (v.acknowledged node) i.count)
  where
    either : (i j : ℕ) → (i ≤ j) ⊎ (j ≤ i)
    either i j = grind arith
below_bounded b v n object k version node m (asks.Read mode o) (answers.Update reply) l = tt
below_bounded b v n object k version node m (asks.Update u) (answers.Read reported value) l = tt

belows : (b : Account) (v : MachineState Entry) (node : ℕ) (counts : ReadMode → Bool) (object : ObjectId) (version : ℕ) (ys : List Answered) → ((ask : Ask) (answer : Answer) → LowBy b v node ask answer → BelowBy b counts object version ask answer)
    → AllByRecursion (Low b v) ys → AllByRecursion (BelowAt b node counts object version) ys
belows b v node counts object version ys f h =
    all_like (Low b v) (BelowAt b node counts object version) ys
    (λ y l same. let P : ℕ → Type 0 = λ j. LowBy b v j l.ask.ask y.answer in record { ask = l.ask; is_ask = l.is_ask; below = f l.ask.ask y.answer (subst P same l.low) }) h

asked_by : (asked : List Asked) (node ticket : ℕ) (ask : Asked) (n : ℕ) → AllByRecursion (λ (y : Asked). y.move ≤ n) asked → ask_with asked node ticket ≡ Some ask → ask.move ≤ n
unfolding ask_with
asked_by asked node ticket ask n below h = find_all (λ (y : Asked). y.move ≤ n) (λ (y : Asked). (y.node == node) && _) asked ask below h

-- the node's history is a line
history_line : (b : Account) (v : MachineState Entry) (x : Answered) → Known b v → x.move ≤ length b.lens → after_move b x.move ≡ length v.log → AllByRecursion (λ (y : Asked). y.move ≤ x.move) b.asks → (id : ℕ) → IsPrefix v.log (v.history id) → LineAt b x (v.history id)
history_line b v x n moved last below id l =
    let held : _ = n.held in
    let P : List Entry → Type 0 = λ es. IsPrefix es (v.history id) in
    let all : take (after_move b x.move) b.committed ≡ v.log = (λ i. take (last i) (n.committed i)) ∙ take-length v.log in
    record { valid_entry = held.histories id; in_time = numbered (v.history id) opening_state (held.histories id); begins = subst P (sym all) l; moved = moved }
  where
    numbered : (es : List Entry) (s : State) → AllValid b.asks s es → AllByRecursion (λ k. k ≤ x.move) (numbers_of b.asks es)
    numbered [] s g = tt
    numbered (e ∷ es) s g =
        let one : g.0.by.ask.move ≤ x.move = asked_by b.asks e.origin_node e.origin_ticket g.0.by.ask x.move below g.0.by.is_ask in
        (omega (arith, number_is b.asks s e g.0, one), numbered es (after_entry s e) g.1)

look_owed : (b : Account) (v : MachineState Entry) (position : List ℕ → ℕ) (number id ticket : ℕ) (answer : Answer) (earlier : List Answered) (ask : Asked) (kind : Ask) → Known b v → number ≤ length b.lens → after_move b number ≡ length v.log
    → AllByRecursion (λ (y : Asked). y.move ≤ number) b.asks → AllByRecursion (Low b v) earlier → Owed b v position id ticket ask kind answer
    → LookBy b (record { move = number; node = id; ticket = ticket; answer = answer }) earlier kind answer
look_owed b v position number id ticket (answers.Read version value) earlier ask (asks.Read Eventual object) n moved last below lows o =
    let x : Answered = record { move = number; node = id; ticket = ticket; answer = answers.Read version value } in
    record {
      line = v.history id;
      is_line = history_line b v x n moved last below id o.begins;
      here = o.is_said;
      lows = belows b v id any_mode object version earlier (λ k y l. below_eventual b v n object version id (ap (λ (p : ℕ × List ℕ). p.0) o.is_said) k y l) lows;
    }
look_owed b v position number id ticket (answers.Read version value) earlier ask (asks.Read (Bounded k) object) n moved last below lows o =
    let x : Answered = record { move = number; node = id; ticket = ticket; answer = answers.Read version value } in
    let V : List Entry → ℕ = λ es. version_of (after_entries opening_state es).objects object.key in
    let whole : V (take (after_move b number) b.committed) ≡ V v.log = ap V ((λ i. take (last i) (n.committed i)) ∙ take-length v.log) in
    record {
      line = v.history id;
      is_line = history_line b v x n moved last below id o.begins;
      count = o.count;
      here = o.is_said;
      near = omega (arith, o.near, whole);
      lows = belows b v id (bounded_within k) object version earlier (λ q y l. below_bounded b v n object k version id (record { most = o.most }) q y l) lows;
    }
look_owed b v position number id ticket (answers.Read version value) earlier ask (asks.Read Strong object) n moved last below lows o = tt
look_owed b v position number id ticket (answers.Update reply) earlier ask (asks.Read Strong object) n moved last below lows o = tt
look_owed b v position number id ticket (answers.Update reply) earlier ask (asks.Read Eventual object) n moved last below lows o = tt
look_owed b v position number id ticket (answers.Update reply) earlier ask (asks.Read (Bounded k) object) n moved last below lows o = tt
look_owed b v position number id ticket (answers.Update reply) earlier ask (asks.Update u) n moved last below lows o = tt
look_owed b v position number id ticket (answers.Read version value) earlier ask (asks.Update u) n moved last below lows o = tt

pub record NewLooks (b : Account) (v : MachineState Entry) (earlier xs : List Answered) : Type 0 where
  pub lows : AllByRecursion (Low b v) xs
  pub facts : Facts b earlier xs

pub new_looks : (b : Account) (v : MachineState Entry) (position : List ℕ → ℕ) (number id : ℕ) (earlier : List Answered) (os : List Out) → Known b v → number ≤ length b.lens → after_move b number ≡ length v.log
    → AllByRecursion (λ (y : Asked). y.move ≤ number) b.asks → AllByRecursion (Low b v) earlier → AllReported (IsAnswered b v position id) (Questions b) (Versions b v) os → NewLooks b v earlier (answers_in number id os)
unfolding answers_in
new_looks b v position number id earlier [] n moved last below lows t = record { lows = tt; facts = tt }
new_looks b v position number id earlier (outs.Send to m ∷ os) n moved last below lows t = new_looks b v position number id earlier os n moved last below lows t.1
new_looks b v position number id earlier (outs.Answer ticket answer ∷ os) n moved last below lows t =
    let x : Answered = record { move = number; node = id; ticket = ticket; answer = answer } in
    let a : IsAnswer b v position id ticket answer = t.0 in
    let low : Low b v x = low_answer b v position number id ticket answer n a in
    let rest : NewLooks b v (earlier ++ x ∷ []) (answers_in number id os) = new_looks b v position number id (earlier ++ x ∷ []) os n moved last below (all_append (Low b v) earlier (x ∷ []) lows (low, tt)) t.1 in
    record {
      lows = (low, rest.lows);
      facts = (record { ask = a.ask; is_ask = a.is_ask; fact = look_owed b v position number id ticket answer earlier a.ask a.ask.ask n moved last below lows a.owed }, rest.facts);
    }
