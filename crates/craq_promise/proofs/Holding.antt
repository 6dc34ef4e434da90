-- Eventual and bounded replies are correct in each run.
use Rattle.std.proofs.Common.{◌≡◌, ◌⊎◌, inl, inr, ⊎_elim, ℕ, suc, ◌≤◌, ◌==◌, Bool, true, ◌&&◌, List, [], ◌∷◌, ◌++◌, filter_map, take, find, option_and_then, Contains, Option, Some, None, refl, ap, sym, subst, ◌∙◌, arith}
use Rattle.std.specs.List.{AllByRecursion}
use Rattle.std.proofs.lemmas.Bool.{cond_both, and_parts, eqb-true}
use Rattle.std.specs.Cmp.Lexicographic.{bytes_decides}
use Rattle.std.proofs.lemmas.List.Elements.{filter_map-append}
use Rattle.std.proofs.lemmas.List.{map-append}
use Rattle.craq_names.specs.declared.name.ObjectId.{ObjectId}
use Rattle.craq_names.specs.Maps.{same_bytes}
use Rattle.craq_commands.specs.Transaction.{same_object}
use Rattle.craq_commands.specs.declared.command.Update.{Update}
use Rattle.craq_commands.specs.declared.entry.Entry.{Entry}
use Rattle.craq_commands.specs.declared.read_mode.ReadMode.{ReadMode}
use Rattle.craq_commands.specs.declared.read_mode.ReadMode.TheVariants.{Strong, Eventual, Bounded}
use Rattle.craq_commands.specs.declared.reply.Reply.{Reply}
use Rattle.craq_commands.specs.declared.reply.Reply.TheVariants.{Written, Mismatch, TooLong, NotANumber, Overflow, Underflow, Done, CompareFailed, Stale}
use Rattle.craq_commands.specs.Objects.{object_of, version_of}
use Rattle.craq_commands.specs.declared.state.State.{State}
use Rattle.craq_commands.specs.SingleCopy.{opening_state, after, after_entry}
use Rattle.craq_model.specs.declared.ask.Ask.{Ask}
use Rattle.craq_model.specs.declared.ask.Ask.TheVariants as asks
use Rattle.craq_model.specs.declared.ask.Answer.{Answer}
use Rattle.craq_model.specs.declared.ask.Answer.TheVariants as answers
use Rattle.craq_protocol.specs.Machine.{MachineState}
use Rattle.craq_protocol.specs.Promises.{IsPrefix}
use Rattle.craq_protocol.proofs.Prefix.{prefix_take}
use Rattle.craq_runs.specs.declared.run.Run.{Run}
use Rattle.craq_runs.specs.Seen.{Seen, Asked, Answered, answers_from, ask_with, update_at, update_of, seen}
use Rattle.craq_runs.specs.Explain.{Account, ask_number, explanation_in, explain}
use Rattle.craq_runs.specs.Valid.{committed, committed_after, state_at, same_request, single_object, committed_object, written_version, answered_object, if_on, version_written, look_by, look_of, version_looked, version_read, of_node, any_mode, bounded_within, WasAsked, IsLine, IsNotBelow, IsEventual, IsBounded, LookHolds, LooksHold, IsValid}
use Rattle.craq_runs.specs.Valid as valid
use Rattle.craq_updates.specs.ValidEntries.{IsValidEntry, AllValid}
use Rattle.craq_runs.specs.Typed.{IsTypedRunOf}
use Rattle.craq_updates.proofs.Entries.{valid_closed}
use Rattle.craq_laws.proofs.Histories.{opening_rises}
use Rattle.craq_updates.proofs.Updates.{numbers_of, updates_of, number_is, updates_cons, updates_take, after_updates, no_request_twice}
use Rattle.craq_updates.proofs.Known.{Known}
use Rattle.craq_updates.proofs.Runs.{run_account}
use Rattle.craq_updates.proofs.Explained.{seen_by, log_valid, seen_run}
use Rattle.craq_strong_answers.proofs.Gives.{all_passing}
use Rattle.craq_strong_answers.proofs.Stands.{state_after}
use Rattle.craq_strong_answers.proofs.Placed.{after_move}
use Rattle.craq_strong_answers.proofs.Clients.{Clients}
use Rattle.craq_strong_answers.proofs.Strong.{state_is}
use Rattle.craq_promise.proofs.Facts.{LineAt, BelowBy, BelowWrite, Below, BelowAt, LookBy, ReadFact, Facts, fact_at}
use Rattle.craq_promise.proofs.Runs.{Reported, ReportedRun, reported_run}

-- ---- lines

found_contains : {A : Type 0} (test : A → Bool) (xs : List A) (x : A) → find test xs ≡ Some x → Contains xs x
found_contains test [] x h = absurd (cc)
found_contains {A} test (y ∷ xs) x h =
    cond_both (test y) (Some y) (find test xs) (λ (o : Option A). o ≡ Some x → Contains (y ∷ xs) x)
    (λ e i. let same : y ≡ x = cc in (0, omega arith, same))
    (λ e i. let r : Contains xs x = found_contains test xs x i in (suc r.0, omega (arith, r.1), r.2))
    h

ask_contained : (asked : List Asked) (node ticket : ℕ) (a : Asked) → ask_with asked node ticket ≡ Some a → Contains asked a
unfolding ask_with
ask_contained asked node ticket a h = found_contains (λ (a : Asked). (a.node == node) && _) asked a h

were_asked : (a : Account) (w : MachineState Entry) (answers : List Answered) (move : ℕ) (s : State) (es : List Entry) → Known a w → AllValid a.asks s es → AllByRecursion (λ k. k ≤ move) (numbers_of a.asks es)
    → AllByRecursion (WasAsked (seen_by a answers) move) (updates_of a.asks es)
were_asked a w answers move s [] k g t = tt
were_asked a w answers move s (e ∷ es) k g t =
    let o : IsValidEntry a.asks s e = g.0 in
    let number : ask_number a.asks e ≡ o.by.ask.move = number_is a.asks s e o in
    let first : WasAsked (seen_by a answers) move o.update = record {
      ask = o.by.ask;
      is_ask = ask_contained a.asks e.origin_node e.origin_ticket o.by.ask o.by.is_ask;
      in_time = omega (arith, number, t.0);
      is = o.by.is;
    } in
    let P : List Update → Type 0 = λ l. AllByRecursion (WasAsked (seen_by a answers) move) l in
    subst P (sym (updates_cons a.asks s e es k.numbered o)) (first, were_asked a w answers move (after_entry s e) es k g.1 t.1)

line_is : (a : Account) (w : MachineState Entry) (answers : List Answered) (x : Answered) (h : List Entry) → Known a w → LineAt a x h → IsLine (seen_by a answers) (explanation_in a) x.move (updates_of a.asks h)
line_is a w answers x h k l =
    let p : IsPrefix (take (after_move a x.move) a.committed) h = l.begins in
    let split : updates_of a.asks h ≡ updates_of a.asks (take (after_move a x.move) a.committed) ++ updates_of a.asks p.rest =
    ap (updates_of a.asks) (sym p.is) ∙ (ap (filter_map (update_at a.asks)) (map-append (ask_number a.asks) (take (after_move a x.move) a.committed) p.rest)
    ∙ filter_map-append (update_at a.asks) (numbers_of a.asks (take (after_move a x.move) a.committed)) (numbers_of a.asks p.rest)) in
    record {
      asked = were_asked a w answers x.move opening_state h k l.valid_entry l.in_time;
      once = no_request_twice a.asks opening_state h opening_rises k.numbered l.valid_entry;
      rest = updates_of a.asks p.rest;
      begins = ap (λ us. us ++ updates_of a.asks p.rest) (updates_take a.asks opening_state (after_move a x.move) a.committed k.numbered (log_valid k)) ∙ sym split;
    }

-- ---- earlier replies

keys_same : (o q : ObjectId) → same_object o q ≡ true → o.key ≡ q.key
keys_same o q h = (bytes_decides o.key q.key).0 (and_parts (o.chain == q.chain) (same_bytes o.key q.key) h).1

none_some : {A : Type 0} {x : A} (o : Option A) → o ≡ None → o ≡ Some x → ⊥
none_some o n s = cc

some_reported : (reported v : ℕ) (o : Option ℕ) → o ≡ Some reported → o ≡ Some v → reported ≡ v
some_reported reported v o h k = cc

-- the version of an answered read, by its request
reads_below : (a : Account) (counts : ReadMode → Bool) (object : ObjectId) (version : ℕ) (ask : Ask) (answer : Answer) → BelowBy a counts object version ask answer
    → (v : ℕ) → version_looked counts object (look_by ask answer) ≡ Some v → v ≤ version
reads_below a counts object version (asks.Read mode q) (answers.Read reported value) b v h =
    cond_both (same_object q object && counts mode) (Some reported) None (λ (x : Option ℕ). x ≡ Some v → v ≤ version)
    (λ e i.
    let p : (same_object q object ≡ true) × (counts mode ≡ true) = and_parts (same_object q object) (counts mode) e in
    let same : reported ≡ v = some_reported reported v (Some reported) refl i in
    omega (arith, same, b p.1 (keys_same q object p.0)))
    (λ e i. absurd (none_some None refl i))
    h
reads_below a counts object version (asks.Read mode q) (answers.Update reply) b v h = absurd (none_some None refl h)
reads_below a counts object version (asks.Update u) (answers.Read reported value) b v h = absurd (none_some None refl h)
reads_below a counts object version (asks.Update u) (answers.Update reply) b v h = absurd (none_some None refl h)

written_or_not : (reply : Reply) → (written_version (answers.Update reply) ≡ None) ⊎ ((reported : ℕ) × (reply ≡ Written reported) × (written_version (answers.Update reply) ≡ Some reported))
written_or_not (Written version) = inr (version, refl, refl)
written_or_not (Mismatch version) = inl refl
written_or_not TooLong = inl refl
written_or_not NotANumber = inl refl
written_or_not Overflow = inl refl
written_or_not Underflow = inl refl
written_or_not (Done objects) = inl refl
written_or_not (CompareFailed place) = inl refl
written_or_not (Stale last) = inl refl

no_version : (object : ObjectId) (o : Option ObjectId) (v : ℕ) → if_on object o None ≡ Some v → ⊥
no_version object None v h = none_some None refl h
no_version object (Some q) v h =
    cond_both (same_object q object) None None (λ (x : Option ℕ). x ≡ Some v → ⊥) (λ e i. none_some None refl i) (λ e i. none_some None refl i) h

on_object : (object : ObjectId) (o : Option ObjectId) (reported v version : ℕ) → ((q : ObjectId) → o ≡ Some q → q.key ≡ object.key → reported ≤ version) → if_on object o (Some reported) ≡ Some v → v ≤ version
on_object object None reported v version f h = absurd (none_some None refl h)
on_object object (Some q) reported v version f h =
    cond_both (same_object q object) (Some reported) None (λ (x : Option ℕ). x ≡ Some v → v ≤ version)
    (λ e i. let same : reported ≡ v = some_reported reported v (Some reported) refl i in omega (arith, same, f q refl (keys_same q object e)))
    (λ e i. absurd (none_some None refl i))
    h

writes_below : (a : Account) (counts : ReadMode → Bool) (object : ObjectId) (version : ℕ) (ask : Ask) (answer : Answer) → BelowBy a counts object version ask answer
    → (v : ℕ) → if_on object (option_and_then (committed_object (updates_of a.asks a.committed)) (update_of ask)) (written_version answer) ≡ Some v → v ≤ version
unfolding committed_object
writes_below a counts object version (asks.Read mode q) (answers.Read reported value) b v h = absurd (none_some None refl h)
writes_below a counts object version (asks.Read mode q) (answers.Update reply) b v h = absurd (none_some None refl h)
writes_below a counts object version (asks.Update u) (answers.Read reported value) b v h = absurd (no_version object (committed_object (updates_of a.asks a.committed) u) v h)
writes_below a counts object version (asks.Update u) (answers.Update reply) b v h =
    let o : Option ObjectId = committed_object (updates_of a.asks a.committed) u in
    ⊎_elim
    (λ none. absurd (no_version object o v (sym (ap (if_on object o) none) ∙ h)))
    (λ (w : (reported : ℕ) × (reply ≡ Written reported) × (written_version (answers.Update reply) ≡ Some reported)).
    let i : BelowWrite a object version u w.0 = b w.0 w.1 in
    let is : o ≡ single_object i.update.command = ap (λ (x : Option Update). option_and_then (λ (v : Update). single_object v.command) x) i.found in
    on_object object o w.0 v version (λ q at same. i.below q (sym is ∙ at) same) (sym (ap (if_on object o) w.2) ∙ h))
    (written_or_not reply)

one_version : (f : Answered → Option ℕ) (version : ℕ) (y : Answered) (ys : List Answered) → ((v : ℕ) → f y ≡ Some v → v ≤ version) → AllByRecursion (λ v. v ≤ version) (filter_map f ys) → (o : Option ℕ) → f y ≡ o
    → AllByRecursion (λ v. v ≤ version) (filter_map f (y ∷ ys))
one_version f version y ys h rest None e = rw e rest
one_version f version y ys h rest (Some v) e = rw e (h v e, rest)

all_versions : (f : Answered → Option ℕ) (version : ℕ) (ys : List Answered) → AllByRecursion (λ (y : Answered). (v : ℕ) → f y ≡ Some v → v ≤ version) ys → AllByRecursion (λ v. v ≤ version) (filter_map f ys)
all_versions f version [] h = tt
all_versions f version (y ∷ ys) h = one_version f version y ys h.0 (all_versions f version ys h.1) (f y) refl

not_below : (a : Account) (given earlier : List Answered) (node : ℕ) (counts : ReadMode → Bool) (l : valid.ReadAnswer) → AllByRecursion (BelowAt a node counts l.object l.version) earlier
    → IsNotBelow (seen_by a given) (explanation_in a) counts (of_node node earlier) l
unfolding look_of answered_object
not_below a given earlier node counts l h =
    let s : Seen = seen_by a given in
    let e : _ = explanation_in a in
    record {
      reads = all_versions (version_read s counts l.object) l.version (of_node node earlier)
          (all_passing (BelowAt a node counts l.object l.version) (λ (y : Answered). (v : ℕ) → version_read s counts l.object y ≡ Some v → v ≤ l.version) (λ (y : Answered). y.node == node) earlier
          (λ y f t v is.
          let b : Below a counts l.object l.version y = f (eqb-true y.node node t) in
          reads_below a counts l.object l.version b.ask.ask y.answer b.below v
          (sym (ap (λ (o : Option Asked). version_looked counts l.object (option_and_then (λ (ask : Asked). look_by ask.ask y.answer) o)) b.is_ask) ∙ is)) h);
      writes = all_versions (version_written s e l.object) l.version (of_node node earlier)
          (all_passing (BelowAt a node counts l.object l.version) (λ (y : Answered). (v : ℕ) → version_written s e l.object y ≡ Some v → v ≤ l.version) (λ (y : Answered). y.node == node) earlier
          (λ y f t v is.
          let b : Below a counts l.object l.version y = f (eqb-true y.node node t) in
          writes_below a counts l.object l.version b.ask.ask y.answer b.below v
          (sym (ap (λ (o : Option Asked). if_on l.object (option_and_then (committed_object (updates_of a.asks a.committed)) (option_and_then (λ (ask : Asked). update_of ask.ask) o)) (written_version y.answer)) b.is_ask) ∙ is)) h);
    }

-- ---- each read

pub look_is : (l m : valid.ReadAnswer) → Some l ≡ Some m → l ≡ m
look_is l m h = cc

holds_by : (a : Account) (w : MachineState Entry) (given earlier : List Answered) (x : Answered) (l : valid.ReadAnswer) → Known a w → (ask : Ask) (answer : Answer) → LookBy a x earlier ask answer → look_by ask answer ≡ Some l
    → LookHolds (seen_by a given) (explanation_in a) earlier x l.mode l
holds_by a w given earlier x l k (asks.Read Eventual object) (answers.Read version value) f is =
    let m : valid.ReadAnswer = record { mode = Eventual; object = object; version = version; value = value } in
    let P : valid.ReadAnswer → Type 0 = λ l. LookHolds (seen_by a given) (explanation_in a) earlier x l.mode l in
    let line : LineAt a x f.line = f.is_line in
    let here : IsEventual (seen_by a given) (explanation_in a) earlier x m = record {
      line = updates_of a.asks f.line;
      is_line = line_is a w given x f.line k line;
      here = ap (λ (s : State). object_of s.objects object.key) (after_updates a.asks opening_state f.line k.numbered line.valid_entry) ∙ f.here;
      not_below = not_below a given earlier x.node any_mode m f.lows;
    } in
    subst P (look_is m l is) here
holds_by a w given earlier x l k (asks.Read (Bounded j) object) (answers.Read version value) f is =
    let m : valid.ReadAnswer = record { mode = Bounded j; object = object; version = version; value = value } in
    let P : valid.ReadAnswer → Type 0 = λ l. LookHolds (seen_by a given) (explanation_in a) earlier x l.mode l in
    let line : LineAt a x f.line = f.is_line in
    let part : AllValid a.asks opening_state (take f.count f.line) = valid_closed a.asks opening_state (take f.count f.line) f.line (prefix_take f.count f.line) line.valid_entry in
    let state : after (take f.count (updates_of a.asks f.line)) ≡ state_after f.count f.line = ap after (updates_take a.asks opening_state f.count f.line k.numbered line.valid_entry) ∙ after_updates a.asks opening_state (take f.count f.line) k.numbered part in
    let V : State → ℕ = λ s. version_of s.objects object.key in
    let same : V (state_at (seen_by a given) (explanation_in a) (after_move a x.move)) ≡ V (state_after (after_move a x.move) a.committed) = ap V (state_is a w given (after_move a x.move) k) in
    let here : IsBounded (seen_by a given) (explanation_in a) j earlier x m = record {
      line = updates_of a.asks f.line;
      is_line = line_is a w given x f.line k line;
      count = f.count;
      here = ap (λ (s : State). object_of s.objects object.key) state ∙ f.here;
      near = omega (arith, f.near, same);
      not_below = not_below a given earlier x.node (bounded_within j) m f.lows;
    } in
    subst P (look_is m l is) here
holds_by a w given earlier x l k (asks.Read Strong object) (answers.Read version value) f is =
    let m : valid.ReadAnswer = record { mode = Strong; object = object; version = version; value = value } in
    let P : valid.ReadAnswer → Type 0 = λ l. LookHolds (seen_by a given) (explanation_in a) earlier x l.mode l in
    let here : P m = tt in
    subst P (look_is m l is) here
holds_by a w given earlier x l k (asks.Read mode object) (answers.Update reply) f is = absurd (none_some None refl is)
holds_by a w given earlier x l k (asks.Update u) (answers.Read version value) f is = absurd (none_some None refl is)
holds_by a w given earlier x l k (asks.Update u) (answers.Update reply) f is = absurd (none_some None refl is)

pub looks_in : (a : Account) (w : MachineState Entry) (receivers : List ℕ) (given : List Answered) → Reported a w receivers given → LooksHold (seen_by a given) (explanation_in a)
unfolding look_of
looks_in a w receivers given t earlier later x l split is =
    let c : Clients a w receivers given = t.clients in
    let F : List Answered → Type 0 = λ xs. Facts a [] xs in
    let f : ReadFact a x earlier = fact_at a [] earlier later x (subst F (sym split) t.facts) in
    holds_by a w given earlier x l c.known f.ask.ask x.answer f.fact (sym (ap (λ (o : Option Asked). option_and_then (λ (ask : Asked). look_by ask.ask x.answer) o) f.is_ask) ∙ is)

-- ---- the whole

pub looks_hold : (chain : ℕ) (run : Run) → IsTypedRunOf chain run → LooksHold (seen run) (explain chain run)
looks_hold chain run i =
    let r : ReportedRun (run_account chain run) (answers_from 1 [] run.moves) = reported_run chain run i in
    let P : Seen → Type 0 = λ s. LooksHold s (explain chain run) in
    subst P (seen_run chain run i) (looks_in (run_account chain run) r.world r.receivers (answers_from 1 [] run.moves) r.reported)
