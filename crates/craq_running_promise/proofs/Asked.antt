-- Each update of a chain's list was requested by a client's call.
use Rattle.std.proofs.Common.{◌≡◌, ℕ, ◌==◌, if◌then◌else◌, Bool, true, false, List, [], ◌∷◌, ◌++◌, Option, Some, None, refl, sym, ap, ◌∙◌, inl, inr}
use Rattle.std.specs.Prelude.{Contains, filter_map, find, option_and_then}
use Rattle.std.specs.List.{cons_option}
use Rattle.std.specs.declared.snapshot.Snapshot.{Snapshot}
use Rattle.std.proofs.lemmas.Bool.{cond_both, eqb-true}
use Rattle.craq_commands.specs.declared.command.Update.{Update}
use Rattle.craq_names.specs.declared.name.NodeName.{NodeName}
use Rattle.craq_model.specs.declared.ask.Ask.{Ask}
use Rattle.craq_model.specs.declared.ask.Ask.TheVariants as asks
use Rattle.craq_model.specs.declared.ask.Event.{Event}
use Rattle.craq_model.specs.declared.ask.Event.TheVariants as events
use Rattle.craq_model.specs.declared.step.Step.{Step}
use Rattle.craq_runs.specs.declared.explanation.Explanation.{Explanation}
use Rattle.craq_runs.specs.Seen.{Asked, update_at, update_of}
use Rattle.craq_seat.specs.declared.journal.BookEvent.{BookEvent}
use Rattle.craq_seat.specs.Merge.{AtMaster as HappensAtMaster, AtNode as HappensAtNode, Happening, MergedStep, book_line, node_line}
use Rattle.craq_causality.proofs.Orders.{IsIn, from_contains, in_either, in_get}
use Rattle.craq_merge.proofs.Named.{IsAskOf, ask_of_line}
use Rattle.craq_store_history.specs.declared.entry.CallId.{CallId}
use Rattle.craq_store_history.specs.declared.entry.HistoryEntry.{HistoryEntry}
use Rattle.craq_store_history.specs.declared.entry.HistoryEntry.TheVariants.{MasterStep, NodeStep, ClientCall, ChainOpened, CallTakenBack}
use Rattle.craq_store_history.specs.Entries.{line_in, lines_in, master_record, node_record}
use Rattle.craq_store_history.proofs.Between.{asked_by, may_call}
use Rattle.craq_running_promise.specs.Standing.{HasChain, WasAsked, explanation_of_chain, updates_of_chain, view_of_chain}
use Rattle.craq_running_promise.proofs.Standing.{in_prefix}

-- ---- lists

picked : {A B : Type 0} (f : A → Option B) (x : A) (xs : List A) (y : B) (o : Option B) → f x ≡ o → (IsIn (filter_map f xs) y → (z : A) × (f z ≡ Some y)) → IsIn (cons_option o (filter_map f xs)) y → (z : A) × (f z ≡ Some y)
picked f x xs y None e rest i = rest i
picked f x xs y (Some b) e rest (inl s) = (x, e ∙ ap Some s)
picked f x xs y (Some b) e rest (inr i) = rest i

in_filter_map : {A B : Type 0} (f : A → Option B) (xs : List A) (y : B) → IsIn (filter_map f xs) y → (x : A) × (f x ≡ Some y)
in_filter_map f [] y i = absurd i
in_filter_map f (x ∷ xs) y i = picked f x xs y (f x) refl (in_filter_map f xs y) i

find_in : {A : Type 0} (test : A → Bool) (xs : List A) (x : A) → find test xs ≡ Some x → IsIn xs x
find_in test [] x h = absurd (cc)
find_in {A} test (y ∷ xs) x h =
    cond_both (test y) (Some y) (find test xs) (λ (o : Option A). o ≡ Some x → IsIn (y ∷ xs) x)
    (λ e i. let same : y ≡ x = cc in inl same)
    (λ e i. inr (find_in test xs x i))
    h

in_if : (b : Bool) (x l : MergedStep) → IsIn (if b then x ∷ [] else []) l → (b ≡ true) × (x ≡ l)
in_if true x l (inl s) = (refl, s)
in_if true x l (inr k) = absurd k
in_if false x l k = absurd k

-- ---- the request of a listed update

record IsRequest (requests : List Asked) (update : Update) : Type 0 where
  pub asked : Asked
  pub there : IsIn requests asked
  pub update_is : update_of asked.ask ≡ Some update

by_found : (requests : List Asked) (number : ℕ) (update : Update) (o : Option Asked) → find (λ (a : Asked). a.move == number) requests ≡ o → option_and_then (λ (a : Asked). update_of a.ask) o ≡ Some update → IsRequest requests update
by_found requests number update None f h = absurd (cc)
by_found requests number update (Some a) f h = record { asked = a; there = find_in (λ (b : Asked). b.move == number) requests a f; update_is = h }

request_of : (requests : List Asked) (number : ℕ) (update : Update) → update_at requests number ≡ Some update → IsRequest requests update
unfolding update_at
request_of requests number update h = by_found requests number update (find (λ (a : Asked). a.move == number) requests) refl h

its_update : (ask : Ask) (update : Update) → update_of ask ≡ Some update → ask ≡ asks.Update update
its_update (asks.Update u) update h = let same : u ≡ update = cc in ap asks.Update same
its_update (asks.Read mode object) update h = absurd (cc)

-- ---- the entry of a line

record HasEntry (c : ℕ) (log : List HistoryEntry) (event : Event) : Type 0 where
  pub done : List HistoryEntry
  pub rest : List HistoryEntry
  pub name : NodeName
  pub stamp : ℕ
  pub held : Snapshot Event
  pub pass : ℕ
  pub step : Snapshot Step
  pub call : Option CallId
  pub is : log ≡ done ++ NodeStep name stamp held pass step call ∷ rest
  pub of_chain : name.chain ≡ c
  pub event_is : held.value ≡ event

two_events : (h : Happening) (b : BookEvent) (e : Event) → HappensAtMaster b ≡ h → h ≡ HappensAtNode e → ⊥
two_events h b e s t = cc

same_event : (h : Happening) (d e : Event) → HappensAtNode d ≡ h → h ≡ HappensAtNode e → d ≡ e
same_event h d e s t = cc

here : (c : ℕ) (x : HistoryEntry) (xs : List HistoryEntry) (l : MergedStep) (event : Event) → IsIn (line_in c x) l → l.event ≡ HappensAtNode event → HasEntry c (x ∷ xs) event
here c (ChainOpened chain members) xs l event i e = absurd i
here c (ClientCall call name ask) xs l event i e = absurd i
here c (NodeStep name stamp held pass step call) xs l event i e =
    let p = in_if (name.chain == c) (node_line name.node (node_record stamp held pass step)) l i in
    record {
      done = [];
      rest = xs;
      name = name;
      stamp = stamp;
      held = held;
      pass = pass;
      step = step;
      call = call;
      is = refl;
      of_chain = eqb-true name.chain c p.0;
      event_is = same_event l.event held.value event (ap (λ (y : MergedStep). y.event) p.1) e;
    }
here c (MasterStep chain stamp ordered pass step) xs l event i e =
    let p = in_if (chain == c) (book_line (master_record stamp ordered pass step)) l i in
    absurd (two_events l.event ordered event (ap (λ (y : MergedStep). y.event) p.1) e)
here c (CallTakenBack call) xs l event i e = absurd i

entry_of : (c : ℕ) (log : List HistoryEntry) (l : MergedStep) (event : Event) → IsIn (lines_in c log) l → l.event ≡ HappensAtNode event → HasEntry c log event
unfolding lines_in
entry_of c [] l event i e = absurd i
entry_of c (x ∷ xs) l event i e =
    elim (in_either (line_in c x) (lines_in c xs) l i) [
      | inl k ↦ here c x xs l event k e
      | inr k ↦ (let t = entry_of c xs l event k e in record { done = x ∷ t.done; rest = t.rest; name = t.name; stamp = t.stamp; held = t.held; pass = t.pass; step = t.step; call = t.call; is = ap (λ (zs : List HistoryEntry). x ∷ zs) t.is; of_chain = t.of_chain; event_is = t.event_is })
    ]

-- ---- the call

pub was_asked : (chain : ℕ) (members : List ℕ) (log : List HistoryEntry) (update : Update) → HasChain chain members log → Contains (updates_of_chain chain members log) update → WasAsked chain log update
was_asked chain members log update h there =
    let lines : List MergedStep = lines_in chain log in
    let e : Explanation = explanation_of_chain chain members log in
    let requests : List Asked = (view_of_chain chain members log).asks in
    let n = in_filter_map (update_at requests) e.asks update (from_contains (updates_of_chain chain members log) update there) in
    let r : IsRequest requests update = request_of requests n.0 update n.1 in
    let t : IsAskOf lines 1 r.asked = ask_of_line lines lines 1 r.asked r.there in
    let x : HasEntry chain log (events.Ask t.ask) = entry_of chain log t.line (events.Ask t.ask) (in_get lines t.place t.line t.at) t.event in
    let entry : HistoryEntry = NodeStep x.name x.stamp x.held x.pass x.step x.call in
    let c = asked_by x.done x.name x.held.value x.call t.ask (may_call log x.done x.rest entry h.history x.is) x.event_is in
    let ask_is : t.ask ≡ asks.Update update = sym (ap (λ (y : Asked). y.ask) t.is) ∙ its_update r.asked.ask update r.update_is in
    let called : HistoryEntry = ClientCall c.0 x.name c.2.0 in
    record {
      node = x.name;
      call = c.0;
      of_chain = x.of_chain;
      made = (c.2.0, in_prefix x.done log called (entry ∷ x.rest, sym x.is) c.2.1, c.2.2 ∙ ask_is);
    }
