-- The explanation of a chain's run only grows as the store's history does.
use Rattle.std.proofs.Common.{◌≡◌, ℕ, ◌+◌, ◌==◌, ◌&&◌, if◌then◌else◌, List, [], ◌∷◌, ◌++◌, map, length, Option, Some, None, IsSome, refl, sym, ap, subst, ◌∙◌, inl, inr, append_assoc, append-nil}
use Rattle.std.specs.Prelude.{filter_map, find, option_and_then}
use Rattle.std.specs.List.{AllByRecursion, cons_option}
use Rattle.std.proofs.lemmas.List.{map-append}
use Rattle.std.proofs.lemmas.List.Elements.{filter_map-append}
use mathlib.Core.List.{IsPrefix}
use Rattle.craq_commands.specs.declared.command.Update.{Update}
use Rattle.craq_model.specs.declared.ask.Event.TheVariants as events
use Rattle.craq_model.specs.declared.message.LinkMessage.{LinkMessage}
use Rattle.craq_protocol.specs.Promises.{IsPrefix as BeginsWith}
use Rattle.craq_runs.specs.declared.explanation.Explanation.{Explanation}
use Rattle.craq_runs.specs.declared.run.Move.{Move}
use Rattle.craq_runs.specs.declared.run.Move.TheVariants as moves
use Rattle.craq_runs.specs.declared.run.Run.{Run}
use Rattle.craq_runs.specs.declared.run.Taken.{Taken}
use Rattle.craq_runs.specs.Chain.{opening_chain, sent_in}
use Rattle.craq_runs.specs.Explain.{explain}
use Rattle.craq_runs.specs.Seen.{Asked, asks_from, seen, update_at, update_of}
use Rattle.craq_runs.specs.Typed.{IsTypedRunOf}
use Rattle.craq_runs.specs.Valid.{committed}
use Rattle.craq_seat.specs.declared.journal.BookEvent.TheVariants as books
use Rattle.craq_seat.specs.Merge.{AtMaster, AtNode, Happening, MergedStep, move_among, number_among, run_of}
use Rattle.craq_causality.specs.Causal.{AreOrdered, MayFollow}
use Rattle.craq_causality.proofs.Numbers.{first_is}
use Rattle.craq_causality.proofs.Orders.{IsIn, from_contains, in_left}
use Rattle.craq_causality.proofs.Walk.{taken_among}
use Rattle.craq_updates.specs.ValidEntries.{IsBeginning}
use Rattle.craq_updates.proofs.Explained.{begins, form_asks, taken_front, typed_front}
use Rattle.craq_updates.proofs.Found.{find_left}
use Rattle.craq_store_history.specs.declared.entry.HistoryEntry.{HistoryEntry}
use Rattle.craq_store_history.specs.Entries.{lines_in}
use Rattle.craq_store_history.proofs.Adding.{chain_is_a_run}
use Rattle.craq_store_history.proofs.Lines.{lines_prefix}
use Rattle.craq_running_promise.specs.Standing.{HasChain, ListGrows}
use Rattle.craq_running_promise.proofs.Orders.{asks_append}
use Rattle.craq_running_promise.proofs.Seen.{are_causal}

-- ---- the moves of a run stay as lines follow

-- a message that was sent in the first lines has its number among them
same_number : (xs ys : List MergedStep) (m : LinkMessage) (s : MergedStep) → IsIn xs s → s.node ≡ m.sender → s.stamp ≡ m.stamp → number_among (xs ++ ys) m ≡ number_among xs m
unfolding number_among
same_number [] ys m s i e f = absurd i
same_number (x ∷ xs) ys m s (inl is) e f =
    let of_node : x.node ≡ m.sender = ap (λ (l : MergedStep). l.node) is ∙ e in
    let of_stamp : x.stamp ≡ m.stamp = ap (λ (l : MergedStep). l.stamp) is ∙ f in
    first_is x (xs ++ ys) m of_node of_stamp ∙ sym (first_is x xs m of_node of_stamp)
same_number (x ∷ xs) ys m s (inr i) e f =
    ap (λ n. if (x.node == m.sender) && (x.stamp == m.stamp) then m.index + 1 else length (sent_in x.step.outs) + n) (same_number xs ys m s i e f)

move_stays : (members : List ℕ) (lines ys done rest : List MergedStep) (id : ℕ) (h : Happening) → lines ≡ done ++ rest → MayFollow members done id h → move_among (lines ++ ys) id h ≡ move_among lines id h
move_stays members lines ys done rest id (AtNode (events.Ask ask)) e f = refl
move_stays members lines ys done rest id (AtNode (events.Deliver m)) e f =
    let s = f.1 in
    let there : IsIn lines s.line = subst (λ (ls : List MergedStep). IsIn ls s.line) (sym e) (in_left done rest s.line (from_contains done s.line s.there)) in
    ap (λ n. moves.Deliver n) (same_number lines ys m s.line there s.node s.stamp)
move_stays members lines ys done rest id (AtNode events.Tick) e f = refl
move_stays members lines ys done rest id (AtNode events.Stop) e f = refl
move_stays members lines ys done rest id (AtMaster (books.Join node)) e f = refl
move_stays members lines ys done rest id (AtMaster (books.Remove stopped stop)) e f = refl
move_stays members lines ys done rest id (AtMaster books.Tick) e f = refl

abbrev taken_as : Move → MergedStep → Taken
taken_as m l = record { chosen = m; step = l.step }

moves_stay : (members : List ℕ) (lines ys done rest : List MergedStep) → lines ≡ done ++ rest → AreOrdered members done rest → map (taken_among (lines ++ ys)) rest ≡ map (taken_among lines) rest
moves_stay members lines ys done [] e o = refl
moves_stay members lines ys done (l ∷ rest) e o =
    let one : move_among (lines ++ ys) l.node l.event ≡ move_among lines l.node l.event = move_stays members lines ys done (l ∷ rest) l.node l.event e o.0 in
    let same : taken_among (lines ++ ys) l ≡ taken_among lines l = ap (λ (m : Move). taken_as m l) one in
    let more : map (taken_among (lines ++ ys)) rest ≡ map (taken_among lines) rest = moves_stay members lines ys (done ++ l ∷ []) rest (e ∙ sym (append_assoc done (l ∷ []) rest)) o.1 in
    ap (λ (t : Taken). t ∷ map (taken_among (lines ++ ys)) rest) same ∙ ap (λ (ts : List Taken). taken_among lines l ∷ ts) more

moves_grow : (members : List ℕ) (xs ys : List MergedStep) → AreOrdered members [] xs → map (taken_among (xs ++ ys)) (xs ++ ys) ≡ map (taken_among xs) xs ++ map (taken_among (xs ++ ys)) ys
moves_grow members xs ys o =
    map-append (taken_among (xs ++ ys)) xs ys ∙ ap (λ (ts : List Taken). ts ++ map (taken_among (xs ++ ys)) ys) (moves_stay members xs ys [] xs refl o)

-- ---- the explanation of the first moves is the beginning of that of all

abbrev run_with : List ℕ → List Taken → Run
run_with members ts = record { members = members; moves = ts }

begins_itself : {A : Type 0} (xs : List A) → BeginsWith xs xs
begins_itself xs = record { rest = []; is = append-nil xs }

begins_on : {A : Type 0} (xs ys zs : List A) → BeginsWith xs ys → BeginsWith ys zs → BeginsWith xs zs
begins_on {A} xs ys zs p q = record { rest = p.rest ++ q.rest; is = sym (append_assoc xs p.rest q.rest) ∙ (ap (λ (l : List A). l ++ q.rest) p.is ∙ q.is) }

its_own : (e : Explanation) → IsBeginning e e
its_own e = record { asks = begins_itself e.asks; lens = begins_itself e.lens; places = begins_itself e.places }

both : (e f g : Explanation) → IsBeginning e f → IsBeginning f g → IsBeginning e g
both e f g p q = record { asks = begins_on e.asks f.asks g.asks p.asks q.asks; lens = begins_on e.lens f.lens g.lens p.lens q.lens; places = begins_on e.places f.places g.places p.places q.places }

front : (chain : ℕ) (members : List ℕ) (ts us : List Taken) → IsTypedRunOf chain (run_with members (ts ++ us)) → IsTypedRunOf chain (run_with members ts)
front chain members ts us i =
    record { run_of = record { members = i.run_of.members; moves = (taken_front ts us (opening_chain chain members) i.run_of.moves).0 }; typed = (typed_front ts us i.typed).0 }

begins_more : (chain : ℕ) (members : List ℕ) (ts us : List Taken) → IsTypedRunOf chain (run_with members (ts ++ us)) → IsBeginning (explain chain (run_with members ts)) (explain chain (run_with members (ts ++ us)))
begins_more chain members ts [] i =
    let e : Explanation = explain chain (run_with members ts) in
    subst (λ (l : List Taken). IsBeginning e (explain chain (run_with members l))) (sym (append-nil ts)) (its_own e)
begins_more chain members ts (u ∷ us) i =
    let is : (ts ++ u ∷ []) ++ us ≡ ts ++ u ∷ us = append_assoc ts (u ∷ []) us in
    let typed : IsTypedRunOf chain (run_with members ((ts ++ u ∷ []) ++ us)) = subst (λ (l : List Taken). IsTypedRunOf chain (run_with members l)) (sym is) i in
    let one : IsBeginning (explain chain (run_with members ts)) (explain chain (run_with members (ts ++ u ∷ []))) = begins chain members ts u (front chain members (ts ++ u ∷ []) us typed) in
    let more = begins_more chain members (ts ++ u ∷ []) us typed in
    subst (λ (l : List Taken). IsBeginning (explain chain (run_with members ts)) (explain chain (run_with members l))) is
    (both (explain chain (run_with members ts)) (explain chain (run_with members (ts ++ u ∷ []))) (explain chain (run_with members ((ts ++ u ∷ []) ++ us))) one more)

-- ---- the list of updates grows

update_found : (asked more : List Asked) (number : ℕ) (o : Option Asked) → find (λ (a : Asked). a.move == number) asked ≡ o → IsSome (option_and_then (λ (a : Asked). update_of a.ask) o)
    → option_and_then (λ (a : Asked). update_of a.ask) (find (λ (a : Asked). a.move == number) (asked ++ more)) ≡ option_and_then (λ (a : Asked). update_of a.ask) o
update_found asked more number None is some = absurd (cc)
update_found asked more number (Some x) is some = ap (option_and_then (λ (a : Asked). update_of a.ask)) (find_left (λ (a : Asked). a.move == number) asked more x is)

update_stays : (asked more : List Asked) (number : ℕ) → IsSome (update_at asked number) → update_at (asked ++ more) number ≡ update_at asked number
unfolding update_at
update_stays asked more number some = update_found asked more number (find (λ (a : Asked). a.move == number) asked) refl some

updates_stay : (asked more : List Asked) (ns : List ℕ) → AllByRecursion (λ number. IsSome (update_at asked number)) ns → filter_map (update_at (asked ++ more)) ns ≡ filter_map (update_at asked) ns
updates_stay asked more [] a = refl
updates_stay asked more (n ∷ ns) a =
    ap (λ (o : Option Update). cons_option o (filter_map (update_at (asked ++ more)) ns)) (update_stays asked more n a.0) ∙ ap (cons_option (update_at asked n)) (updates_stay asked more ns a.1)

updates_grow : (asked more : List Asked) (ns ms : List ℕ) → AllByRecursion (λ number. IsSome (update_at asked number)) ns → BeginsWith ns ms → IsPrefix (filter_map (update_at asked) ns) (filter_map (update_at (asked ++ more)) ms)
updates_grow asked more ns ms a p = (
  filter_map (update_at (asked ++ more)) p.rest,
  ap (λ (us : List Update). us ++ filter_map (update_at (asked ++ more)) p.rest) (sym (updates_stay asked more ns a))
      ∙ (sym (filter_map-append (update_at (asked ++ more)) ns p.rest) ∙ ap (filter_map (update_at (asked ++ more))) p.is),
)

-- ---- the run of a longer history

pub record Grows (chain : ℕ) (run more : Run) : Type 0 where
  pub updates : IsPrefix (committed (seen run) (explain chain run)) (committed (seen more) (explain chain more))
  pub kept : IsBeginning (explain chain run) (explain chain more)

grows_by : (chain : ℕ) (members : List ℕ) (ts us : List Taken) → IsTypedRunOf chain (run_with members (ts ++ us)) → Grows chain (run_with members ts) (run_with members (ts ++ us))
grows_by chain members ts us i =
    let run : Run = run_with members ts in
    let e : Explanation = explain chain run in
    let f : Explanation = explain chain (run_with members (ts ++ us)) in
    let kept : IsBeginning e f = begins_more chain members ts us i in
    let asked : List Asked = asks_from 1 ts in
    let more : List Asked = asks_from (1 + length ts) us in
    let updates : IsPrefix (filter_map (update_at asked) e.asks) (filter_map (update_at (asked ++ more)) f.asks) =
    updates_grow asked more e.asks f.asks (form_asks chain run (front chain members ts us i)) kept.asks in
    record {
      updates = subst (λ (l : List Asked). IsPrefix (filter_map (update_at asked) e.asks) (filter_map (update_at l) f.asks)) (sym (asks_append 1 ts us)) updates;
      kept = kept;
    }

grows_on : (chain : ℕ) (members : List ℕ) (xs ys : List MergedStep) → AreOrdered members [] xs → IsTypedRunOf chain (run_of members (xs ++ ys)) → Grows chain (run_of members xs) (run_of members (xs ++ ys))
grows_on chain members xs ys o i =
    let ts : List Taken = map (taken_among xs) xs in
    let us : List Taken = map (taken_among (xs ++ ys)) ys in
    let is : map (taken_among (xs ++ ys)) (xs ++ ys) ≡ ts ++ us = moves_grow members xs ys o in
    let typed : IsTypedRunOf chain (run_with members (ts ++ us)) = subst (λ (l : List Taken). IsTypedRunOf chain (run_with members l)) is i in
    subst (λ (l : List Taken). Grows chain (run_with members ts) (run_with members l)) (sym is) (grows_by chain members ts us typed)

pub grows : (chain : ℕ) (members : List ℕ) (log more : List HistoryEntry) → HasChain chain members log → HasChain chain members more → IsPrefix log more → ListGrows chain members log more
grows chain members log more h k p =
    let xs : List MergedStep = lines_in chain log in
    let q : IsPrefix xs (lines_in chain more) = lines_prefix chain log more p in
    let causal = are_causal log chain members h.history h.opened in
    let run : IsTypedRunOf chain (run_of members (lines_in chain more)) = chain_is_a_run more chain members k.history k.opened k.few in
    let typed : IsTypedRunOf chain (run_of members (xs ++ q.0)) = subst (λ (l : List MergedStep). IsTypedRunOf chain (run_of members l)) (sym q.1) run in
    let g : Grows chain (run_of members xs) (run_of members (lines_in chain more)) =
    subst (λ (l : List MergedStep). Grows chain (run_of members xs) (run_of members l)) q.1 (grows_on chain members xs q.0 causal.0.order typed) in
    record { updates = g.updates; kept = g.kept }
