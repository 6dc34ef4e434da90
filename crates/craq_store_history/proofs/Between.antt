-- Where an accepted call stands: after the client made it, and so after all that the client had seen before it.
use Rattle.std.proofs.Common.{◌≡◌, ◌<◌, ℕ, List, [], ◌∷◌, ◌++◌, Option, Some, None, refl, sym, ap, subst, ◌∙◌, inl, inr, arith, append-nil, append_assoc}
use Rattle.std.specs.List.{AllByRecursion}
use Rattle.std.specs.Prelude.{Contains, ◌⊎◌}
use Rattle.std.specs.declared.snapshot.Snapshot.{Snapshot}
use mathlib.Core.List.{IsPrefix}
use Rattle.craq_names.specs.declared.name.NodeName.{NodeName}
use Rattle.craq_model.specs.declared.ask.Ask.{Ask}
use Rattle.craq_model.specs.declared.ask.Event.{Event}
use Rattle.craq_model.specs.declared.ask.Event.TheVariants as events
use Rattle.craq_model.specs.declared.step.Step.{Step}
use Rattle.craq_causality.proofs.Orders.{IsIn, all_in, from_contains, in_either, in_left, in_right, to_contains}
use Rattle.craq_ghost_history.specs.Histories.{IsAdded}
use Rattle.craq_ghost_history.proofs.Prefixes.{comparable}
use Rattle.craq_store_history.specs.declared.entry.CallId.{CallId}
use Rattle.craq_store_history.specs.declared.entry.HistoryEntry.{HistoryEntry}
use Rattle.craq_store_history.specs.declared.entry.HistoryEntry.TheVariants.{ClientCall, NodeStep}
use Rattle.craq_store_history.specs.Chains.{Accepts, AreCalls, IsBelow, IsHistory, IsNoAsk, MayCall, WasCalled}
use Rattle.craq_store_history.specs.Entries.{author_of}

calls_at : (before done rest : List HistoryEntry) (e : HistoryEntry) → AreCalls before (done ++ e ∷ rest) → MayCall (before ++ done) e
calls_at before [] rest e a = rw append-nil a.0
calls_at before (d ∷ done) rest e a = subst (λ l. MayCall l e) (again before d done) (calls_at (before ++ d ∷ []) done rest e a.1)
  where
    again : (xs : List HistoryEntry) (x : HistoryEntry) (ys : List HistoryEntry) → (xs ++ x ∷ []) ++ ys ≡ xs ++ x ∷ ys
    again [] x ys = refl
    again (z ∷ zs) x ys = ap (λ l. z ∷ l) (again zs x ys)

-- an entry may follow those before it
pub may_call : (log done rest : List HistoryEntry) (e : HistoryEntry) → IsHistory log → log ≡ done ++ e ∷ rest → MayCall done e
may_call log done rest e h is = calls_at [] done rest e (subst (AreCalls []) is h.calls)

-- a call is made once
pub once : (log before rest : List HistoryEntry) (call : CallId) (name other : NodeName) (ask a : Snapshot Ask) → IsHistory log → log ≡ before ++ ClientCall call name ask ∷ rest → Contains before (ClientCall call other a) → ⊥
once log before rest call name other ask a h is there =
    let less : call.number < call.number = all_in (IsBelow call) before (ClientCall call other a) (may_call log before rest (ClientCall call name ask) h is) (from_contains before (ClientCall call other a) there) refl in
    omega (arith, less)

no_more : (ys : List HistoryEntry) (x : HistoryEntry) (xs : List HistoryEntry) → ys ++ x ∷ xs ≡ [] → ⊥
no_more [] x xs h = cc
no_more (y ∷ ys) x xs h = cc

tails : (y z : HistoryEntry) (ys zs : List HistoryEntry) → y ∷ ys ≡ z ∷ zs → (y ≡ z) × (ys ≡ zs)
tails y z ys zs h = (cc, cc)

-- a list that is shorter than one with an entry at its end begins what is before that entry
shorter : (before : List HistoryEntry) (x : HistoryEntry) (xs b : List HistoryEntry) (e : HistoryEntry) → before ++ x ∷ xs ≡ b ++ e ∷ [] → IsPrefix before b
shorter [] x xs b e h = (b, refl)
shorter (y ∷ ys) x xs [] e h = absurd (no_more ys x xs (tails y e (ys ++ x ∷ xs) [] h).1)
shorter (y ∷ ys) x xs (z ∷ zs) e h =
    let t = tails y z (ys ++ x ∷ xs) (zs ++ e ∷ []) h in
    let p = shorter ys x xs zs e t.1 in
    (p.0, ap (λ l. y ∷ l) p.1 ∙ ap (λ w. w ∷ zs) t.0)

by_rest : (log mid b before rest more : List HistoryEntry) (call : CallId) (name : NodeName) (ask : Snapshot Ask) (q : List HistoryEntry) → IsHistory log → mid ≡ b ++ ClientCall call name ask ∷ [] → log ≡ b ++ ClientCall call name ask ∷ more
    → (other : NodeName) (a : Snapshot Ask) → Contains before (ClientCall call other a) → before ++ q ≡ mid → IsPrefix mid before
by_rest log mid b before rest more call name ask [] h is at other a there e = ([], append-nil mid ∙ (sym e ∙ append-nil before))
by_rest log mid b before rest more call name ask (x ∷ xs) h is at other a there e =
    let p = shorter before x xs b (ClientCall call name ask) (e ∙ is) in
    let c : HistoryEntry = ClientCall call other a in
    absurd (once log b more call name other ask a h at (subst (λ l. Contains l c) p.1 (to_contains (before ++ p.0) c (in_left before p.0 c (from_contains before c there)))))

again : (xs : List HistoryEntry) (x : HistoryEntry) (ys : List HistoryEntry) → (xs ++ x ∷ []) ++ ys ≡ xs ++ x ∷ ys
again [] x ys = refl
again (z ∷ zs) x ys = ap (λ l. z ∷ l) (again zs x ys)

-- ---- the request of a call

record Split (xs : List HistoryEntry) (x : HistoryEntry) : Type 0 where
  pub before : List HistoryEntry
  pub rest : List HistoryEntry
  pub is : xs ≡ before ++ x ∷ rest

split_in : (xs : List HistoryEntry) (x : HistoryEntry) → IsIn xs x → Split xs x
split_in [] x i = absurd i
split_in (y ∷ ys) x (inl e) = record { before = []; rest = ys; is = ap (λ z. z ∷ ys) e }
split_in (y ∷ ys) x (inr i) = let s = split_in ys x i in record { before = y ∷ s.before; rest = s.rest; is = ap (λ zs. y ∷ zs) s.is }

in_here : (before : List HistoryEntry) (x : HistoryEntry) (rest : List HistoryEntry) → Contains (before ++ x ∷ rest) x
in_here before x rest = to_contains (before ++ x ∷ rest) x (in_right before (x ∷ rest) x (inl refl))

placed : (log before rest : List HistoryEntry) (call : CallId) (name other : NodeName) (ask a : Snapshot Ask) → IsHistory log → log ≡ before ++ ClientCall call name ask ∷ rest
    → IsIn before (ClientCall call other a) ⊎ IsIn (ClientCall call name ask ∷ rest) (ClientCall call other a) → ClientCall call name ask ≡ ClientCall call other a
placed log before rest call name other ask a h is (inl l) = absurd (once log before rest call name other ask a h is (to_contains before (ClientCall call other a) l))
placed log before rest call name other ask a h is (inr (inl e)) = e
placed log before rest call name other ask a h is (inr (inr r)) =
    let first : HistoryEntry = ClientCall call name ask in
    let second : HistoryEntry = ClientCall call other a in
    let s = split_in rest second r in
    let on : log ≡ (before ++ first ∷ s.before) ++ second ∷ s.rest = is ∙ (ap (λ (l : List HistoryEntry). before ++ first ∷ l) s.is ∙ sym (append_assoc before (first ∷ s.before) (second ∷ s.rest))) in
    absurd (once log (before ++ first ∷ s.before) s.rest call other name a ask h on (in_here before first s.before))

-- two entries of one call are one
pub called_once : (log : List HistoryEntry) (call : CallId) (name other : NodeName) (ask a : Snapshot Ask) → IsHistory log → Contains log (ClientCall call name ask) → Contains log (ClientCall call other a) → ClientCall call name ask ≡ ClientCall call other a
called_once log call name other ask a h one two =
    let s = split_in log (ClientCall call name ask) (from_contains log (ClientCall call name ask) one) in
    placed log s.before s.rest call name other ask a h s.is (in_either s.before (ClientCall call name ask ∷ s.rest) (ClientCall call other a) (subst (λ (l : List HistoryEntry). IsIn l (ClientCall call other a)) s.is (from_contains log (ClientCall call other a) two)))

-- a prefix that has a call begins with the history in which it was made
pub made_within : (log seen reported mid before rest : List HistoryEntry) (call : CallId) (name other : NodeName) (ask a : Snapshot Ask) → IsHistory log → IsAdded author_of seen reported (ClientCall call name ask) mid → IsPrefix mid log
    → log ≡ before ++ rest → Contains before (ClientCall call other a) → IsPrefix mid before
made_within log seen reported mid before rest call name other ask a h added p is there =
    let c : HistoryEntry = ClientCall call name ask in
    let on : log ≡ added.before ++ c ∷ p.0 = sym p.1 ∙ (ap (λ l. l ++ p.0) added.now ∙ again added.before c p.0) in
    elim (comparable mid before log p (rest, sym is)) [
      | inl shorter_mid ↦ shorter_mid
      | inr q ↦ by_rest log mid added.before before rest p.0 call name ask q.0 h added.now on other a there q.1
    ]

-- a step on a request accepts a call that was made before, with this request
pub asked_by : (before : List HistoryEntry) (name : NodeName) (event : Event) (call : Option CallId) (ask : Ask) → Accepts before name event call → event ≡ events.Ask ask → (its : CallId) × (call ≡ Some its) × WasCalled before its name ask
asked_by before name event None ask a is = absurd (subst IsNoAsk is a)
asked_by before name event (Some its) ask (own, same, called) is = (its, refl, subst (λ (r : Ask). WasCalled before its name r) (asked_same (sym same ∙ is)) called)
  where
    asked_same : {x y : Ask} → events.Ask x ≡ events.Ask y → x ≡ y
    asked_same h = cc

-- a step that accepts a call stands after the call, in every history that goes on from it
pub accepted_later : (log seen reported mid before rest : List HistoryEntry) (call : CallId) (name at : NodeName) (ask : Snapshot Ask) (stamp : ℕ) (event : Snapshot Event) (pass : ℕ) (step : Snapshot Step) → IsHistory log → IsAdded author_of seen reported (ClientCall call name ask) mid → IsPrefix mid log
    → log ≡ before ++ NodeStep at stamp event pass step (Some call) ∷ rest → IsPrefix mid before
accepted_later log seen reported mid before rest call name at ask stamp event pass step h a p is =
    let e : HistoryEntry = NodeStep at stamp event pass step (Some call) in
    let w : WasCalled before call at _ = (may_call log before rest e h is).2 in
    made_within log seen reported mid before (e ∷ rest) call name at ask w.0 h a p is w.1
