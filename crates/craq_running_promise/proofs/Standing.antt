-- The lines of a call in the history of its store.
use Rattle.std.proofs.Common.{◌≡◌, ◌∙◌, ◌<◌, ◌≤◌, ◌+◌, ℕ, suc, List, [], ◌∷◌, ◌++◌, Option, Some, None, length, refl, sym, ap, subst, arith, inl, inr, append_assoc, append-nil, eq-eqb, length-append}
use Rattle.std.specs.Prelude.{Contains, slice_get}
use Rattle.std.specs.declared.snapshot.Snapshot.{Snapshot}
use mathlib.Core.List.{IsPrefix}
use Rattle.craq_names.specs.declared.name.NodeName.{NodeName}
use Rattle.craq_model.specs.declared.ask.Answer.{Answer}
use Rattle.craq_model.specs.declared.ask.Ask.{Ask}
use Rattle.craq_model.specs.declared.ask.Event.{Event}
use Rattle.craq_model.specs.declared.ask.Event.TheVariants as events
use Rattle.craq_model.specs.declared.step.Out.TheVariants as outs
use Rattle.craq_model.specs.declared.step.Step.{Step}
use Rattle.craq_runs.specs.Explain.{explain}
use Rattle.craq_runs.specs.Typed.{IsTypedRunOf}
use Rattle.craq_runs.specs.Valid.{IsValid}
use Rattle.craq_seat.specs.Calls.{Called}
use Rattle.craq_seat.specs.Merge.{AtNode as HappensAtNode, MergedStep, node_line, run_of}
use Rattle.craq_causality.specs.Causal.{AreFew}
use Rattle.craq_causality.proofs.Numbers.{get_within}
use Rattle.craq_causality.proofs.Orders.{IsIn, from_contains, in_left, in_right, to_contains}
use Rattle.craq_promise.proofs.Promised.{explained}
use Rattle.craq_ghost_history.specs.Histories.{AreComparable}
use Rattle.craq_store_history.specs.declared.entry.CallId.{CallId}
use Rattle.craq_store_history.specs.declared.entry.HistoryEntry.{HistoryEntry}
use Rattle.craq_store_history.specs.declared.entry.HistoryEntry.TheVariants.{MasterStep, NodeStep, ClientCall as WasMade, ChainOpened, CallTakenBack}
use Rattle.craq_store_history.specs.Chains.{Accepts, ChainHolds, IsHistory, WasCalled}
use Rattle.craq_store_history.specs.Entries.{line_in, lines_in, members_in, node_record}
use Rattle.craq_store_history.proofs.Adding.{chain_is_a_run}
use Rattle.craq_store_history.proofs.Between.{accepted_later, called_once, may_call}
use Rattle.craq_store_history.proofs.Lines.{lines_append, lines_prefix}
use Rattle.craq_store_parts.specs.Recorded.{HasTaken}
use Rattle.craq_store_parts.specs.Witnessed.{IsWitnessed}
use Rattle.craq_store_parts.proofs.Recording.{accepted_later as still_accepted, has_added}
use Rattle.craq_running_promise.specs.Standing.{IsAcceptedIn, IsCallInHistory, IsOperationOf, Operation}

-- ---- lists

pub record Split {X : Type 0} (xs : List X) (x : X) : Type 0 where
  pub before : List X
  pub rest : List X
  pub is : xs ≡ before ++ x ∷ rest

split_in : {X : Type 0} (xs : List X) (x : X) → IsIn xs x → Split xs x
split_in [] x i = absurd i
split_in (y ∷ ys) x (inl e) = record { before = []; rest = ys; is = ap (λ z. z ∷ ys) e }
split_in (y ∷ ys) x (inr i) = let s = split_in ys x i in record { before = y ∷ s.before; rest = s.rest; is = ap (λ zs. y ∷ zs) s.is }

split : {X : Type 0} (xs : List X) (x : X) → Contains xs x → Split xs x
split xs x c = split_in xs x (from_contains xs x c)

prefix_of : {X : Type 0} (xs ys zs : List X) → IsPrefix xs ys → IsPrefix ys zs → IsPrefix xs zs
prefix_of xs ys zs p q = (p.0 ++ q.0, sym (append_assoc xs p.0 q.0) ∙ (ap (λ l. l ++ q.0) p.1 ∙ q.1))

pub in_prefix : {X : Type 0} (xs ys : List X) (x : X) → IsPrefix xs ys → Contains xs x → Contains ys x
in_prefix {X} xs ys x p c = subst (λ (l : List X). Contains l x) p.1 (to_contains (xs ++ p.0) x (in_left xs p.0 x (from_contains xs x c)))

in_here : {X : Type 0} (before : List X) (x : X) (rest : List X) → Contains (before ++ x ∷ rest) x
in_here before x rest = to_contains (before ++ x ∷ rest) x (in_right before (x ∷ rest) x (inl refl))

pub no_longer : {X : Type 0} (xs ys : List X) → IsPrefix xs ys → length xs ≤ length ys
no_longer xs ys p = omega (arith, length-append xs p.0, ap length p.1)

at_length : {X : Type 0} (before : List X) (x : X) (rest : List X) → slice_get (before ++ x ∷ rest) (length before) ≡ Some x
at_length [] x rest = refl
at_length (y ∷ before) x rest = at_length before x rest

place_of : {X : Type 0} (xs before : List X) (x : X) (rest : List X) → xs ≡ before ++ x ∷ rest → slice_get xs (length before) ≡ Some x
place_of {X} xs before x rest is = subst (λ (zs : List X). slice_get zs (length before) ≡ Some x) (sym is) (at_length before x rest)

place_in_more : {X : Type 0} (xs ys : List X) (k : ℕ) (x : X) → IsPrefix xs ys → slice_get xs k ≡ Some x → slice_get ys k ≡ Some x
place_in_more {X} xs ys k x p h = subst (λ (zs : List X). slice_get zs k ≡ Some x) p.1 (get_within xs p.0 k x h)

below_length : {X : Type 0} (xs before : List X) (x : X) (rest : List X) → xs ≡ before ++ x ∷ rest → length before < length xs
below_length xs before x rest is =
    let long : length xs ≡ length before + suc (length rest) = ap length is ∙ length-append before (x ∷ rest) in
    omega (arith, long)

-- the request of a call, or another where the entry is none
asked_by : Ask → HistoryEntry → Ask
asked_by other (ChainOpened chain members) = other
asked_by other (WasMade call name ask) = ask.value
asked_by other (NodeStep name stamp event pass step call) = other
asked_by other (MasterStep chain stamp event pass step) = other
asked_by other (CallTakenBack call) = other

same_call : (log : List HistoryEntry) (call : CallId) (name other : NodeName) (ask a : Snapshot Ask) → IsHistory log → Contains log (WasMade call name ask) → Contains log (WasMade call other a) → ask.value ≡ a.value
unfolding asked_by
same_call log call name other ask a h one two = ap (asked_by ask.value) (called_once log call name other ask a h one two)

-- ---- the line of a node's step

its_line : (name : NodeName) (stamp : ℕ) (event : Snapshot Event) (pass : ℕ) (step : Snapshot Step) (call : Option CallId)
    → line_in name.chain (NodeStep name stamp event pass step call) ≡ node_line name.node (node_record stamp event pass step) ∷ []
its_line name stamp event pass step call = rw (eq-eqb name.chain name.chain refl) refl

lines_at : (name : NodeName) (stamp : ℕ) (event : Snapshot Event) (pass : ℕ) (step : Snapshot Step) (call : Option CallId) (done rest : List HistoryEntry)
    → lines_in name.chain (done ++ NodeStep name stamp event pass step call ∷ rest) ≡ lines_in name.chain done ++ node_line name.node (node_record stamp event pass step) ∷ lines_in name.chain rest
unfolding lines_in
lines_at name stamp event pass step call done rest =
    let e : HistoryEntry = NodeStep name stamp event pass step call in
    lines_append name.chain done (e ∷ rest) ∙ ap (λ (z : List MergedStep). lines_in name.chain done ++ (z ++ lines_in name.chain rest)) (its_line name stamp event pass step call)

-- ---- a call stands in its chain

module _ (client : ℕ) (old new log : List HistoryEntry) (node : NodeName) (ask : Ask) (answer : Answer) (receipt : Called) (w : IsWitnessed client old node ask answer receipt new) (p : IsPrefix new log) (h : IsHistory log) where
  abbrev taken : HasTaken new node receipt.call.asked.stamp w.accepted.event receipt.call.pass w.accepted.step (Some w.call)
  taken = w.accepted.taken

  abbrev entry : HistoryEntry
  entry = NodeStep node receipt.call.asked.stamp taken.0 receipt.call.pass taken.1 (Some w.call)

  asked : Split log entry
  asked = split log entry (in_prefix new log entry p taken.2)

  accepts : Accepts asked.before node taken.0.value (Some w.call)
  accepts = may_call log asked.before asked.rest entry h asked.is

  made_there : Contains log (WasMade w.call node w.made.0)
  made_there =
      let e : HistoryEntry = WasMade w.call node w.made.0 in
      in_prefix w.mid log e (prefix_of w.mid new log w.later p) (subst (λ (l : List HistoryEntry). Contains l e) (sym w.made.2.now) (in_here w.made.2.before e []))

  its_ask : accepts.0 ≡ ask
  its_ask =
      let was : WasCalled asked.before w.call node accepts.0 = accepts.2 in
      let e : HistoryEntry = WasMade w.call node was.0 in
      let there : Contains log e = in_prefix asked.before log e (entry ∷ asked.rest, sym asked.is) was.1 in
      sym was.2 ∙ (same_call log w.call node node was.0 w.made.0 h there made_there ∙ w.made.1)

  old_before : IsPrefix old asked.before
  old_before =
      let mid : IsPrefix w.mid asked.before = accepted_later log old [] w.mid asked.before asked.rest w.call node node w.made.0 receipt.call.asked.stamp taken.0 receipt.call.pass taken.1 h w.made.2 (prefix_of w.mid new log w.later p) asked.is in
      let own : IsPrefix w.made.2.before w.mid = (WasMade w.call node w.made.0 ∷ [], sym w.made.2.now) in
      prefix_of old w.mid asked.before (prefix_of old w.made.2.before w.mid w.made.2.kept own) mid

  abbrev replied : HasTaken new node receipt.answered.stamp w.replied.event w.replied.pass w.replied.step w.replied.accepted
  replied = w.replied.taken

  abbrev reply : HistoryEntry
  reply = NodeStep node receipt.answered.stamp replied.0 w.replied.pass replied.1 w.replied.accepted

  abbrev answer_line : MergedStep
  answer_line = node_line node.node (node_record receipt.answered.stamp replied.0 w.replied.pass replied.1)

  its_reply : Split new reply
  its_reply = split new reply replied.2

  -- the line of the reply among those of `new`
  reply_is : lines_in node.chain new ≡ lines_in node.chain its_reply.before ++ answer_line ∷ lines_in node.chain its_reply.rest
  reply_is = ap (lines_in node.chain) its_reply.is ∙ lines_at node receipt.answered.stamp replied.0 w.replied.pass replied.1 w.replied.accepted its_reply.before its_reply.rest

  abbrev asked_line : MergedStep
  asked_line = node_line node.node (node_record receipt.call.asked.stamp taken.0 receipt.call.pass taken.1)

  asked_is : lines_in node.chain log ≡ lines_in node.chain asked.before ++ asked_line ∷ lines_in node.chain asked.rest
  asked_is = ap (lines_in node.chain) asked.is ∙ lines_at node receipt.call.asked.stamp taken.0 receipt.call.pass taken.1 (Some w.call) asked.before asked.rest

  by_members : (o : Option (List ℕ)) → members_in node.chain log ≡ o → ChainHolds node.chain o (lines_in node.chain log) → IsCallInHistory old new node ask receipt log
  by_members None is none = absurd (from_contains [] asked_line (subst (λ (l : List MergedStep). Contains l asked_line) (sym asked_is ∙ none) (in_here (lines_in node.chain asked.before) asked_line (lines_in node.chain asked.rest))))
  by_members (Some members) is holds = record {
    members = members;
    opened = is;
    asked_place = length (lines_in node.chain asked.before);
    asked = asked_line;
    asked_at = place_of (lines_in node.chain log) (lines_in node.chain asked.before) asked_line (lines_in node.chain asked.rest) asked_is;
    asked_node = refl;
    asked_stamp = refl;
    event = ap HappensAtNode (accepts.1 ∙ ap (λ (a : Ask). events.Ask a) its_ask);
    ticket = ap (λ (s : Step). s.ticket) taken.4 ∙ w.accepted.under;
    later = no_longer (lines_in node.chain old) (lines_in node.chain asked.before) (lines_prefix node.chain old asked.before old_before);
    answered_place = length (lines_in node.chain its_reply.before);
    answered = answer_line;
    answered_at = place_in_more (lines_in node.chain new) (lines_in node.chain log) (length (lines_in node.chain its_reply.before)) answer_line (lines_prefix node.chain new log p)
        (place_of (lines_in node.chain new) (lines_in node.chain its_reply.before) answer_line (lines_in node.chain its_reply.rest) reply_is);
    answered_node = refl;
    stamp = refl;
    out = subst (λ (s : Step). Contains s.outs (outs.Answer receipt.call.ticket receipt.answer)) (sym replied.4) w.replied.out;
    by_then = below_length (lines_in node.chain new) (lines_in node.chain its_reply.before) answer_line (lines_in node.chain its_reply.rest) reply_is;
  }

  pub stands : IsCallInHistory old new node ask receipt log × (receipt.answer ≡ answer)
  stands = (by_members (members_in node.chain log) refl (h.chains node.chain), w.answered)

-- its call was accepted as the receipt says
pub accepted_in : (client : ℕ) (o : Operation) (log : List HistoryEntry) → IsOperationOf client o → IsPrefix o.new log → IsAcceptedIn client o log
accepted_in client o log w p =
    let e : HistoryEntry = WasMade w.call o.node w.made.0 in
    record {
      call = w.call;
      caller = w.caller;
      made = (w.made.0, in_prefix w.mid log e (prefix_of w.mid o.new log w.later p) (has_added o.old [] w.mid e w.made.2), w.made.1);
      accepted = still_accepted o.new log o.node w.call o.receipt.call p w.accepted;
    }

whole : {X : Type 0} (xs : List X) → IsPrefix xs xs
whole xs = ([], append-nil xs)

pub together : (client other : ℕ) (old new before after : List HistoryEntry) (node at : NodeName) (ask request : Ask) (answer reply : Answer) (receipt its : Called)
    → IsWitnessed client old node ask answer receipt new → IsWitnessed other before at request reply its after → AreComparable new after
    → (log : List HistoryEntry) × IsHistory log × IsPrefix new log × IsPrefix after log × IsCallInHistory old new node ask receipt log × IsCallInHistory before after at request its log
together client other old new before after node at ask request answer reply receipt its w v (inl p) =
    (after, v.history, p, whole after, (stands client old new after node ask answer receipt w p v.history).0, (stands other before after after at request reply its v (whole after) v.history).0)
together client other old new before after node at ask request answer reply receipt its w v (inr p) =
    (new, w.history, whole new, p, (stands client old new new node ask answer receipt w (whole new) w.history).0, (stands other before after new at request reply its v p w.history).0)

-- the histories that two clients have seen begin one history
pub in_one : (client other : ℕ) (old new before after : List HistoryEntry) (node at : NodeName) (ask request : Ask) (answer reply : Answer) (receipt its : Called)
    → IsWitnessed client old node ask answer receipt new → IsWitnessed other before at request reply its after → AreComparable new after → (log : List HistoryEntry) × IsHistory log × IsPrefix new log × IsPrefix after log
in_one client other old new before after node at ask request answer reply receipt its w v (inl p) = (after, v.history, p, whole after)
in_one client other old new before after node at ask request answer reply receipt its w v (inr p) = (new, w.history, whole new, p)

pub has_explanation : (log : List HistoryEntry) (chain : ℕ) (members : List ℕ) → IsHistory log → members_in chain log ≡ Some members → AreFew (lines_in chain log)
    → IsTypedRunOf chain (run_of members (lines_in chain log)) × IsValid (run_of members (lines_in chain log)) (explain chain (run_of members (lines_in chain log)))
has_explanation log chain members h is few =
    let run : IsTypedRunOf chain (run_of members (lines_in chain log)) = chain_is_a_run log chain members h is few in (run, explained chain (run_of members (lines_in chain log)) run)
