-- A desk's step as an entry of the history.
use Rattle.std.proofs.Common.{◌≡◌, ◌<◌, ℕ, List, [], ◌∷◌, ◌++◌, map, Option, Some, None, Result, Ok, Err, IfOk, IfSome, refl, sym, ap, subst, ◌∙◌, inl, inr, arith, append-nil, eq-eqb}
use Rattle.std.specs.Prelude.{Contains, Vec}
use Rattle.std.proofs.lemmas.Bool.{eqb-true}
use Rattle.std.specs.List.{AllByRecursion}
use Rattle.std.specs.Option.{option_map}
use Rattle.std.proofs.lemmas.List.{map-append}
use Rattle.std.specs.declared.alloc.AllocError.{AllocError}
use Rattle.std.specs.declared.alloc.Global.{Global}
use Rattle.std.specs.declared.snapshot.Snapshot.{Snapshot}
use mathlib.Core.List.{IsPrefix}
use Rattle.craq_names.specs.declared.name.NodeName.{NodeName}
use Rattle.craq_names.specs.declared.refusal.Refusal.{Refusal}
use Rattle.craq_model.specs.declared.ask.Answer.{Answer}
use Rattle.craq_model.specs.declared.ask.Event.{Event}
use Rattle.craq_model.specs.declared.ask.Event.TheVariants as events
use Rattle.craq_model.specs.declared.step.Out.{Out}
use Rattle.craq_model.specs.declared.step.Out.TheVariants as outs
use Rattle.craq_model.specs.declared.step.Step.{Step}
use Rattle.craq_model.specs.Node.{node_step}
use Rattle.craq_model.specs.Plain.{Plain}
use Rattle.craq_seat.specs.declared.calls.Call.{Call}
use Rattle.craq_seat.specs.declared.journal.Opening.{Opening}
use Rattle.craq_seat.specs.declared.journal.Receipt.{Receipt}
use Rattle.craq_seat.specs.declared.journal.Record.{Record}
use Rattle.craq_seat.specs.Calls.{Called, CallsOf, Desked, accepted, answered_call, ask_of, call_under, called_by, called_in}
use Rattle.craq_seat.specs.Cells.{Celled, cell_step, receipt_of, recorded, stamped, with_inside, with_record}
use Rattle.craq_seat.specs.Merge.{AtNode as HappensAtNode, MergedStep, node_line}
use Rattle.craq_seat.specs.Stamps.{event_stamp, next_stamp}
use Rattle.craq_seat.specs.Taken.{TakesEvent}
use Rattle.craq_seat.proofs.Taking.{above}
use Rattle.craq_causality.specs.Authors.{lines_of}
use Rattle.craq_causality.specs.Causal.{IsOfType}
use Rattle.craq_causality.proofs.Growing.{lines_same}
use Rattle.craq_causality.proofs.Orders.{IsIn, from_contains, in_left, in_right, to_contains}
use Rattle.craq_ghost_history.specs.declared.author.Author.TheVariants.{Node}
use Rattle.craq_ghost_history.specs.Histories.{IsAdded, MayAdd, Written}
use Rattle.craq_store_history.specs.declared.entry.CallId.{CallId}
use Rattle.craq_store_history.specs.declared.entry.HistoryEntry.{HistoryEntry}
use Rattle.craq_store_history.specs.declared.entry.HistoryEntry.TheVariants.{NodeStep}
use Rattle.craq_store_history.specs.Chains.{IsHistory}
use Rattle.craq_store_history.specs.Entries.{author_of, line_in, lines_in, node_record, permit_of}
use Rattle.craq_store_history.specs.Steps.{MayStep}
use Rattle.craq_store_history.proofs.Adding.{node_may, node_seen}
use Rattle.craq_store_history.proofs.Lines.{lines_more, own_same}
use Rattle.craq_store_parts.proofs.Running.{stop_alone}
use Rattle.craq_store_parts.specs.Recorded.{AreLinesOf, HasAccepted, HasAnswered, HasStep, HasTaken, HasTakenAfter, HaveReplied, IsRecorded, MayHappen, StandsAfter}

-- ---- a step that was taken

-- the cell of a core that stood for this node took the node's step
pub record Took {C : Type 0} (represents : C → Plain → Type 0) (old new : Celled C Event) (p : Plain) (event : Event) : Type 0 where
  pub next : Plain
  pub stands : represents new.inside next
  pub step : Step
  pub takes : node_step p event ≡ Ok (next, step)
  pub last : new.last ≡ Some step
  pub later : old.stamp < new.stamp
  pub opening : new.opening ≡ old.opening
  pub pass : ℕ
  pub journal : new.journal ≡ option_map (λ rs. rs ++ record { stamp = new.stamp; event = event; pass = pass; step = step } ∷ []) old.journal

pub same_ok : {A E : Type 0} {x y : A} → ◌≡◌ {A = Result A E} (Ok x) (Ok y) → x ≡ y
same_ok h = cc h

by_step : {C : Type 0} (represents : C → Plain → Type 0) (old new : Celled C Event) (p n : Plain) (event : Event) (pass stamp : ℕ) → represents new.inside n → old.stamp < stamp
    → (r : Result (Plain × Step) Refusal) → node_step p event ≡ r → recorded (with_inside old p) stamp event pass r ≡ Ok (with_inside new n) → Took represents old new p event
by_step represents old new p n event pass stamp stands up (Err e) t is = absurd cc
by_step represents old new p n event pass stamp stands up (Ok (q, s)) t is =
    let now : with_record (with_inside old p) q (record { stamp = stamp; event = event; pass = pass; step = s }) ≡ with_inside new n = same_ok is in
    let inside : q ≡ n = ap (λ (c : Celled Plain Event). c.inside) now in
    let stamps : stamp ≡ new.stamp = ap (λ (c : Celled Plain Event). c.stamp) now in
    let last : Some s ≡ new.last = ap (λ (c : Celled Plain Event). c.last) now in
    let opening : old.opening ≡ new.opening = ap (λ (c : Celled Plain Event). c.opening) now in
    let journal : option_map (λ rs. rs ++ record { stamp = stamp; event = event; pass = pass; step = s } ∷ []) old.journal ≡ new.journal = ap (λ (c : Celled Plain Event). c.journal) now in
    record {
      next = n;
      stands = stands;
      step = s;
      takes = t ∙ ap (λ (m : Plain). Ok (m, s)) inside;
      last = sym last;
      later = subst (λ (k : ℕ). old.stamp < k) stamps up;
      opening = sym opening;
      pass = pass;
      journal = subst (λ (k : ℕ). new.journal ≡ option_map (λ rs. rs ++ record { stamp = k; event = event; pass = pass; step = s } ∷ []) old.journal) stamps (sym journal);
    }

by_stamp : {C : Type 0} (represents : C → Plain → Type 0) (old new : Celled C Event) (p n : Plain) (event : Event) (pass : ℕ) → represents new.inside n
    → (r : Result ℕ Refusal) → next_stamp old.stamp pass (event_stamp event) ≡ r → stamped node_step (with_inside old p) event pass r ≡ Ok (with_inside new n) → Took represents old new p event
by_stamp represents old new p n event pass stands (Err e) up is = absurd cc
by_stamp represents old new p n event pass stands (Ok stamp) up is =
    by_step represents old new p n event pass stamp stands (above old.stamp pass (event_stamp event) stamp up) (node_step p event) refl is

pub took : {C : Type 0} (represents : C → Plain → Type 0) (old new : Celled C Event) (p : Plain) (event : Event) (pass : ℕ) (receipt : Receipt) → TakesEvent represents new (with_inside old p) event pass (Ok receipt) → Took represents old new p event
unfolding cell_step
took represents old new p event pass receipt (n, is, stands) =
    by_stamp represents old new p n event pass stands (next_stamp old.stamp pass (event_stamp event)) refl is.0

-- ---- a step that was refused

-- the cell is as it was, for this node
pub record Stays {C : Type 0} (represents : C → Plain → Type 0) (old new : Celled C Event) (p : Plain) : Type 0 where
  pub stands : represents new.inside p
  pub stamp : new.stamp ≡ old.stamp
  pub last : new.last ≡ old.last
  pub opening : new.opening ≡ old.opening
  pub journal : new.journal ≡ old.journal

pub stays : {C : Type 0} (represents : C → Plain → Type 0) (old new : Celled C Event) (p : Plain) (event : Event) (pass : ℕ) (e : Refusal) → TakesEvent represents new (with_inside old p) event pass (Err e) → Stays represents old new p
stays represents old new p event pass e (n, is, stands) =
    record {
      stands = subst (represents new.inside) (ap (λ (c : Celled Plain Event). c.inside) is.1) stands;
      stamp = ap (λ (c : Celled Plain Event). c.stamp) is.1;
      last = ap (λ (c : Celled Plain Event). c.last) is.1;
      opening = ap (λ (c : Celled Plain Event). c.opening) is.1;
      journal = ap (λ (c : Celled Plain Event). c.journal) is.1;
    }

pub still_recorded : {C : Type 0} (represents : C → Plain → Type 0) (old new : Desked C) (w : Written HistoryEntry) (r : IsRecorded represents old w) → Stays represents old.cell new.cell r.node → IsRecorded represents new w
still_recorded represents old new w r s =
    record {
      author = rw s.opening r.author;
      node = r.node;
      stands = s.stands;
      at = rw (s.opening, s.stamp) r.at;
      last = rw (s.opening, s.stamp, s.last) r.last;
      stopped = rw (s.opening, s.stamp) r.stopped;
      journal = rw (s.opening, s.journal) r.journal;
    }

-- ---- the step in the history

pub in_later : (xs ys : List HistoryEntry) (x : HistoryEntry) → IsPrefix xs ys → Contains xs x → Contains ys x
in_later xs ys x p there = subst (λ (zs : List HistoryEntry). Contains zs x) p.1 (to_contains (xs ++ p.0) x (in_left xs p.0 x (from_contains xs x there)))

in_last : (xs : List HistoryEntry) (e : HistoryEntry) → Contains (xs ++ e ∷ []) e
in_last xs e = to_contains (xs ++ e ∷ []) e (in_right xs (e ∷ []) e (inl refl))

-- it stands after all that the author had learned
pub stands_last : (seen reported new : List HistoryEntry) (e : HistoryEntry) → IsAdded author_of seen reported e new → StandsAfter reported new e
stands_last seen reported new e a = (a.before, a.heard, ([], append-nil (a.before ++ e ∷ []) ∙ sym a.now))

pub stands_in : (old log : List HistoryEntry) (e : HistoryEntry) → StandsAfter old log e → Contains log e
stands_in old log e s = in_later (s.0 ++ e ∷ []) log e s.2 (in_last s.0 e)

pub has_added : (seen reported new : List HistoryEntry) (e : HistoryEntry) → IsAdded author_of seen reported e new → Contains new e
has_added seen reported new e a = subst (λ (l : List HistoryEntry). Contains l e) (sym a.now) (in_last a.before e)

-- the lines of its chain
new_lines : (seen reported new : List HistoryEntry) (name : NodeName) (stamp : ℕ) (event : Snapshot Event) (pass : ℕ) (step : Snapshot Step) (call : Option CallId)
    → (a : IsAdded author_of seen reported (NodeStep name stamp event pass step call) new) → lines_in name.chain new ≡ lines_in name.chain a.before ++ node_line name.node (node_record stamp event pass step) ∷ []
new_lines seen reported new name stamp event pass step call a =
    let c : ℕ = name.chain in
    let e : HistoryEntry = NodeStep name stamp event pass step call in
    let line : line_in c e ≡ node_line name.node (node_record stamp event pass step) ∷ [] = rw (eq-eqb c c refl) refl in
    ap (lines_in c) a.now ∙ (lines_more c a.before e ∙ ap (λ z. lines_in c a.before ++ z) line)

-- its line
line_added : (seen reported new : List HistoryEntry) (name : NodeName) (stamp : ℕ) (event : Snapshot Event) (pass : ℕ) (step : Snapshot Step) (call : Option CallId)
    → IsAdded author_of seen reported (NodeStep name stamp event pass step call) new → Contains (lines_in name.chain new) (node_line name.node (node_record stamp event pass step))
line_added seen reported new name stamp event pass step call a =
    let c : ℕ = name.chain in
    let l : MergedStep = node_line name.node (node_record stamp event pass step) in
    let ls = new_lines seen reported new name stamp event pass step call a in
    subst (λ (z : List MergedStep). Contains z l) (sym ls) (to_contains (lines_in c a.before ++ l ∷ []) l (in_right (lines_in c a.before) (l ∷ []) l (inl refl)))

-- the node may take the step, once its cell has
pub may_step : {C : Type 0} (represents : C → Plain → Type 0) (old : Desked C) (new : Celled C Event) (w : Written HistoryEntry) (reported : List HistoryEntry) (event : Event) (noted : Snapshot Event) (pass : ℕ) (step : Snapshot Step) (call : Option CallId) (r : IsRecorded represents old w) (t : Took represents old.cell new r.node event)
    → noted.value ≡ event → step.value ≡ t.step → MayHappen reported old.cell.opening.name event call → IsOfType (HappensAtNode event)
    → MayStep old.cell.opening.name w.seen reported (node_record new.stamp noted pass step) call t.next
may_step represents old new w reported event noted pass step call r t is says may typed =
    record {
      node = r.node;
      stamp = old.cell.stamp;
      at = r.at;
      step = rw (is, says) t.takes;
      later = t.later;
      sent = rw is may.sent;
      typed = rw is typed;
      called = rw is may.called;
    }

has_step : (seen reported new : List HistoryEntry) (name : NodeName) (stamp : ℕ) (event : Snapshot Event) (pass : ℕ) (step : Snapshot Step) (call : Option CallId) (taken : Step)
    → IsAdded author_of seen reported (NodeStep name stamp event pass step call) new → step.value ≡ taken → HasStep (lines_in name.chain new) name.node stamp taken
has_step seen reported new name stamp event pass step call taken a says =
    record { line = node_line name.node (node_record stamp event pass step); there = line_added seen reported new name stamp event pass step call a; node = refl; under = refl; step = says }

-- its journal grows by its line
journal_grows : (seen reported new : List HistoryEntry) (name : NodeName) (stamp : ℕ) (event : Snapshot Event) (pass : ℕ) (step : Snapshot Step) (call : Option CallId) (r : Record Event) (now was : Option (List (Record Event)))
    → IsAdded author_of seen reported (NodeStep name stamp event pass step call) new → node_line name.node (node_record stamp event pass step) ≡ node_line name.node r → now ≡ option_map (λ rs. rs ++ r ∷ []) was → AreLinesOf (lines_in name.chain seen) name.node was → AreLinesOf (lines_in name.chain new) name.node now
journal_grows seen reported new name stamp event pass step call r now None a same is h = subst (AreLinesOf (lines_in name.chain new) name.node) (sym is) tt
journal_grows seen reported new name stamp event pass step call r now (Some rs) a same is h =
    let id : ℕ = name.node in
    let own : lines_of id (lines_in name.chain a.before) ≡ map (node_line id) rs = own_same name.chain id a.before seen a.own ∙ h in
    let lines : lines_in name.chain new ≡ lines_in name.chain a.before ++ node_line id r ∷ [] = new_lines seen reported new name stamp event pass step call a ∙ ap (λ l. lines_in name.chain a.before ++ l ∷ []) same in
    subst (AreLinesOf (lines_in name.chain new) id) (sym is)
    (ap (lines_of id) lines ∙ (lines_same id (lines_in name.chain a.before) (node_line id r) refl ∙ (ap (λ ls. ls ++ node_line id r ∷ []) own ∙ sym (map-append (node_line id) rs (r ∷ [])))))

some_last : (o : Option Step) (s : Step) (P : Step → Type 0) → o ≡ Some s → P s → IfSome o P
some_last o s P is h = subst (λ (x : Option Step). IfSome x P) (sym is) h

-- it stays in more lines
pub line_later : (xs ys : List MergedStep) (l : MergedStep) → IsPrefix xs ys → Contains xs l → Contains ys l
line_later xs ys l p there = subst (λ (zs : List MergedStep). Contains zs l) p.1 (to_contains (xs ++ p.0) l (in_left xs p.0 l (from_contains xs l there)))

pub last_later : (xs ys : List MergedStep) (id stamp : ℕ) (o : Option Step) → IsPrefix xs ys → IfSome o (λ (s : Step). HasStep xs id stamp s) → IfSome o (λ (s : Step). HasStep ys id stamp s)
last_later xs ys id stamp None p h = tt
last_later xs ys id stamp (Some s) p h = record { line = h.line; there = line_later xs ys h.line p h.there; node = h.node; under = h.under; step = h.step }

-- so the node is the replay of its entries
pub now_recorded : {C : Type 0} (represents : C → Plain → Type 0) (old new : Desked C) (w v : Written HistoryEntry) (reported : List HistoryEntry) (event : Event) (noted : Snapshot Event) (pass : ℕ) (step : Snapshot Step) (call : Option CallId) (r : IsRecorded represents old w) (t : Took represents old.cell new.cell r.node event)
    → noted.value ≡ event → step.value ≡ t.step → MayHappen reported old.cell.opening.name event call → IsOfType (HappensAtNode event)
    → v.author ≡ w.author → IsAdded author_of w.seen reported (NodeStep old.cell.opening.name new.cell.stamp noted pass step call) v.seen → IsRecorded represents new v
now_recorded represents old new w v reported event noted pass step call r t is says may typed author a =
    let name : NodeName = old.cell.opening.name in
    let stamp : ℕ = new.cell.stamp in
    let lines : List MergedStep = lines_in name.chain v.seen in
    let own : new.cell.opening ≡ old.cell.opening = t.opening in
    record {
      author = rw own (author ∙ r.author);
      node = t.next;
      stands = t.stands;
      at = rw own (node_seen name w.seen reported v.seen stamp noted pass step call t.next (may_step represents old new.cell w reported event noted pass step call r t is says may typed) a);
      last = rw own (some_last new.cell.last t.step (HasStep lines name.node stamp) t.last (has_step w.seen reported v.seen name stamp noted pass step call t.step a says));
      stopped = λ off.
          let stop : noted.value ≡ events.Stop = is ∙ stop_alone r.node t.next event t.step t.takes off in
          let l : MergedStep = node_line name.node (node_record stamp noted pass step) in
          rw own (l, line_added w.seen reported v.seen name stamp noted pass step call a, refl, refl, ap HappensAtNode stop);
      journal =
          let taken : Record Event = record { stamp = stamp; event = event; pass = t.pass; step = t.step } in
          rw own (journal_grows w.seen reported v.seen name stamp noted pass step call taken new.cell.journal old.cell.journal a (rw (is, says) refl) t.journal r.journal);
    }

-- ---- an entry whose name and stamp were read from the cell after the step

module _ {C : Type 0} (represents : C → Plain → Type 0) (old : Desked C) (new : Celled C Event) (w : Written HistoryEntry) (reported : List HistoryEntry) (event : Event) (noted : Snapshot Event) (pass : ℕ) (step : Snapshot Step) (call : Option CallId) (name : NodeName) (stamp : ℕ)
    (r : IsRecorded represents old w) (t : Took represents old.cell new r.node event) (named : name ≡ new.opening.name) (stamped_is : stamp ≡ new.stamp) (is : noted.value ≡ event) (says : step.value ≡ t.step)
    (may : MayHappen reported old.cell.opening.name event call) (typed : IsOfType (HappensAtNode event)) where
  its_name : name ≡ old.cell.opening.name
  its_name = named ∙ ap (λ (o : Opening). o.name) t.opening

  pub desk_own : Node name.chain name.node ≡ w.author
  desk_own = rw its_name (sym r.author)

  pub desk_may : MayAdd author_of permit_of IsHistory w.seen reported (NodeStep name stamp noted pass step call)
  desk_may = rw (its_name, stamped_is) (node_may old.cell.opening.name w.seen reported new.stamp noted pass step call t.next (may_step represents old new w reported event noted pass step call r t is says may typed))

  pub desk_recorded : (waiting : List Call) (v : Written HistoryEntry) → v.author ≡ w.author → IsAdded author_of w.seen reported (NodeStep name stamp noted pass step call) v.seen → IsRecorded represents (record { cell = new; waiting = waiting }) v
  desk_recorded waiting v author a =
      let by_name = subst (λ (n : NodeName). IsAdded author_of w.seen reported (NodeStep n stamp noted pass step call) v.seen) its_name a in
      let by_stamp = subst (λ (k : ℕ). IsAdded author_of w.seen reported (NodeStep old.cell.opening.name k noted pass step call) v.seen) stamped_is by_name in
      now_recorded represents old (record { cell = new; waiting = waiting }) w v reported event noted pass step call r t is says may typed author by_stamp

  pub desk_taken : (seen log : List HistoryEntry) → IsAdded author_of w.seen reported (NodeStep name stamp noted pass step call) seen → log ≡ seen → IfSome new.last (λ (s : Step). HasTaken log new.opening.name new.stamp event pass s call)
  desk_taken seen log a same =
      let there : Contains log (NodeStep name stamp noted pass step call) = subst (λ (l : List HistoryEntry). Contains l (NodeStep name stamp noted pass step call)) (sym same) (has_added w.seen reported seen (NodeStep name stamp noted pass step call) a) in
      let at_name = subst (λ (n : NodeName). Contains log (NodeStep n stamp noted pass step call)) named there in
      let at_stamp = subst (λ (k : ℕ). Contains log (NodeStep new.opening.name k noted pass step call)) stamped_is at_name in
      some_last new.last t.step (λ (s : Step). HasTaken log new.opening.name new.stamp event pass s call) t.last (noted, step, at_stamp, is, says)

  pub desk_after : (seen log : List HistoryEntry) → IsAdded author_of w.seen reported (NodeStep name stamp noted pass step call) seen → log ≡ seen → IfSome new.last (λ (s : Step). HasTakenAfter reported log new.opening.name new.stamp event pass s call)
  desk_after seen log a same =
      let here : StandsAfter reported log (NodeStep name stamp noted pass step call) = subst (λ (l : List HistoryEntry). StandsAfter reported l (NodeStep name stamp noted pass step call)) (sym same) (stands_last w.seen reported seen (NodeStep name stamp noted pass step call) a) in
      let at_name = subst (λ (n : NodeName). StandsAfter reported log (NodeStep n stamp noted pass step call)) named here in
      let at_stamp = subst (λ (k : ℕ). StandsAfter reported log (NodeStep new.opening.name k noted pass step call)) stamped_is at_name in
      some_last new.last t.step (λ (s : Step). HasTakenAfter reported log new.opening.name new.stamp event pass s call) t.last (noted, step, at_stamp, is, says)

-- ---- the step in a longer history

pub taken_in : (new : List HistoryEntry) (name : NodeName) (stamp : ℕ) (event : Event) (noted : Snapshot Event) (pass : ℕ) (step : Snapshot Step) (s : Step) (call : Option CallId)
    → Contains new (NodeStep name stamp noted pass step call) → noted.value ≡ event → step.value ≡ s → HasTaken new name stamp event pass s call
taken_in new name stamp event noted pass step s call there is says = (noted, step, there, is, says)

taken_later : (xs ys : List HistoryEntry) (name : NodeName) (stamp : ℕ) (event : Event) (pass : ℕ) (step : Step) (call : Option CallId) → IsPrefix xs ys → HasTaken xs name stamp event pass step call → HasTaken ys name stamp event pass step call
taken_later xs ys name stamp event pass step call p (e, s, there, is, says) =
    (e, s, in_later xs ys (NodeStep name stamp e pass s call) p there, is, says)

pub accepted_later : (xs ys : List HistoryEntry) (name : NodeName) (call : CallId) (c : Call) → IsPrefix xs ys → HasAccepted xs name call c → HasAccepted ys name call c
accepted_later xs ys name call c p h =
    record { event = h.event; step = h.step; taken = taken_later xs ys name c.asked.stamp h.event c.pass h.step (Some call) p h.taken; under = h.under }

pub answered_later : (xs ys : List HistoryEntry) (name : NodeName) (ticket stamp : ℕ) (answer : Answer) → IsPrefix xs ys → HasAnswered xs name ticket stamp answer → HasAnswered ys name ticket stamp answer
answered_later xs ys name ticket stamp answer p h =
    record { event = h.event; pass = h.pass; step = h.step; accepted = h.accepted; taken = taken_later xs ys name stamp h.event h.pass h.step h.accepted p h.taken; out = h.out }

-- ---- the replies of a step

-- the call that is found under a ticket has it
found_under : (calls : List Call) (ticket : ℕ) (c : Call) → call_under calls ticket ≡ Some c → c.ticket ≡ ticket
found_under [] ticket c is = absurd cc
found_under (d ∷ ds) ticket c is = grind (arith, found_under ds ticket c, eqb-true d.ticket ticket)

-- a receipt is of the step, and of an answer among its outs
abbrev IsOfStep : Receipt → List Out → Called → Type 0
IsOfStep receipt os c = (c.answered ≡ receipt) × IsIn os (outs.Answer c.call.ticket c.answer)

one_of_step : (calls : List Call) (receipt : Receipt) (ticket : ℕ) (answer : Answer) (os : List Out) → IsIn os (outs.Answer ticket answer)
    → (o : Option Call) → call_under calls ticket ≡ o → AllByRecursion (IsOfStep receipt os) (answered_call o receipt answer)
one_of_step calls receipt ticket answer os i None is = tt
one_of_step calls receipt ticket answer os i (Some c) is =
    ((refl, subst (λ (n : ℕ). IsIn os (outs.Answer n answer)) (sym (found_under calls ticket c is)) i), tt)

by_out : (calls : List Call) (receipt : Receipt) (o : Out) (os : List Out) → IsIn os o → AllByRecursion (IsOfStep receipt os) (called_by calls receipt o)
by_out calls receipt (outs.Send to m) os i = tt
by_out calls receipt (outs.Answer ticket answer) os i = one_of_step calls receipt ticket answer os i (call_under calls ticket) refl

all_both : (P : Called → Type 0) (xs ys : List Called) → AllByRecursion P xs → AllByRecursion P ys → AllByRecursion P (xs ++ ys)
all_both P [] ys a b = b
all_both P (x ∷ xs) ys a b = (a.0, all_both P xs ys a.1 b)

of_outs : (calls : List Call) (receipt : Receipt) (some all : List Out) → ((o : Out) → IsIn some o → IsIn all o) → AllByRecursion (IsOfStep receipt all) (called_in calls receipt some)
of_outs calls receipt [] all sub = tt
of_outs calls receipt (o ∷ os) all sub =
    all_both (IsOfStep receipt all) (called_by calls receipt o) (called_in calls receipt os) (by_out calls receipt o all (sub o (inl refl))) (of_outs calls receipt os all (λ p i. sub p (inr i)))

replied_each : (log : List HistoryEntry) (name : NodeName) (receipt : Receipt) (event : Event) (pass : ℕ) (step : Step) (call : Option CallId) → HasTaken log name receipt.stamp event pass step call
    → (cs : List Called) → AllByRecursion (IsOfStep receipt step.outs) cs → HaveReplied log name cs
replied_each log name receipt event pass step call taken [] a = tt
replied_each log name receipt event pass step call taken (c ∷ cs) a = (
  record {
    event = event;
    pass = pass;
    step = step;
    accepted = call;
    taken = subst (λ (r : Receipt). HasTaken log name r.stamp event pass step call) (sym a.0.0) taken;
    out = to_contains step.outs (outs.Answer c.call.ticket c.answer) a.0.1;
  },
  replied_each log name receipt event pass step call taken cs a.1,
)

-- each call receipt of a step is a reply that the node gave in it
pub step_replied : (log : List HistoryEntry) (name : NodeName) (receipt : Receipt) (event : Event) (pass : ℕ) (step : Step) (call : Option CallId) (old new : List Call) (calls : Result (Vec Called Global) AllocError)
    → HasTaken log name receipt.stamp event pass step call → CallsOf old new event receipt pass step calls → IfOk calls (λ (receipts : Vec Called Global). HaveReplied log name receipts.items)
step_replied log name receipt event pass step call old new (Ok receipts) taken calls =
    let own : List Call = accepted (ask_of event) step.ticket receipt pass in
    subst (HaveReplied log name) (sym calls.0) (replied_each log name receipt event pass step call taken (called_in (old ++ own) receipt step.outs) (of_outs (old ++ own) receipt step.outs step.outs (λ o i. i)))
step_replied log name receipt event pass step call old new (Err e) taken calls = tt

-- ---- facts of a cell's last step

pub never : (o : Option Step) (s : Step) → o ≡ None → o ≡ Some s → ⊥
never o s none is = cc

pub same_some : {A : Type 0} {x y : A} → Some x ≡ Some y → x ≡ y
same_some h = cc h

at_last : (o : Option Step) (s : Step) (P : Step → Type 0) → o ≡ Some s → IfSome o P → P s
at_last o s P is h = subst (λ (x : Option Step). IfSome x P) is h

pub last_replied : {C : Type 0} (log : List HistoryEntry) (cell : Celled C Event) (event : Event) (pass : ℕ) (call : Option CallId) (s : Step) → cell.last ≡ Some s
    → IfSome cell.last (λ (x : Step). HasTaken log cell.opening.name cell.stamp event pass x call) → (receipt : Receipt) → receipt ≡ receipt_of cell → (old new : List Call) (calls : Result (Vec Called Global) AllocError)
    → IfSome cell.last (λ (x : Step). CallsOf old new event receipt pass x calls) → IfOk calls (λ (receipts : Vec Called Global). HaveReplied log cell.opening.name receipts.items)
last_replied log cell event pass call s last taken receipt is old new calls served =
    let name : NodeName = cell.opening.name in
    let here : HasTaken log name cell.stamp event pass s call = at_last cell.last s (λ (x : Step). HasTaken log name cell.stamp event pass x call) last taken in
    let there : HasTaken log name receipt.stamp event pass s call = subst (λ (r : Receipt). HasTaken log name r.stamp event pass s call) (sym is) here in
    step_replied log name receipt event pass s call old new calls there (at_last cell.last s (λ (x : Step). CallsOf old new event receipt pass x calls) last served)
