-- A refusal of a node at a moment of the history.
use Rattle.std.proofs.Common.{◌≡◌, ◌∙◌, ℕ, List, Option, Some, None, Result, Ok, Err, sym, subst, inl, inr}
use Rattle.std.specs.Prelude.{IsSome, ◌⊎◌}
use mathlib.Core.List.{IsPrefix}
use Rattle.craq_names.specs.declared.name.NodeName.{NodeName}
use Rattle.craq_names.specs.declared.refusal.Refusal.{Refusal}
use Rattle.craq_names.specs.Order.{RefusesWhere}
use Rattle.craq_model.specs.declared.ask.Ask.{Ask}
use Rattle.craq_model.specs.declared.ask.Event.{Event}
use Rattle.craq_model.specs.declared.ask.Event.TheVariants as events
use Rattle.craq_model.specs.declared.step.Step.{Step}
use Rattle.craq_model.specs.Node.{node_step}
use Rattle.craq_model.specs.Plain.{Plain}
use Rattle.craq_seat.specs.declared.journal.Receipt.{Receipt}
use Rattle.craq_seat.specs.declared.journal.Record.{Record}
use Rattle.craq_seat.specs.Calls.{Desked}
use Rattle.craq_seat.specs.Cells.{Celled, cell_step, receipt_of, recorded, stamped, with_inside}
use Rattle.craq_seat.specs.Merge.{MergedStep}
use Rattle.craq_seat.specs.Stamps.{event_stamp, next_stamp}
use Rattle.craq_seat.specs.Taken.{TakesEvent}
use Rattle.craq_causality.specs.Causal.{HasStopped}
use Rattle.craq_causality.proofs.Growing.{joined_later}
use Rattle.craq_ghost_history.specs.declared.author.Author.{Author}
use Rattle.craq_ghost_history.specs.declared.author.Author.TheVariants.{Node}
use Rattle.craq_ghost_history.specs.Authors.{of}
use Rattle.craq_ghost_history.specs.Histories.{Written}
use Rattle.craq_store_history.specs.declared.entry.CallId.{CallId}
use Rattle.craq_store_history.specs.declared.entry.HistoryEntry.{HistoryEntry}
use Rattle.craq_store_history.specs.declared.entry.HistoryEntry.TheVariants.{ClientCall}
use Rattle.craq_store_history.specs.Chains.{Accepts, WasCalled}
use Rattle.craq_store_history.specs.Entries.{author_of, lines_in}
use Rattle.craq_store_history.specs.Steps.{IsNodeAt}
use Rattle.craq_store_history.proofs.Lines.{lines_prefix, members_prefix, own_same}
use Rattle.craq_store_parts.specs.Recorded.{AreLinesOf, IsRecorded, MayHappen}
use Rattle.craq_store_parts.specs.Sent.{Following, MadeCall, made_in}
use Rattle.craq_store_parts.specs.Witnessed.{HasRefusedCall, RefusesAt, RefusesEvent}
use Rattle.craq_store_parts.proofs.Recording.{Stays, in_later, last_later, line_later, stays, still_recorded}

-- ---- a node that sees more has the same steps

stopped_after : (xs ys : List MergedStep) (name : NodeName) (stop : Receipt) → IsPrefix xs ys → HasStopped xs name stop → HasStopped ys name stop
stopped_after xs ys name stop p (l, there, node, under, event) = (l, line_later xs ys l p there, node, under, event)

node_at_later : (name : NodeName) (xs ys : List HistoryEntry) (node : Plain) (stamp : ℕ) → IsPrefix xs ys → of author_of (Node name.chain name.node) ys ≡ of author_of (Node name.chain name.node) xs → IsNodeAt name xs node stamp → IsNodeAt name ys node stamp
node_at_later name xs ys node stamp p own n =
    record {
      members = n.members;
      opened = members_prefix name.chain xs ys n.members p n.opened;
      member = n.member;
      joined = joined_later n.members (lines_in name.chain xs) (lines_in name.chain ys) name.node (lines_prefix name.chain xs ys p) n.joined;
      after = record { records = n.after.records; are = own_same name.chain name.node ys xs own ∙ n.after.are; replay = n.after.replay; low = n.after.low; stamps = n.after.stamps };
    }

journal_later : (name : NodeName) (xs ys : List HistoryEntry) (journal : Option (List (Record Event))) → of author_of (Node name.chain name.node) ys ≡ of author_of (Node name.chain name.node) xs → AreLinesOf (lines_in name.chain xs) name.node journal → AreLinesOf (lines_in name.chain ys) name.node journal
journal_later name xs ys None own h = tt
journal_later name xs ys (Some rs) own h = own_same name.chain name.node ys xs own ∙ h

pub recorded_later : {C : Type 0} (represents : C → Plain → Type 0) (d : Desked C) (w v : Written HistoryEntry) (r : IsRecorded represents d w) → v.author ≡ w.author → of author_of w.author v.seen ≡ of author_of w.author w.seen → IsPrefix w.seen v.seen
    → IsRecorded represents d v
recorded_later represents d w v r kept own p =
    let name : NodeName = d.cell.opening.name in
    let more : IsPrefix (lines_in name.chain w.seen) (lines_in name.chain v.seen) = lines_prefix name.chain w.seen v.seen p in
    record {
      author = kept ∙ r.author;
      node = r.node;
      stands = r.stands;
      at = node_at_later name w.seen v.seen r.node d.cell.stamp p (subst (λ (a : Author). of author_of a v.seen ≡ of author_of a w.seen) r.author own) r.at;
      last = last_later (lines_in name.chain w.seen) (lines_in name.chain v.seen) name.node d.cell.stamp d.cell.last more r.last;
      stopped = λ off. stopped_after (lines_in name.chain w.seen) (lines_in name.chain v.seen) name (receipt_of d.cell) more (r.stopped off);
      journal = journal_later name w.seen v.seen d.cell.journal (subst (λ (a : Author). of author_of a v.seen ≡ of author_of a w.seen) r.author own) r.journal;
    }

-- ---- the refusal of a cell

by_step : (c : Celled Plain Event) (stamp : ℕ) (event : Event) (pass : ℕ) (e : Refusal) (r : Result (Plain × Step) Refusal) → recorded c stamp event pass r ≡ Err e → r ≡ Err e
by_step c stamp event pass e (Ok t) is = absurd cc
by_step c stamp event pass e (Err d) is = cc

by_stamp : (c : Celled Plain Event) (event : Event) (pass : ℕ) (e : Refusal) (r : Result ℕ Refusal) → stamped node_step c event pass r ≡ Err e → (r ≡ Err e) ⊎ (node_step c.inside event ≡ Err e)
by_stamp c event pass e (Ok stamp) is = inr (by_step c stamp event pass e (node_step c.inside event) is)
by_stamp c event pass e (Err d) is = inl cc

by_cell : (can : Type 0) (c : Celled Plain Event) (event : Event) (pass : ℕ) (e : Refusal) → RefusesWhere can e (cell_step node_step c event (event_stamp event) pass) → RefusesEvent c.inside c.stamp event pass e
unfolding cell_step
by_cell can c event pass e (inl m) = inl m.0
by_cell can c event pass e (inr is) = inr (by_stamp c event pass e (next_stamp c.stamp pass (event_stamp event)) is)

-- a cell that refuses an event refuses it by the rules of the node for which its core stands
pub refuses_event : {C : Type 0} (represents : C → Plain → Type 0) (old new : Celled C Event) (p : Plain) (event : Event) (pass : ℕ) (e : Refusal) → TakesEvent represents new (with_inside old p) event pass (Err e)
    → RefusesEvent p old.stamp event pass e
refuses_event represents old new p event pass e (n, is, stands) = by_cell _ (with_inside old p) event pass e is.0

-- so does the node that its entries in the history lead to
pub refuses_at : {C : Type 0} (represents : C → Plain → Type 0) (old new : Desked C) (w : Written HistoryEntry) (event : Event) (pass : ℕ) (e : Refusal) (r : IsRecorded represents old w) → TakesEvent represents new.cell (with_inside old.cell r.node) event pass (Err e)
    → RefusesAt w.seen new.cell.opening.name new.cell.stamp event pass e
refuses_at represents old new w event pass e r takes =
    let s : Stays represents old.cell new.cell r.node = stays represents old.cell new.cell r.node event pass e takes in
    let here : RefusesAt w.seen old.cell.opening.name old.cell.stamp event pass e = (r.node, r.at, refuses_event represents old.cell new.cell r.node event pass e takes) in
    rw (s.opening, s.stamp) here

pub refused_recorded : {C : Type 0} (represents : C → Plain → Type 0) (old new : Desked C) (w : Written HistoryEntry) (event : Event) (pass : ℕ) (e : Refusal) (r : IsRecorded represents old w) → TakesEvent represents new.cell (with_inside old.cell r.node) event pass (Err e) → IsRecorded represents new w
refused_recorded represents old new w event pass e r takes = still_recorded represents old new w r (stays represents old.cell new.cell r.node event pass e takes)

pub accepts_still : {C : Type 0} (represents : C → Plain → Type 0) (old new : Desked C) (w : Written HistoryEntry) (event : Event) (pass : ℕ) (e : Refusal) (o : Following) (r : IsRecorded represents old w) → TakesEvent represents new.cell (with_inside old.cell r.node) event pass (Err e)
    → MayHappen o.seen old.cell.opening.name event o.call → Accepts o.seen new.cell.opening.name event o.call
accepts_still represents old new w event pass e o r takes may =
    let s : Stays represents old.cell new.cell r.node = stays represents old.cell new.cell r.node event pass e takes in rw s.opening may.called

-- ---- the refusal of a call

-- the call of an origin that gives it back
its_call : (seen : List HistoryEntry) (c : Option CallId) (made : MadeCall) → made_in (record { call = c; seen = seen }) ≡ Some made → (c ≡ Some made.call) × (made.seen ≡ seen)
its_call seen None made is = absurd cc
its_call seen (Some call) made is = (cc, cc)

-- an origin that gives nothing back has no call
pub no_call : (seen : List HistoryEntry) (c : Option CallId) → made_in (record { call = c; seen = seen }) ≡ None → IsSome c → ⊥
no_call seen None is some = cc
no_call seen (Some call) is some = cc

-- the request that is refused
pub asks_call : (o : Following) (made : MadeCall) (log : List HistoryEntry) (name : NodeName) (stamp : ℕ) (event : Event) (pass : ℕ) (e : Refusal) → made_in o ≡ Some made → Accepts o.seen name event o.call → RefusesAt log name stamp event pass e
    → (ask : Ask) × WasCalled made.seen made.call name ask × RefusesAt log name stamp (events.Ask ask) pass e
asks_call o made log name stamp event pass e back accepts refuses =
    let own = its_call o.seen o.call made back in
    let of_call : Accepts o.seen name event (Some made.call) = subst (λ (c : Option CallId). Accepts o.seen name event c) own.0 accepts in (
      of_call.0,
      subst (λ (l : List HistoryEntry). WasCalled l made.call name of_call.0) (sym own.1) of_call.2,
      subst (λ (x : Event). RefusesAt log name stamp x pass e) of_call.1 refuses,
    )

-- the node refuses it still, once it has seen the call
pub refused_call : {C : Type 0} (represents : C → Plain → Type 0) (d : Desked C) (w v : Written HistoryEntry) (made : MadeCall) (pass : ℕ) (e : Refusal) → IsRecorded represents d w → (ask : Ask) → WasCalled made.seen made.call d.cell.opening.name ask → RefusesAt w.seen d.cell.opening.name d.cell.stamp (events.Ask ask) pass e
    → of author_of w.author v.seen ≡ of author_of w.author w.seen → IsPrefix w.seen v.seen → IsPrefix made.seen v.seen → HasRefusedCall v.seen made.call pass e
refused_call represents d w v made pass e r ask called refuses own p heard =
    let name : NodeName = d.cell.opening.name in
    let same : of author_of (Node name.chain name.node) v.seen ≡ of author_of (Node name.chain name.node) w.seen = subst (λ (a : Author). of author_of a v.seen ≡ of author_of a w.seen) r.author own in
    let second : HistoryEntry = ClientCall made.call name called.0 in (
      name,
      ask,
      (called.0, in_later made.seen v.seen second heard called.1, called.2),
      (d.cell.stamp, (refuses.0, node_at_later name w.seen v.seen refuses.0 d.cell.stamp p same refuses.1, refuses.2)),
    )
