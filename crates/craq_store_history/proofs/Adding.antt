-- Entries that each author may add, and the history that it has then seen.
use Rattle.std.proofs.Common.{◌≡◌, ◌≢◌, ℕ, ◌==◌, if◌then◌else◌, List, [], ◌∷◌, ◌++◌, Option, Some, None, Ok, refl, sym, ap, subst, ◌∙◌, inl, inr, append-nil, append_assoc, eq-eqb, ne_eqb, arith}
use mathlib.Core.List.{IsPrefix}
use Rattle.std.specs.declared.snapshot.Snapshot.{Snapshot}
use Rattle.craq_names.specs.declared.name.NodeName.{NodeName}
use Rattle.craq_model.specs.declared.ask.Ask.{Ask}
use Rattle.craq_model.specs.declared.ask.Event.{Event}
use Rattle.craq_model.specs.declared.step.Step.{Step}
use Rattle.craq_model.specs.Plain.{Plain}
use Rattle.craq_epochs.specs.Mastered.{Mastered}
use Rattle.craq_epochs.specs.Mastered as masters
use Rattle.craq_runs.specs.Typed.{IsTypedRunOf}
use Rattle.craq_seat.specs.declared.journal.BookEvent.{BookEvent}
use Rattle.craq_seat.specs.declared.journal.Record.{Record}
use Rattle.craq_seat.specs.Merge.{MergedStep, book_line, node_line, run_of}
use Rattle.craq_causality.specs.Authors.{IsMasterAfter, IsNodeAfter}
use Rattle.craq_causality.specs.Causal.{AreCausal, AreFew, AreTyped}
use Rattle.craq_causality.proofs.Growing.{joined_later, master_follows, master_more, no_lines, node_follows, node_more, sent_later, stopped_later, typed_more}
use Rattle.craq_causality.proofs.Nodes.{same_or_not}
use Rattle.craq_causality.proofs.Start.{is_typed_run}
use Rattle.craq_ghost_history.specs.declared.author.Author.TheVariants.{Node, Client}
use Rattle.craq_ghost_history.specs.Authors.{of}
use Rattle.craq_ghost_history.specs.Histories.{IsAdded, MayAdd}
use Rattle.craq_ghost_history.proofs.Prefixes.{prefix_append}
use Rattle.craq_store_history.specs.declared.entry.CallId.{CallId}
use Rattle.craq_store_history.specs.declared.entry.HistoryEntry.{HistoryEntry}
use Rattle.craq_store_history.specs.declared.entry.HistoryEntry.TheVariants.{ChainOpened, ClientCall, NodeStep, MasterStep, CallTakenBack}
use Rattle.craq_store_history.specs.Entries.{author_of, first_some, line_in, lines_in, master_record, members_in, node_record, opened_by, permit_of}
use Rattle.craq_store_history.specs.Chains.{AreCalls, ChainHolds, IsHistory}
use Rattle.craq_store_history.specs.Steps.{IsMasterAt, IsNodeAt, MayMake, MayOpen, MayOrder, MayStep}
use Rattle.craq_store_history.proofs.Calls.{accepts_later, below_later, calls_more}
use Rattle.craq_store_history.proofs.Permits.{once_more}
use Rattle.craq_store_history.proofs.Lines.{lines_more, lines_prefix, members_more, members_prefix, members_quiet, not_opened, own_same}

pub empty : IsHistory []
unfolding lines_in members_in
empty = record { chains = λ c. refl; calls = tt; once = λ p. omega arith }

-- ---- one chain

-- the entry is nothing of the chain
quiet : (c : ℕ) (log : List HistoryEntry) (e : HistoryEntry) → opened_by c e ≡ None → line_in c e ≡ [] → ChainHolds c (members_in c log) (lines_in c log) → ChainHolds c (members_in c (log ++ e ∷ [])) (lines_in c (log ++ e ∷ []))
quiet c log e h k holds =
    let ls : lines_in c (log ++ e ∷ []) ≡ lines_in c log = lines_more c log e ∙ (ap (λ z. lines_in c log ++ z) k ∙ append-nil (lines_in c log)) in
    rw (members_quiet c log e h, ls) holds

-- the entry is a line of the chain
line_holds : (c : ℕ) (log : List HistoryEntry) (e : HistoryEntry) (members : List ℕ) (l : MergedStep) → members_in c log ≡ Some members → opened_by c e ≡ None → line_in c e ≡ l ∷ [] → AreCausal c members (lines_in c log ++ l ∷ []) → AreTyped (lines_in c log ++ l ∷ []) → ChainHolds c (members_in c (log ++ e ∷ [])) (lines_in c (log ++ e ∷ []))
line_holds c log e members l opened h k a typed =
    let ms : members_in c (log ++ e ∷ []) ≡ Some members = members_quiet c log e h ∙ opened in
    let ls : lines_in c (log ++ e ∷ []) ≡ lines_in c log ++ l ∷ [] = lines_more c log e ∙ ap (λ z. lines_in c log ++ z) k in
    rw (ms, ls) (a, typed)

causal_in : (c : ℕ) (log : List HistoryEntry) (members : List ℕ) → members_in c log ≡ Some members → ChainHolds c (members_in c log) (lines_in c log) → AreCausal c members (lines_in c log) × AreTyped (lines_in c log)
causal_in c log members opened h = rw opened at h

-- ---- steps of nodes

node_over : (name : NodeName) (members : List ℕ) (xs ys : List HistoryEntry) (p : Plain) (stamp : ℕ) → of author_of (Node name.chain name.node) xs ≡ of author_of (Node name.chain name.node) ys → IsNodeAfter name.chain members name.node (lines_in name.chain xs) p stamp → IsNodeAfter name.chain members name.node (lines_in name.chain ys) p stamp
node_over name members xs ys p stamp h n =
    record { records = n.records; are = sym (own_same name.chain name.node xs ys h) ∙ n.are; replay = n.replay; low = n.low; stamps = n.stamps }

node_here : (name : NodeName) (seen reported log : List HistoryEntry) (stamp : ℕ) (event : Snapshot Event) (pass : ℕ) (step : Snapshot Step) (call : Option CallId) (next : Plain)
    → MayStep name seen reported (node_record stamp event pass step) call next → IsHistory log → IsPrefix seen log → IsPrefix reported log → of author_of (Node name.chain name.node) seen ≡ of author_of (Node name.chain name.node) log
    → ChainHolds name.chain (members_in name.chain (log ++ NodeStep name stamp event pass step call ∷ [])) (lines_in name.chain (log ++ NodeStep name stamp event pass step call ∷ []))
node_here name seen reported log stamp event pass step call next m h kept heard own =
    let c : ℕ = name.chain in
    let e : HistoryEntry = NodeStep name stamp event pass step call in
    let r : Record Event = node_record stamp event pass step in
    let opened : members_in c log ≡ Some m.at.members = members_prefix c seen log m.at.members kept m.at.opened in
    let old = causal_in c log m.at.members opened (h.chains c) in
    line_holds c log e m.at.members (node_line name.node r) opened refl (rw (eq-eqb c c refl) refl)
    (node_follows c m.at.members (lines_in c log) name.node m.node next m.stamp r old.0 m.at.member
    (node_over name m.at.members seen log m.node m.stamp own m.at.after) m.step m.later
    (joined_later m.at.members (lines_in c seen) (lines_in c log) name.node (lines_prefix c seen log kept) m.at.joined, sent_later (lines_in c reported) (lines_in c log) event.value (lines_prefix c reported log heard) m.sent))
    (typed_more (lines_in c log) (node_line name.node r) old.1 m.typed)

pub node_may : (name : NodeName) (seen reported : List HistoryEntry) (stamp : ℕ) (event : Snapshot Event) (pass : ℕ) (step : Snapshot Step) (call : Option CallId) (next : Plain) → MayStep name seen reported (node_record stamp event pass step) call next → MayAdd author_of permit_of IsHistory seen reported (NodeStep name stamp event pass step call)
node_may name seen reported stamp event pass step call next m log h kept heard own free =
    let e : HistoryEntry = NodeStep name stamp event pass step call in
    record {
      chains = λ c. elim (same_or_not name.chain c) [
        | inl is ↦ subst (λ k. ChainHolds k (members_in k (log ++ e ∷ [])) (lines_in k (log ++ e ∷ []))) is (node_here name seen reported log stamp event pass step call next m h kept heard own)
        | inr d ↦ quiet c log e refl (rw (ne_eqb name.chain c d) refl) (h.chains c)
      ];
      calls = calls_more [] log e h.calls (accepts_later reported log name event.value call heard m.called);
      once = once_more log e h.once free;
    }

pub node_seen : (name : NodeName) (seen reported new : List HistoryEntry) (stamp : ℕ) (event : Snapshot Event) (pass : ℕ) (step : Snapshot Step) (call : Option CallId) (next : Plain) → MayStep name seen reported (node_record stamp event pass step) call next → IsAdded author_of seen reported (NodeStep name stamp event pass step call) new → IsNodeAt name new next stamp
node_seen name seen reported new stamp event pass step call next m a =
    let c : ℕ = name.chain in
    let e : HistoryEntry = NodeStep name stamp event pass step call in
    let r : Record Event = node_record stamp event pass step in
    let before : List HistoryEntry = a.before in
    let kept : IsPrefix seen (before ++ e ∷ []) = prefix_append seen before (e ∷ []) a.kept in
    let line : line_in c e ≡ node_line name.node r ∷ [] = rw (eq-eqb c c refl) refl in
    let ls : lines_in c (before ++ e ∷ []) ≡ lines_in c before ++ node_line name.node r ∷ [] = lines_more c before e ∙ ap (λ z. lines_in c before ++ z) line in
    subst (λ l. IsNodeAt name l next stamp) (sym a.now) (record {
      members = m.at.members;
      opened = members_prefix c seen (before ++ e ∷ []) m.at.members kept m.at.opened;
      member = m.at.member;
      joined = joined_later m.at.members (lines_in c seen) (lines_in c (before ++ e ∷ [])) name.node (lines_prefix c seen (before ++ e ∷ []) kept) m.at.joined;
      after = rw ls (node_more c m.at.members name.node (lines_in c before) m.node next m.stamp r (node_over name m.at.members seen before m.node m.stamp (sym a.own) m.at.after) m.step m.later);
    })

-- ---- steps of masters

master_over : (c : ℕ) (members : List ℕ) (xs ys : List HistoryEntry) (p : Mastered) (stamp : ℕ) → of author_of (Node c 0) xs ≡ of author_of (Node c 0) ys → IsMasterAfter c members (lines_in c xs) p stamp → IsMasterAfter c members (lines_in c ys) p stamp
master_over c members xs ys p stamp h n =
    record { records = n.records; are = sym (own_same c 0 xs ys h) ∙ n.are; replay = n.replay; stamps = n.stamps }

master_here : (c : ℕ) (seen reported log : List HistoryEntry) (stamp : ℕ) (event : BookEvent) (pass : ℕ) (step : Snapshot Step) (next : Mastered)
    → MayOrder c seen reported (master_record stamp event pass step) next → IsHistory log → IsPrefix seen log → IsPrefix reported log → of author_of (Node c 0) seen ≡ of author_of (Node c 0) log
    → ChainHolds c (members_in c (log ++ MasterStep c stamp event pass step ∷ [])) (lines_in c (log ++ MasterStep c stamp event pass step ∷ []))
master_here c seen reported log stamp event pass step next m h kept heard own =
    let e : HistoryEntry = MasterStep c stamp event pass step in
    let r : Record BookEvent = master_record stamp event pass step in
    let opened : members_in c log ≡ Some m.at.members = members_prefix c seen log m.at.members kept m.at.opened in
    let old = causal_in c log m.at.members opened (h.chains c) in
    line_holds c log e m.at.members (book_line r) opened refl (rw (eq-eqb c c refl) refl)
    (master_follows c m.at.members (lines_in c log) m.master next m.stamp r old.0
    (master_over c m.at.members seen log m.master m.stamp own m.at.after) m.step m.later
    (stopped_later (lines_in c reported) (lines_in c log) event (lines_prefix c reported log heard) m.stopped))
    (typed_more (lines_in c log) (book_line r) old.1 tt)

pub master_may : (chain : ℕ) (seen reported : List HistoryEntry) (stamp : ℕ) (event : BookEvent) (pass : ℕ) (step : Snapshot Step) (next : Mastered) → MayOrder chain seen reported (master_record stamp event pass step) next → MayAdd author_of permit_of IsHistory seen reported (MasterStep chain stamp event pass step)
master_may chain seen reported stamp event pass step next m log h kept heard own free =
    let e : HistoryEntry = MasterStep chain stamp event pass step in
    record {
      chains = λ c. elim (same_or_not chain c) [
        | inl is ↦ subst (λ k. ChainHolds k (members_in k (log ++ e ∷ [])) (lines_in k (log ++ e ∷ []))) is (master_here chain seen reported log stamp event pass step next m h kept heard own)
        | inr d ↦ quiet c log e refl (rw (ne_eqb chain c d) refl) (h.chains c)
      ];
      calls = calls_more [] log e h.calls tt;
      once = once_more log e h.once free;
    }

pub master_seen : (c : ℕ) (seen reported new : List HistoryEntry) (stamp : ℕ) (event : BookEvent) (pass : ℕ) (step : Snapshot Step) (next : Mastered) → MayOrder c seen reported (master_record stamp event pass step) next → IsAdded author_of seen reported (MasterStep c stamp event pass step) new → IsMasterAt c new next stamp
master_seen c seen reported new stamp event pass step next m a =
    let e : HistoryEntry = MasterStep c stamp event pass step in
    let r : Record BookEvent = master_record stamp event pass step in
    let before : List HistoryEntry = a.before in
    let kept : IsPrefix seen (before ++ e ∷ []) = prefix_append seen before (e ∷ []) a.kept in
    let line : line_in c e ≡ book_line r ∷ [] = rw (eq-eqb c c refl) refl in
    let ls : lines_in c (before ++ e ∷ []) ≡ lines_in c before ++ book_line r ∷ [] = lines_more c before e ∙ ap (λ z. lines_in c before ++ z) line in
    subst (λ l. IsMasterAt c l next stamp) (sym a.now) (record {
      members = m.at.members;
      opened = members_prefix c seen (before ++ e ∷ []) m.at.members kept m.at.opened;
      after = rw ls (master_more c m.at.members (lines_in c before) m.master next m.stamp r (master_over c m.at.members seen before m.master m.stamp (sym a.own) m.at.after) m.step m.later);
    })

-- ---- chains that are opened

none_holds : (c : ℕ) (log : List HistoryEntry) → members_in c log ≡ None → ChainHolds c (members_in c log) (lines_in c log) → lines_in c log ≡ []
none_holds c log none h = rw none at h

opened_here : (c : ℕ) (log : List HistoryEntry) (members : Snapshot (List ℕ)) → MayOpen c log members.value → ChainHolds c (members_in c log) (lines_in c log) → ChainHolds c (members_in c (log ++ ChainOpened c members ∷ [])) (lines_in c (log ++ ChainOpened c members ∷ []))
opened_here c log members m h =
    let e : HistoryEntry = ChainOpened c members in
    let none : members_in c log ≡ None = not_opened c log m.first in
    let by : opened_by c e ≡ Some members.value = rw (eq-eqb c c refl) refl in
    let ms : members_in c (log ++ e ∷ []) ≡ Some members.value = members_more c log e ∙ rw (none, by) refl in
    let ls : lines_in c (log ++ e ∷ []) ≡ [] = lines_more c log e ∙ (append-nil (lines_in c log) ∙ none_holds c log none h) in
    rw (ms, ls) (no_lines c members.value m.membership, tt)

pub opened_may : (chain : ℕ) (seen reported : List HistoryEntry) (members : Snapshot (List ℕ)) → MayOpen chain seen members.value → MayAdd author_of permit_of IsHistory seen reported (ChainOpened chain members)
opened_may chain seen reported members m log h kept heard own free =
    let e : HistoryEntry = ChainOpened chain members in
    let now : MayOpen chain log members.value = record { first = sym own ∙ m.first; membership = m.membership } in
    record {
      chains = λ c. elim (same_or_not chain c) [
        | inl is ↦ subst (λ k. ChainHolds k (members_in k (log ++ e ∷ [])) (lines_in k (log ++ e ∷ []))) is (opened_here chain log members now (h.chains chain))
        | inr d ↦ quiet c log e (rw (ne_eqb chain c d) refl) refl (h.chains c)
      ];
      calls = calls_more [] log e h.calls tt;
      once = once_more log e h.once free;
    }

-- ---- calls

pub called_may : (seen reported : List HistoryEntry) (call : CallId) (name : NodeName) (ask : Snapshot Ask) → MayMake seen call → MayAdd author_of permit_of IsHistory seen reported (ClientCall call name ask)
called_may seen reported call name ask m log h kept heard own free =
    let e : HistoryEntry = ClientCall call name ask in
    record {
      chains = λ c. quiet c log e refl refl (h.chains c);
      calls = calls_more [] log e h.calls (below_later call seen log own m);
      once = once_more log e h.once free;
    }

pub withdrawn_may : (seen reported : List HistoryEntry) (call : CallId) → MayAdd author_of permit_of IsHistory seen reported (CallTakenBack call)
withdrawn_may seen reported call log h kept heard own free =
    let e : HistoryEntry = CallTakenBack call in
    record {
      chains = λ c. quiet c log e refl refl (h.chains c);
      calls = calls_more [] log e h.calls tt;
      once = once_more log e h.once free;
    }

-- ---- each chain is a run

pub chain_is_a_run : (log : List HistoryEntry) (c : ℕ) (members : List ℕ) → IsHistory log → members_in c log ≡ Some members → AreFew (lines_in c log) → IsTypedRunOf c (run_of members (lines_in c log))
chain_is_a_run log c members h opened few =
    let a = causal_in c log members opened (h.chains c) in is_typed_run c members (lines_in c log) a.0 a.1 few
