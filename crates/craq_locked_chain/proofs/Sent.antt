-- Cells whose steps one history has: each message that arrived was sent, so an audit finds its sender.
use Rattle.std.proofs.Common.{◌≡◌, ◌≢◌, ℕ, List, [], ◌∷◌, map, Option, Some, IfSome, Result, Ok, sym, subst}
use Rattle.std.specs.Prelude.{slice_get}
use Rattle.std.specs.List.{AllByRecursion}
use Rattle.craq_names.specs.declared.refusal.Refusal.{Refusal}
use Rattle.craq_model.specs.declared.ask.Event.{Event}
use Rattle.craq_model.specs.Plain.{Plain}
use Rattle.craq_epochs.specs.Mastered.{Mastered}
use Rattle.craq_seat.specs.declared.journal.BookEvent.{BookEvent}
use Rattle.craq_seat.specs.declared.journal.Record.{Record}
use Rattle.craq_seat.specs.Audits.{AreJournalsOf, HasSender, IsFirstUnsent, IsJournalOf, id_of}
use Rattle.craq_seat.specs.Books.{members_of}
use Rattle.craq_seat.specs.Calls.{Called}
use Rattle.craq_seat.specs.Cells.{Celled}
use Rattle.craq_seat.specs.Merge.{Journals, MergedStep, book_line, node_line}
use Rattle.craq_causality.specs.Authors.{lines_of}
use Rattle.craq_causality.specs.Causal.{AreCausal}
use Rattle.craq_causality.proofs.Orders.{all_in, from_contains, in_get}
use Rattle.craq_store_history.specs.declared.entry.HistoryEntry.{HistoryEntry}
use Rattle.craq_store_history.specs.Chains.{ChainHolds}
use Rattle.craq_store_history.specs.Entries.{lines_in, members_in}
use Rattle.craq_merge.proofs.Senders.{have_senders}
use Rattle.craq_audit.specs.declared.finding.Audit.{Audit}
use Rattle.craq_audit.specs.declared.finding.Audit.TheVariants as audits
use Rattle.craq_audit.specs.Audited.{Audits, CanBeAudited}
use Rattle.craq_audit.specs.Journals.{AreSent, journals_of}
use Rattle.craq_store_parts.specs.Recorded.{HasLinesIn}
use Rattle.craq_locked_chain.specs.Held.{AreOwn, Held}

-- a cell's journal has its node's lines
of_cell : {C : Type 0} (chain : ℕ) (log : List HistoryEntry) (c : Celled C Event) (n : ℕ × List (Record Event))
    → IsJournalOf c n → c.opening.name.chain ≡ chain → HasLinesIn log c → lines_of n.0 (lines_in chain log) ≡ map (node_line n.0) n.1
of_cell chain log c n h own lines =
    let kept : lines_of (id_of c) (lines_in c.opening.name.chain log) ≡ map (node_line (id_of c)) n.1 =
    subst (λ (o : Option (List (Record Event))). IfSome o (λ (rs : List (Record Event)). lines_of (id_of c) (lines_in c.opening.name.chain log) ≡ map (node_line (id_of c)) rs)) h.1 lines in
    let of_chain : lines_of (id_of c) (lines_in chain log) ≡ map (node_line (id_of c)) n.1 = subst (λ (k : ℕ). lines_of (id_of c) (lines_in k log) ≡ map (node_line (id_of c)) n.1) own kept in
    subst (λ (k : ℕ). lines_of k (lines_in chain log) ≡ map (node_line k) n.1) (sym h.0) of_chain

of_cells : {C : Type 0} (chain : ℕ) (log : List HistoryEntry) (cs : List (Celled C Event)) (ns : List (ℕ × List (Record Event)))
    → AreJournalsOf cs ns → AllByRecursion (λ (c : Celled C Event). c.opening.name.chain ≡ chain) cs → AllByRecursion (λ (c : Celled C Event). HasLinesIn log c) cs
    → AllByRecursion (λ (n : ℕ × List (Record Event)). lines_of n.0 (lines_in chain log) ≡ map (node_line n.0) n.1) ns
of_cells chain log [] [] h own lines = tt
of_cells chain log (c ∷ cs) [] h own lines = absurd h
of_cells chain log [] (n ∷ ns) h own lines = absurd h
of_cells chain log (c ∷ cs) (n ∷ ns) h own lines = (of_cell chain log c n h.0 own.0 lines.0, of_cells chain log cs ns h.1 own.1 lines.1)

causal : (chain : ℕ) (members : List ℕ) (opened : Option (List ℕ)) (lines : List MergedStep) → opened ≡ Some members → ChainHolds chain opened lines → AreCausal chain members lines
causal chain members opened lines is h = (subst (λ (o : Option (List ℕ)). ChainHolds chain o lines) is h).0

are_sent : {C : Type 0} (represents : C → Plain → Type 0) (held : Held C) → AreOwn represents held → CanBeAudited held.book held.cells → AreSent (journals_of held.book held.cells)
are_sent represents held own can =
    let j : Journals = journals_of held.book held.cells in
    let chain : ℕ = held.book.opening.name.chain in
    let log : List HistoryEntry = own.history.log in
    let lines : List MergedStep = lines_in chain log in
    let order : AreCausal chain j.members lines = causal chain (members_of held.book.opening.config) (members_in chain log) lines own.history.first (own.history.rule.chains chain) in
    let master : lines_of 0 lines ≡ map book_line j.book =
    subst (λ (o : Option (List (Record BookEvent))). IfSome o (λ (rs : List (Record BookEvent)). lines_of 0 lines ≡ map book_line rs)) can.0.master own.history.book in
    have_senders represents held.book held.cells j lines own.book own.cells can.0 can.1 order
    (record { master = master; nodes = of_cells chain log held.cells j.nodes can.0.nodes can.1.chain own.history.cells })

none_unsent : (j : Journals) (node index : ℕ) → AreSent j → IsFirstUnsent j node index → ⊥
none_unsent j node index sent first = by_record first.unsent
  where
    by_record : ((r : Record Event) × (slice_get first.records index ≡ Some r) × (¬ HasSender j r)) → ⊥
    by_record (r, at, unsent) =
        let own : AllByRecursion (HasSender j) first.records =
        all_in (λ (n : ℕ × List (Record Event)). AllByRecursion (HasSender j) n.1) j.nodes (node, first.records) sent (from_contains j.nodes (node, first.records) first.journal) in
        unsent (all_in (HasSender j) first.records r own (in_get first.records index r at))

-- so no audit of these cells answers that a message has no sender
pub never_unsent : {C : Type 0} (represents : C → Plain → Type 0) (book : Celled Mastered BookEvent) (cells : List (Celled C Event)) (receipts : List Called) (answer : Result Audit Refusal) (node index : ℕ)
    → AreOwn represents (record { book = book; cells = cells }) → Audits book cells receipts answer → answer ≢ Ok (audits.NoSender node index)
never_unsent {C} represents book cells receipts answer node index own audited is =
    let held : Held C = record { book = book; cells = cells } in
    let h : Audits book cells receipts (Ok (audits.NoSender node index)) = subst (Audits book cells receipts) is audited in
    none_unsent (journals_of book cells) node index (are_sent represents held own h.0) h.1
