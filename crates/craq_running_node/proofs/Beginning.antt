-- A node before its first step, and a master's steps, as a history has them.
use Rattle.std.proofs.Common.{◌≡◌, ◌<◌, ◌∙◌, ℕ, Bool, true, false, true≢false, List, [], ◌∷◌, ◌++◌, map, Option, Some, None, Result, Ok, Err, IfSome, refl, sym, ap, subst, eq-eqb, append-nil, inl}
use Rattle.std.specs.Prelude.{if◌then◌else◌, Contains}
use Rattle.std.specs.Option.{option_map}
use Rattle.std.proofs.lemmas.List.{map-append}
use Rattle.std.specs.declared.snapshot.Snapshot.{Snapshot}
use mathlib.Core.List.{IsPrefix}
use Rattle.craq_names.specs.declared.refusal.Refusal.{Refusal}
use Rattle.craq_model.specs.declared.ask.Event.{Event}
use Rattle.craq_model.specs.declared.step.Step.{Step}
use Rattle.craq_model.specs.Members.{IsMembership, is_member}
use Rattle.craq_model.specs.Plain.{Plain, opening_joined, opening_member}
use Rattle.craq_epochs.specs.Mastered.{Mastered, opened_master}
use Rattle.craq_seat.specs.declared.journal.BookEvent.{BookEvent}
use Rattle.craq_seat.specs.declared.journal.Opening.{Opening}
use Rattle.craq_seat.specs.declared.journal.Receipt.{Receipt}
use Rattle.craq_seat.specs.declared.journal.Record.{Record}
use Rattle.craq_seat.specs.Books.{IsBook, book_step, members_of}
use Rattle.craq_seat.specs.Calls.{Desked}
use Rattle.craq_seat.specs.Cells.{Celled, cell_step, receipt_of, recorded, stamped, with_record}
use Rattle.craq_seat.specs.Merge.{MergedStep, book_line, node_line}
use Rattle.craq_seat.specs.Stamps.{book_stamp, next_stamp}
use Rattle.craq_seat.specs.Taken.{TakesTransition}
use Rattle.craq_seat.proofs.Taking.{above}
use Rattle.craq_causality.specs.Authors.{first_of, lines_of}
use Rattle.craq_causality.specs.Causal.{IsOfStopped}
use Rattle.craq_causality.proofs.Growing.{joined_later, lines_same}
use Rattle.craq_causality.proofs.Orders.{IsIn, in_left, in_right, to_contains}
use Rattle.craq_ghost_history.specs.declared.author.Author.{Author}
use Rattle.craq_ghost_history.specs.declared.author.Author.TheVariants.{Node}
use Rattle.craq_ghost_history.specs.Authors.{of}
use Rattle.craq_ghost_history.specs.Histories.{IsAdded, MayAdd, Written}
use Rattle.craq_ghost_history.proofs.Prefixes.{prefix_append}
use Rattle.craq_store_history.specs.declared.entry.HistoryEntry.{HistoryEntry}
use Rattle.craq_store_history.specs.declared.entry.HistoryEntry.TheVariants.{MasterStep, ChainOpened}
use Rattle.craq_store_history.specs.Chains.{IsHistory}
use Rattle.craq_store_history.specs.Entries.{author_of, line_in, lines_in, master_record, members_in, opened_by, permit_of}
use Rattle.craq_store_history.specs.Steps.{IsMasterAt, MayOrder}
use Rattle.craq_store_history.proofs.Adding.{master_may, master_seen, opened_may}
use Rattle.craq_store_history.proofs.Lines.{lines_more, lines_prefix, members_more, members_prefix, not_opened, own_same}
use Rattle.craq_store_parts.proofs.Recording.{last_later, same_ok, stands_last}
use Rattle.craq_store_parts.specs.Recorded.{AreLinesOf, AreMasterLines, CanBegin, HasStep, IsRecorded, IsRecordedBook, IsUnmoved, StandsAfter}
use Rattle.craq_store_parts.specs.Witnessed.{IsWitnessedOrder}

-- ---- a node before its first step

no_lines : (c id : ℕ) (log : List HistoryEntry) → of author_of (Node c id) log ≡ [] → lines_of id (lines_in c log) ≡ []
unfolding lines_in
no_lines c id log none = own_same c id log [] none

first_runs : (chain : ℕ) (members : List ℕ) (id : ℕ) → (first_of chain members id).running ≡ true
first_runs chain members id = by_case (is_member members id)
  where
    by_case : (b : Bool) → (if b then opening_member (record { chain = chain; node = id }) members else opening_joined (record { chain = chain; node = id })).running ≡ true
    by_case true = refl
    by_case false = refl

none_last : (o : Option Step) (P : Step → Type 0) → o ≡ None → IfSome o P
none_last o P is = subst (λ (x : Option Step). IfSome x P) (sym is) tt

-- the journal of an author without lines is empty
no_records : (id : ℕ) (lines : List MergedStep) (journal : Option (List (Record Event))) → lines_of id lines ≡ [] → IfSome journal (λ (rs : List (Record Event)). rs ≡ []) → AreLinesOf lines id journal
no_records id lines None none h = tt
no_records id lines (Some rs) none h = none ∙ ap (map (node_line id)) (sym h)

pub begins : {C : Type 0} (represents : C → Plain → Type 0) (d : Desked C) (w v : Written HistoryEntry) (log : List HistoryEntry) → w.author ≡ Node d.cell.opening.name.chain d.cell.opening.name.node → w.seen ≡ [] → CanBegin represents log d.cell
    → v.author ≡ w.author → of author_of w.author v.seen ≡ of author_of w.author w.seen → IsPrefix log v.seen → IsRecorded represents d v
begins represents d w v log author none can kept own heard =
    let c : ℕ = d.cell.opening.name.chain in
    let id : ℕ = d.cell.opening.name.node in
    let empty : of author_of (Node c id) v.seen ≡ [] = subst (λ a. of author_of a v.seen ≡ of author_of a w.seen) author own ∙ ap (of author_of (Node c id)) none in
    record {
      author = kept ∙ author;
      node = first_of c can.members id;
      stands = can.first;
      at = record {
        members = can.members;
        opened = members_prefix c log v.seen can.members heard can.opened;
        member = can.member;
        joined = joined_later can.members (lines_in c log) (lines_in c v.seen) id (lines_prefix c log v.seen heard) can.joined;
        after = record { records = []; are = no_lines c id v.seen empty; replay = refl; low = d.cell.stamp; stamps = refl };
      };
      last = none_last d.cell.last (λ (s : Step). HasStep (lines_in c v.seen) id d.cell.stamp s) can.unmoved;
      stopped = λ off. absurd (true≢false (sym (first_runs c can.members id) ∙ off));
      journal = no_records id (lines_in c v.seen) d.cell.journal (no_lines c id v.seen empty) can.empty;
    }

-- ---- a master's step

pub record Ordered (old new : Celled Mastered BookEvent) (event : BookEvent) : Type 0 where
  pub step : Step
  pub takes : book_step old.inside event ≡ Ok (new.inside, step)
  pub last : new.last ≡ Some step
  pub later : old.stamp < new.stamp
  pub opening : new.opening ≡ old.opening
  pub pass : ℕ
  pub journal : new.journal ≡ option_map (λ rs. rs ++ record { stamp = new.stamp; event = event; pass = pass; step = step } ∷ []) old.journal

by_step : (old new : Celled Mastered BookEvent) (event : BookEvent) (pass stamp : ℕ) → old.stamp < stamp
    → (r : Result (Mastered × Step) Refusal) → book_step old.inside event ≡ r → recorded old stamp event pass r ≡ Ok new → Ordered old new event
by_step old new event pass stamp up (Err e) t is = absurd cc
by_step old new event pass stamp up (Ok (q, s)) t is =
    let now : with_record old q (record { stamp = stamp; event = event; pass = pass; step = s }) ≡ new = same_ok is in
    let inside : q ≡ new.inside = ap (λ (c : Celled Mastered BookEvent). c.inside) now in
    let stamps : stamp ≡ new.stamp = ap (λ (c : Celled Mastered BookEvent). c.stamp) now in
    let last : Some s ≡ new.last = ap (λ (c : Celled Mastered BookEvent). c.last) now in
    let opening : old.opening ≡ new.opening = ap (λ (c : Celled Mastered BookEvent). c.opening) now in
    let journal : option_map (λ rs. rs ++ record { stamp = stamp; event = event; pass = pass; step = s } ∷ []) old.journal ≡ new.journal = ap (λ (c : Celled Mastered BookEvent). c.journal) now in
    record {
      step = s;
      takes = t ∙ ap (λ (m : Mastered). Ok (m, s)) inside;
      last = sym last;
      later = subst (λ (k : ℕ). old.stamp < k) stamps up;
      opening = sym opening;
      pass = pass;
      journal = subst (λ (k : ℕ). new.journal ≡ option_map (λ rs. rs ++ record { stamp = k; event = event; pass = pass; step = s } ∷ []) old.journal) stamps (sym journal);
    }

by_stamp : (old new : Celled Mastered BookEvent) (event : BookEvent) (pass : ℕ)
    → (r : Result ℕ Refusal) → next_stamp old.stamp pass (book_stamp event) ≡ r → stamped book_step old event pass r ≡ Ok new → Ordered old new event
by_stamp old new event pass (Err e) up is = absurd cc
by_stamp old new event pass (Ok stamp) up is = by_step old new event pass stamp (above old.stamp pass (book_stamp event) stamp up) (book_step old.inside event) refl is

pub ordered : (old new : Celled Mastered BookEvent) (event : BookEvent) (pass : ℕ) (receipt : Receipt) → TakesTransition old new event pass (Ok receipt) → Ordered old new event
unfolding cell_step
ordered old new event pass receipt is = by_stamp old new event pass (next_stamp old.stamp pass (book_stamp event)) refl is.0

pub may_order : (old new : Celled Mastered BookEvent) (w : Written HistoryEntry) (reported : List HistoryEntry) (event : BookEvent) (pass : ℕ) (step : Snapshot Step) → IsRecordedBook old w → (t : Ordered old new event) → step.value ≡ t.step → IsOfStopped (lines_in old.opening.name.chain reported) event
    → MayOrder old.opening.name.chain w.seen reported (master_record new.stamp event pass step) new.inside
may_order old new w reported event pass step r t says stopped =
    record { master = old.inside; stamp = old.stamp; at = r.at; step = rw says t.takes; later = t.later; stopped = stopped }

-- the line of a master's entry that is the last of a prefix
pub line_standing : (before log : List HistoryEntry) (c stamp : ℕ) (event : BookEvent) (pass : ℕ) (step : Snapshot Step) → IsPrefix (before ++ MasterStep c stamp event pass step ∷ []) log → Contains (lines_in c log) (book_line (master_record stamp event pass step))
line_standing before log c stamp event pass step p =
    let e : HistoryEntry = MasterStep c stamp event pass step in
    let l : MergedStep = book_line (master_record stamp event pass step) in
    let line : line_in c e ≡ l ∷ [] = rw (eq-eqb c c refl) refl in
    let ls : lines_in c (before ++ e ∷ []) ≡ lines_in c before ++ l ∷ [] = lines_more c before e ∙ ap (λ z. lines_in c before ++ z) line in
    let more = lines_prefix c (before ++ e ∷ []) log p in
    let here : IsIn (lines_in c (before ++ e ∷ [])) l = subst (λ (z : List MergedStep). IsIn z l) (sym ls) (in_right (lines_in c before) (l ∷ []) l (inl refl)) in
    subst (λ (z : List MergedStep). Contains z l) more.1 (to_contains (lines_in c (before ++ e ∷ []) ++ more.0) l (in_left (lines_in c (before ++ e ∷ [])) more.0 l here))

line_added : (seen reported new : List HistoryEntry) (c stamp : ℕ) (event : BookEvent) (pass : ℕ) (step : Snapshot Step)
    → IsAdded author_of seen reported (MasterStep c stamp event pass step) new → Contains (lines_in c new) (book_line (master_record stamp event pass step))
line_added seen reported new c stamp event pass step a =
    line_standing a.before new c stamp event pass step ([], append-nil (a.before ++ MasterStep c stamp event pass step ∷ []) ∙ sym a.now)

-- the lines of its chain
new_lines : (seen reported new : List HistoryEntry) (c stamp : ℕ) (event : BookEvent) (pass : ℕ) (step : Snapshot Step)
    → (a : IsAdded author_of seen reported (MasterStep c stamp event pass step) new) → lines_in c new ≡ lines_in c a.before ++ book_line (master_record stamp event pass step) ∷ []
new_lines seen reported new c stamp event pass step a =
    let e : HistoryEntry = MasterStep c stamp event pass step in
    let line : line_in c e ≡ book_line (master_record stamp event pass step) ∷ [] = rw (eq-eqb c c refl) refl in
    ap (lines_in c) a.now ∙ (lines_more c a.before e ∙ ap (λ z. lines_in c a.before ++ z) line)

-- its journal grows by its line
journal_grows : (seen reported new : List HistoryEntry) (c stamp : ℕ) (event : BookEvent) (pass : ℕ) (step : Snapshot Step) (r : Record BookEvent) (now was : Option (List (Record BookEvent)))
    → IsAdded author_of seen reported (MasterStep c stamp event pass step) new → book_line (master_record stamp event pass step) ≡ book_line r → now ≡ option_map (λ rs. rs ++ r ∷ []) was → AreMasterLines (lines_in c seen) was → AreMasterLines (lines_in c new) now
journal_grows seen reported new c stamp event pass step r now None a same is h = subst (AreMasterLines (lines_in c new)) (sym is) tt
journal_grows seen reported new c stamp event pass step r now (Some rs) a same is h =
    let own : lines_of 0 (lines_in c a.before) ≡ map book_line rs = own_same c 0 a.before seen a.own ∙ h in
    let lines : lines_in c new ≡ lines_in c a.before ++ book_line r ∷ [] = new_lines seen reported new c stamp event pass step a ∙ ap (λ l. lines_in c a.before ++ l ∷ []) same in
    subst (AreMasterLines (lines_in c new)) (sym is)
    (ap (lines_of 0) lines ∙ (lines_same 0 (lines_in c a.before) (book_line r) refl ∙ (ap (λ ls. ls ++ book_line r ∷ []) own ∙ sym (map-append book_line rs (r ∷ [])))))

some_last : (o : Option Step) (s : Step) (P : Step → Type 0) → o ≡ Some s → P s → IfSome o P
some_last o s P is h = subst (λ (x : Option Step). IfSome x P) (sym is) h

pub now_ordered : (old new : Celled Mastered BookEvent) (w v : Written HistoryEntry) (reported : List HistoryEntry) (event : BookEvent) (pass : ℕ) (step : Snapshot Step) → IsRecordedBook old w → (t : Ordered old new event) → step.value ≡ t.step → IsOfStopped (lines_in old.opening.name.chain reported) event
    → v.author ≡ w.author → IsAdded author_of w.seen reported (MasterStep old.opening.name.chain new.stamp event pass step) v.seen → IsRecordedBook new v
now_ordered old new w v reported event pass step r t says stopped author a =
    let c : ℕ = old.opening.name.chain in
    let lines : List MergedStep = lines_in c v.seen in
    record {
      author = rw t.opening (author ∙ r.author);
      zero = rw t.opening r.zero;
      at = rw t.opening (master_seen c w.seen reported v.seen new.stamp event pass step new.inside (may_order old new w reported event pass step r t says stopped) a);
      last = rw t.opening (some_last new.last t.step (HasStep lines old.opening.name.node new.stamp) t.last (record { line = book_line (master_record new.stamp event pass step); there = line_added w.seen reported v.seen c new.stamp event pass step a; node = sym r.zero; under = refl; step = says }));
      journal =
          let taken : Record BookEvent = record { stamp = new.stamp; event = event; pass = t.pass; step = t.step } in
          rw t.opening (journal_grows w.seen reported v.seen c new.stamp event pass step taken new.journal old.journal a (rw says refl) t.journal r.journal);
      first =
          let kept : IsPrefix w.seen v.seen = subst (IsPrefix w.seen) (sym a.now) (prefix_append w.seen a.before (MasterStep c new.stamp event pass step ∷ []) a.kept) in
          rw t.opening (members_prefix c w.seen v.seen (members_of old.opening.config) kept r.first);
    }

-- a refused one is as it was
pub same_ordered : (old new : Celled Mastered BookEvent) (w : Written HistoryEntry) → IsRecordedBook old w → new ≡ old → IsRecordedBook new w
same_ordered old new w r is = subst (λ (c : Celled Mastered BookEvent). IsRecordedBook c w) (sym is) r

-- ---- a master that sees more has the same steps

master_at_later : (c : ℕ) (xs ys : List HistoryEntry) (master : Mastered) (stamp : ℕ) → IsPrefix xs ys → of author_of (Node c 0) ys ≡ of author_of (Node c 0) xs → IsMasterAt c xs master stamp → IsMasterAt c ys master stamp
master_at_later c xs ys master stamp p own m =
    record {
      members = m.members;
      opened = members_prefix c xs ys m.members p m.opened;
      after = record { records = m.after.records; are = own_same c 0 ys xs own ∙ m.after.are; replay = m.after.replay; stamps = m.after.stamps };
    }

master_lines_later : (c : ℕ) (xs ys : List HistoryEntry) (journal : Option (List (Record BookEvent))) → of author_of (Node c 0) ys ≡ of author_of (Node c 0) xs → AreMasterLines (lines_in c xs) journal → AreMasterLines (lines_in c ys) journal
master_lines_later c xs ys None own h = tt
master_lines_later c xs ys (Some rs) own h = own_same c 0 ys xs own ∙ h

pub ordered_later : (b : Celled Mastered BookEvent) (w v : Written HistoryEntry) → IsRecordedBook b w → v.author ≡ w.author → of author_of w.author v.seen ≡ of author_of w.author w.seen → IsPrefix w.seen v.seen → IsRecordedBook b v
ordered_later b w v r kept own p =
    let c : ℕ = b.opening.name.chain in
    let same : of author_of (Node c 0) v.seen ≡ of author_of (Node c 0) w.seen = subst (λ (a : Author). of author_of a v.seen ≡ of author_of a w.seen) r.author own in
    record {
      author = kept ∙ r.author;
      zero = r.zero;
      at = master_at_later c w.seen v.seen b.inside b.stamp p same r.at;
      last = last_later (lines_in c w.seen) (lines_in c v.seen) b.opening.name.node b.stamp b.last (lines_prefix c w.seen v.seen p) r.last;
      journal = master_lines_later c w.seen v.seen b.journal same r.journal;
      first = members_prefix c w.seen v.seen (members_of b.opening.config) p r.first;
    }

-- where the entry's chain and stamp were read from the cell after the step
module _ (old new : Celled Mastered BookEvent) (w : Written HistoryEntry) (reported : List HistoryEntry) (event : BookEvent) (pass : ℕ) (step : Snapshot Step) (chain stamp : ℕ) (r : IsRecordedBook old w) (t : Ordered old new event)
    (named : chain ≡ new.opening.name.chain) (stamped_is : stamp ≡ new.stamp) (says : step.value ≡ t.step) (stopped : IsOfStopped (lines_in old.opening.name.chain reported) event) where
  its_chain : chain ≡ old.opening.name.chain
  its_chain = named ∙ ap (λ (o : Opening). o.name.chain) t.opening

  pub book_own : Node chain 0 ≡ w.author
  book_own = rw its_chain (sym r.author)

  pub book_may : MayAdd author_of permit_of IsHistory w.seen reported (MasterStep chain stamp event pass step)
  book_may = rw (its_chain, stamped_is) (master_may old.opening.name.chain w.seen reported new.stamp event pass step new.inside (may_order old new w reported event pass step r t says stopped))

  pub book_recorded : (v : Written HistoryEntry) → v.author ≡ w.author → IsAdded author_of w.seen reported (MasterStep chain stamp event pass step) v.seen → IsRecordedBook new v
  book_recorded v author a =
      let by_chain = subst (λ (c : ℕ). IsAdded author_of w.seen reported (MasterStep c stamp event pass step) v.seen) its_chain a in
      let by_stamp = subst (λ (k : ℕ). IsAdded author_of w.seen reported (MasterStep old.opening.name.chain k event pass step) v.seen) stamped_is by_chain in
      now_ordered old new w v reported event pass step r t says stopped author by_stamp

  pub book_witnessed : (seen log : List HistoryEntry) (receipt : Receipt) → receipt ≡ receipt_of new → IsHistory seen → IsAdded author_of w.seen reported (MasterStep chain stamp event pass step) seen → log ≡ seen
      → IsWitnessedOrder reported old.opening.name.chain event receipt log
  book_witnessed seen log receipt is h a same =
      let here : StandsAfter reported log (MasterStep chain stamp event pass step) =
      subst (λ (l : List HistoryEntry). StandsAfter reported l (MasterStep chain stamp event pass step)) (sym same) (stands_last w.seen reported seen (MasterStep chain stamp event pass step) a) in
      let by_chain = subst (λ (c : ℕ). StandsAfter reported log (MasterStep c stamp event pass step)) its_chain here in
      record {
        pass = pass;
        step = step;
        taken = subst (λ (k : ℕ). StandsAfter reported log (MasterStep old.opening.name.chain k event pass step)) (stamped_is ∙ sym (ap (λ (x : Receipt). x.stamp) is)) by_chain;
        master = ap (λ (x : Receipt). x.node) is ∙ (ap (λ (o : Opening). o.name.node) t.opening ∙ r.zero);
        history = subst IsHistory (sym same) h;
      }

-- ---- a chain that is opened

master_opened : (c : ℕ) (seen reported new : List HistoryEntry) (members : Snapshot (List ℕ)) → seen ≡ [] → IsAdded author_of seen reported (ChainOpened c members) new → IsMasterAt c new (opened_master c members.value) 0
unfolding lines_in members_in
master_opened c seen reported new members none a =
    let e : HistoryEntry = ChainOpened c members in
    let own : of author_of (Node c 0) a.before ≡ [] = a.own ∙ ap (of author_of (Node c 0)) none in
    let by : opened_by c e ≡ Some members.value = rw (eq-eqb c c refl) refl in
    let ms : members_in c new ≡ Some members.value = ap (members_in c) a.now ∙ (members_more c a.before e ∙ rw (not_opened c a.before own, by) refl) in
    let ls : lines_in c new ≡ lines_in c a.before = ap (lines_in c) a.now ∙ (lines_more c a.before e ∙ append-nil (lines_in c a.before)) in
    record { members = members.value; opened = ms; after = record { records = []; are = ap (lines_of 0) ls ∙ no_lines c 0 a.before own; replay = refl; stamps = refl } }

master_lines : (c : ℕ) (seen reported new : List HistoryEntry) (members : Snapshot (List ℕ)) → seen ≡ [] → IsAdded author_of seen reported (ChainOpened c members) new → lines_of 0 (lines_in c new) ≡ []
master_lines c seen reported new members none a =
    let e : HistoryEntry = ChainOpened c members in
    let own : of author_of (Node c 0) a.before ≡ [] = a.own ∙ ap (of author_of (Node c 0)) none in
    let ls : lines_in c new ≡ lines_in c a.before = ap (lines_in c) a.now ∙ (lines_more c a.before e ∙ append-nil (lines_in c a.before)) in
    ap (lines_of 0) ls ∙ no_lines c 0 a.before own

master_empty : (kept : Bool) (journal : Option (List (Record BookEvent))) (lines : List MergedStep) → journal ≡ (if kept then Some [] else None) → lines_of 0 lines ≡ [] → AreMasterLines lines journal
master_empty true journal lines is none = subst (AreMasterLines lines) (sym is) none
master_empty false journal lines is none = subst (AreMasterLines lines) (sym is) tt

-- the cell of a master that took no step, with the entry that its chain is opened
pub book_opened : (b : Celled Mastered BookEvent) (w v : Written HistoryEntry) (chain : ℕ) (members : Snapshot (List ℕ)) → IsUnmoved b → w.author ≡ Node b.opening.name.chain 0 → w.seen ≡ [] → chain ≡ b.opening.name.chain → members.value ≡ b.inside.members
    → v.author ≡ w.author → IsAdded author_of w.seen [] (ChainOpened chain members) v.seen → IsRecordedBook b v
unfolding master_opened
book_opened b w v chain members (c, ms, journal, is) author none same are kept a =
    let its : b.opening.name.chain ≡ c = ap (λ (x : Celled Mastered BookEvent). x.opening.name.chain) is in
    let list : members.value ≡ ms = are ∙ ap (λ (x : Celled Mastered BookEvent). x.inside.members) is in
    let inside : b.inside ≡ opened_master c ms = ap (λ (x : Celled Mastered BookEvent). x.inside) is in
    let at : IsMasterAt c v.seen (opened_master c members.value) 0 = master_opened c w.seen [] v.seen members none (subst (λ (k : ℕ). IsAdded author_of w.seen [] (ChainOpened k members) v.seen) (same ∙ its) a) in
    record {
      author = kept ∙ author;
      zero = ap (λ (x : Celled Mastered BookEvent). x.opening.name.node) is;
      at = rw (its, inside, ap (λ (x : Celled Mastered BookEvent). x.stamp) is) (subst (λ (l : List ℕ). IsMasterAt c v.seen (opened_master c l) 0) list at);
      last = none_last b.last (λ (s : Step). HasStep (lines_in b.opening.name.chain v.seen) b.opening.name.node b.stamp s) (ap (λ (x : Celled Mastered BookEvent). x.last) is);
      journal = master_empty journal b.journal (lines_in b.opening.name.chain v.seen) (ap (λ (x : Celled Mastered BookEvent). x.journal) is) (master_lines b.opening.name.chain w.seen [] v.seen members none (subst (λ (k : ℕ). IsAdded author_of w.seen [] (ChainOpened k members) v.seen) same a));
      first = rw its (at.opened ∙ ap Some (list ∙ sym (ap (λ (x : Celled Mastered BookEvent). members_of x.opening.config) is)));
    }

pub book_may_open : (b : Celled Mastered BookEvent) (w : Written HistoryEntry) (chain : ℕ) (members : Snapshot (List ℕ)) → IsUnmoved b → IsBook b → w.seen ≡ [] → members.value ≡ b.inside.members → MayAdd author_of permit_of IsHistory w.seen [] (ChainOpened chain members)
book_may_open b w chain members (c, ms, journal, is) book none are =
    let list : members.value ≡ ms = are ∙ ap (λ (x : Celled Mastered BookEvent). x.inside.members) is in
    let first : members_of b.opening.config ≡ ms = ap (λ (x : Celled Mastered BookEvent). members_of x.opening.config) is in
    opened_may chain w.seen [] members (record { first = ap (of author_of (Node chain 0)) none; membership = subst IsMembership (first ∙ sym list) book.first })
