-- The journals of cells are good.
use Rattle.std.proofs.Common.{◌≡◌, ◌⊎◌, ℕ, true, List, [], ◌∷◌, map, Some, refl, sym, ap, subst, arith, ◌∙◌, inl, inr}
use Rattle.std.specs.Prelude.{Contains}
use Rattle.std.specs.List.{AllByRecursion}
use Rattle.craq_names.specs.declared.name.NodeName.{NodeName}
use Rattle.craq_model.specs.declared.ask.Event.{Event}
use Rattle.craq_model.specs.Members.{is_member}
use Rattle.craq_model.specs.Node.{node_step}
use Rattle.craq_model.specs.Plain.{Plain, opening_joined, opening_member}
use Rattle.craq_epochs.specs.Mastered.{Mastered}
use Rattle.craq_node.specs.Represented.{opening_of}
use Rattle.craq_runs.specs.Runs.{IsRunOf}
use Rattle.craq_runs.specs.Typed.{IsTypedRunOf}
use Rattle.craq_seat.specs.declared.journal.BookEvent.{BookEvent}
use Rattle.craq_seat.specs.declared.journal.BookEvent.TheVariants as books
use Rattle.craq_seat.specs.declared.journal.Opening.{Opening}
use Rattle.craq_seat.specs.declared.journal.Record.{Record}
use Rattle.craq_seat.specs.Audits.{AreJournalsOf, HasSender, IsJournalOf, IsOpenedFirst, IsOpenedLater, NamesItsStop, id_of}
use Rattle.craq_seat.specs.Books.{IsBook, book_step, first_master, members_of}
use Rattle.craq_seat.specs.Cells.{Celled}
use Rattle.craq_seat.specs.Journal.{IsStamped, Stands}
use Rattle.craq_seat.specs.Kept.{IsKept}
use Rattle.craq_seat.specs.Merge.{IsMerge, Journals, MergedStep, book_line, node_line, run_of}
use Rattle.craq_seat.specs.Stamps.{book_stamp, event_stamp}
use Rattle.craq_causality.specs.Authors.{lines_of}
use Rattle.craq_causality.specs.Causal.{AreCausal}
use Rattle.craq_causality.proofs.Orders.{IsIn, all_in, from_contains}
use Rattle.craq_causality.proofs.Start.{is_run, is_typed_run}
use Rattle.craq_merge.specs.Merged.{AreSeated, CanBeNumbered}
use Rattle.craq_merge.specs.Within.{AreAsksOfType}
use Rattle.craq_merge.proofs.Causal.{book_journal, causal, node_journal, typed}
use Rattle.craq_merge.proofs.Counts.{count, count_same}
use Rattle.craq_merge.proofs.Good.{AreGood, IsFirst, IsLater, IsStarted}
use Rattle.craq_merge.proofs.Journals.{Kept, ids_of}

-- a journal's cell
pub cell_of : {C : Type 0} (cs : List (Celled C Event)) (ns : List Kept) (n : Kept) → AreJournalsOf cs ns → IsIn ns n → (c : Celled C Event) × IsIn cs c × IsJournalOf c n
cell_of [] [] n h i = absurd i
cell_of (c ∷ cs) [] n h i = absurd h
cell_of [] (m ∷ ns) n h i = absurd h
cell_of (c ∷ cs) (m ∷ ns) n h (inl e) = (c, inl refl, subst (IsJournalOf c) e h.0)
cell_of (c ∷ cs) (m ∷ ns) n h (inr i) = let t = cell_of cs ns n h.1 i in (t.0, inr t.1, t.2)

pub same_ids : {C : Type 0} (cs : List (Celled C Event)) (ns : List Kept) → AreJournalsOf cs ns → ids_of ns ≡ map id_of cs
same_ids [] [] h = refl
same_ids (c ∷ cs) [] h = absurd h
same_ids [] (m ∷ ns) h = absurd h
same_ids (c ∷ cs) (m ∷ ns) h = let e = h.0.0 in rw (e, same_ids cs ns h.1) refl

pub member_in : (members : List ℕ) (id : ℕ) → IsIn members id → is_member members id ≡ true
unfolding is_member
member_in [] id i = absurd i
member_in (m ∷ members) id (inl e) = grind (arith, e)
member_in (m ∷ members) id (inr i) = grind (arith, member_in members id i)

named_by : (n : NodeName) (chain id : ℕ) → n.chain ≡ chain → n.node ≡ id → n ≡ record { chain = chain; node = id }
named_by n chain id e f = rw (← e, ← f) refl

-- the opening of a cell's node
opened_first : (book : Celled Mastered BookEvent) (o : Opening) (j : Journals) (id : ℕ) → IsBook book → j.members ≡ members_of book.opening.config → o.name.chain ≡ book.opening.name.chain → id ≡ o.name.node → IsOpenedFirst book o → IsFirst book.opening.name.chain j.members id (opening_of o.name o.config)
opened_first book o j id b members chain own (among, config, stamp) =
    let ms : List ℕ = members_of book.opening.config in
    let first : book.opening.config ≡ Some (record { epoch = 1; members = ms }) = ap (λ (x : Opening). x.config) b.opening in
    let name : o.name ≡ record { chain = book.opening.name.chain; node = id } = named_by o.name book.opening.name.chain id chain (sym own) in
    let there : is_member ms o.name.node ≡ true = member_in ms o.name.node (from_contains ms o.name.node among) in (
      rw (members, own) there,
      ap (opening_of o.name) (config ∙ first) ∙ ap (λ n. opening_member n ms) name ∙ ap (opening_member (record { chain = book.opening.name.chain; node = id })) (sym members),
    )

opened_later : (chain : ℕ) (rs : List (Record BookEvent)) (o : Opening) (id : ℕ) → o.name.chain ≡ chain → id ≡ o.name.node → IsOpenedLater rs o → IsLater chain rs id (opening_of o.name o.config) o.stamp
opened_later chain rs o id e own (config, r, among, event, stamp) = (
  ap (opening_of o.name) config ∙ ap opening_joined (named_by o.name chain id e (sym own)),
  r,
  from_contains rs r among,
  event ∙ ap books.Join (sym own),
  stamp,
)

pub started : {C : Type 0} (R : C → Plain → Type 0) (book : Celled Mastered BookEvent) (j : Journals) (c : Celled C Event) (n : Kept) → IsBook book → j.members ≡ members_of book.opening.config → IsKept R c → IsJournalOf c n → c.opening.name.chain ≡ book.opening.name.chain → IsOpenedFirst book c.opening ⊎ IsOpenedLater j.book c.opening → IsStarted book.opening.name.chain j.members j.book n
started R book j c n b members kept own chain opened =
    let o : Opening = c.opening in
    let first : Plain = opening_of o.name o.config in
    let stands : Stands R node_step first c.inside (Some n.1) = subst (Stands R node_step first c.inside) own.1 kept.stands in
    let stamped : IsStamped event_stamp o.stamp (Some n.1) c.stamp = subst (λ x. IsStamped event_stamp o.stamp x c.stamp) own.1 kept.stamps in
    record {
      first = first;
      last = stands.0;
      replay = stands.1;
      low = o.stamp;
      high = c.stamp;
      stamped = stamped;
      opening = elim opened [
        | inl f ↦ inl (opened_first book o j n.0 b members chain own.0 f)
        | inr l ↦ inr (opened_later book.opening.name.chain j.book o n.0 chain own.0 l)
      ];
    }

pub good : {C : Type 0} (R : C → Plain → Type 0) (book : Celled Mastered BookEvent) (cells : List (Celled C Event)) (j : Journals) → AreSeated R book cells j → AreGood book.opening.name.chain j
good R book cells j s =
    let b : IsBook book = s.master in
    let stands : Stands (λ (m n : Mastered). m ≡ n) book_step (first_master book.opening) book.inside (Some j.book) = subst (Stands (λ (m n : Mastered). m ≡ n) book_step (first_master book.opening) book.inside) s.journals.master b.stands in
    let stamped : IsStamped book_stamp 0 (Some j.book) book.stamp = subst (λ x. IsStamped book_stamp 0 x book.stamp) s.journals.master b.stamps in
    let ids : ids_of j.nodes ≡ map id_of cells = same_ids cells j.nodes s.journals.nodes in
    record {
      membership = rw s.journals.members b.first;
      master = stands.0;
      replay = rw s.journals.members stands.1;
      high = book.stamp;
      stamped = stamped;
      ids = λ id. ap (count id) ids ∙ count_same id book.inside.used (map id_of cells) s.chain.ids ∙ ap (λ (m : Mastered). count id m.used) stands.2;
      nodes = λ n i. let t = cell_of cells j.nodes n s.journals.nodes i in
          started R book j t.0 n b s.journals.members
          (all_in (λ (c : Celled _ Event). IsKept R c) cells t.0 s.nodes t.1) t.2
          (all_in (λ (c : Celled _ Event). c.opening.name.chain ≡ book.opening.name.chain) cells t.0 s.chain.chain t.1)
          (all_in (λ (c : Celled _ Event). IsOpenedFirst book c.opening ⊎ IsOpenedLater j.book c.opening) cells t.0 s.chain.opened t.1);
      stops = λ r i. all_in (λ (r : Record BookEvent). NamesItsStop j r.event) j.book r s.chain.stops i;
      sent = λ n r i k. all_in (HasSender j) n.1 r (all_in (λ (n : Kept). AllByRecursion (HasSender j) n.1) j.nodes n s.sent i) k;
    }

-- ---- the merge

pub seated_causal : {C : Type 0} (R : C → Plain → Type 0) (book : Celled Mastered BookEvent) (cells : List (Celled C Event)) (j : Journals) (lines : List MergedStep) → AreSeated R book cells j → IsMerge j lines → AreCausal book.opening.name.chain j.members lines
seated_causal R book cells j lines s m = causal book.opening.name.chain j lines (good R book cells j s) m

pub seated_run : {C : Type 0} (R : C → Plain → Type 0) (book : Celled Mastered BookEvent) (cells : List (Celled C Event)) (j : Journals) (lines : List MergedStep) → AreSeated R book cells j → IsMerge j lines → CanBeNumbered lines → IsRunOf book.opening.name.chain (run_of j.members lines)
seated_run R book cells j lines s m fit = is_run book.opening.name.chain j.members lines (seated_causal R book cells j lines s m) fit

pub typed_run : {C : Type 0} (R : C → Plain → Type 0) (book : Celled Mastered BookEvent) (cells : List (Celled C Event)) (j : Journals) (lines : List MergedStep) → AreSeated R book cells j → IsMerge j lines → CanBeNumbered lines → AreAsksOfType j → IsTypedRunOf book.opening.name.chain (run_of j.members lines)
typed_run R book cells j lines s m fit a = is_typed_run book.opening.name.chain j.members lines (seated_causal R book cells j lines s m) (typed j lines m a) fit

-- ---- the lines at a node

pub seated_node : {C : Type 0} (R : C → Plain → Type 0) (book : Celled Mastered BookEvent) (cells : List (Celled C Event)) (j : Journals) (lines : List MergedStep) (id : ℕ) (rs : List (Record Event)) → AreSeated R book cells j → IsMerge j lines → Contains j.nodes (id, rs) → lines_of id lines ≡ map (node_line id) rs
seated_node R book cells j lines id rs s m i = node_journal book.opening.name.chain j lines (good R book cells j s) m (id, rs) (from_contains j.nodes (id, rs) i)

pub seated_book : {C : Type 0} (R : C → Plain → Type 0) (book : Celled Mastered BookEvent) (cells : List (Celled C Event)) (j : Journals) (lines : List MergedStep) → AreSeated R book cells j → IsMerge j lines → lines_of 0 lines ≡ map book_line j.book
seated_book R book cells j lines s m = book_journal book.opening.name.chain j lines (good R book cells j s) m
