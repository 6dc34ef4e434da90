-- Journals whose lines are in causal order: each message that arrived was sent.
use Rattle.std.proofs.Common.{◌≡◌, ◌≢◌, ◌<◌, ◌≤◌, ◌⊎◌, ℕ, true, List, [], ◌∷◌, ◌++◌, map, Some, Result, Ok, refl, sym, ap, subst, arith, ◌∙◌, inl, inr, append_assoc}
use Rattle.std.specs.Prelude.{flat_map}
use Rattle.std.specs.List.{AllByRecursion}
use Rattle.craq_names.specs.declared.refusal.Refusal.{Refusal}
use Rattle.craq_model.specs.declared.ask.Event.{Event}
use Rattle.craq_model.specs.declared.ask.Event.TheVariants as events
use Rattle.craq_model.specs.declared.step.Step.{Step}
use Rattle.craq_model.specs.Members.{is_member}
use Rattle.craq_model.specs.Plain.{Plain}
use Rattle.craq_epochs.specs.Mastered.{Mastered, master_after_join, removed}
use Rattle.craq_epochs.specs.Mastered as masters
use Rattle.craq_chain.proofs.Commands.{join_made, removal_made}
use Rattle.craq_seat.specs.declared.journal.BookEvent.{BookEvent}
use Rattle.craq_seat.specs.declared.journal.BookEvent.TheVariants as books
use Rattle.craq_seat.specs.declared.journal.Record.{Record}
use Rattle.craq_seat.specs.Audits.{AreKept, AreOfChain, HasSender, IsOpenedFirst, IsOpenedLater, id_of}
use Rattle.craq_seat.specs.Audits as audits
use Rattle.craq_seat.specs.Books.{IsBook, book_step, first_master}
use Rattle.craq_seat.specs.Cells.{Celled}
use Rattle.craq_seat.specs.Journal.{Replays, Stands}
use Rattle.craq_seat.specs.Kept.{IsKept}
use Rattle.craq_seat.specs.Merge.{AtNode, AtMaster, Journals, MergedStep, all_lines, book_line, node_line}
use Rattle.craq_seat.specs.Stamps.{event_stamp}
use Rattle.craq_causality.specs.Authors.{lines_of}
use Rattle.craq_causality.specs.Causal.{AreCausal, AreOrdered, HasJoined, IsOfSent, MayFollow}
use Rattle.craq_causality.proofs.Masters.{is_reported}
use Rattle.craq_causality.proofs.Nodes.{same_or_not}
use Rattle.craq_causality.proofs.Orders.{IsIn, all_by, all_in, from_at, from_contains, in_left, in_map, in_right, of_map, to_at, to_contains}
use Rattle.craq_merge.specs.Merged.{AreOfLines}
use Rattle.craq_merge.proofs.Counts.{count, count_cons, count_push, count_same}
use Rattle.craq_merge.proofs.Good.{IsStarted, records_above}
use Rattle.craq_merge.proofs.Journals.{Kept, ids_of, in_flat, kept_lines}
use Rattle.craq_merge.proofs.Seated.{cell_of, same_ids, started}

-- ---- the ids that a master used

member_counted : (xs : List ℕ) (id : ℕ) → is_member xs id ≡ true → 1 ≤ count id xs
unfolding is_member
member_counted [] id h = cc
member_counted (x ∷ xs) id h = grind (arith, h, count_cons id x xs, member_counted xs id)

step_counted : (event : BookEvent) (m n : Mastered) (step : Step) (id : ℕ) → book_step m event ≡ Ok (n, step) → 1 ≤ count id m.used → 1 ≤ count id n.used
step_counted (books.Join other) m n step id h a =
    let t = is_reported (master_after_join m other) n step h in
    let p = count_push id m.used other in
    subst (λ (x : Mastered). 1 ≤ count id x.used) (sym (join_made m n other t.0)) (omega (arith, a, p))
step_counted (books.Remove stopped stop) m n step id h a =
    let t = is_reported (removed m stopped) n step h in
    subst (λ (x : Mastered). 1 ≤ count id x.used) (sym (removal_made m n stopped t.0)) a
step_counted books.Tick m n step id h a =
    let t = is_reported (Ok m) n step h in subst (λ (x : Mastered). 1 ≤ count id x.used) (ok_same m n (Ok m) refl t.0) a
  where
    ok_same : (x y : Mastered) (r : Result Mastered Refusal) → r ≡ Ok x → r ≡ Ok y → x ≡ y
    ok_same x y r p q = cc

still_counted : (m last : Mastered) (rs : List (Record BookEvent)) (id : ℕ) → Replays book_step m rs last → 1 ≤ count id m.used → 1 ≤ count id last.used
still_counted m last [] id is a = subst (λ (x : Mastered). 1 ≤ count id x.used) (sym is) a
still_counted m last (r ∷ rs) id (n, h, rest) a = still_counted n last rs id rest (step_counted r.event m n r.step id h a)

join_counted : (m n : Mastered) (step : Step) (id : ℕ) → book_step m (books.Join id) ≡ Ok (n, step) → 1 ≤ count id n.used
join_counted m n step id h =
    let t = is_reported (master_after_join m id) n step h in
    let p = count_push id m.used id in
    subst (λ (x : Mastered). 1 ≤ count id x.used) (sym (join_made m n id t.0)) (grind (arith, p))

joined_counted : (m last : Mastered) (rs : List (Record BookEvent)) (r : Record BookEvent) (id : ℕ) → Replays book_step m rs last → IsIn rs r → r.event ≡ books.Join id → 1 ≤ count id last.used
joined_counted m last [] r id is i e = absurd i
joined_counted m last (x ∷ rs) r id (n, h, rest) (inl s) e =
    let event : x.event ≡ books.Join id = ap (λ (y : Record BookEvent). y.event) s ∙ e in
    still_counted n last rs id rest (join_counted m n x.step id (subst (λ (b : BookEvent). book_step m b ≡ Ok (n, x.step)) event h))
joined_counted m last (x ∷ rs) r id (n, h, rest) (inr i) e = joined_counted n last rs r id rest i e

-- a counted id has a journal
counted_at : (ns : List Kept) (id : ℕ) → 1 ≤ count id (ids_of ns) → (n : Kept) × IsIn ns n × (n.0 ≡ id)
counted_at [] id h = absurd (grind (arith, h))
counted_at (x ∷ ns) id h =
    elim (same_or_not x.0 id) [
      | inl e ↦ (x, inl refl, e)
      | inr d ↦ (let t = counted_at ns id (fewer d) in (t.0, inr t.1, t.2))
    ]
  where
    fewer : x.0 ≢ id → 1 ≤ count id (ids_of ns)
    fewer d = let c = count_cons id x.0 (ids_of ns) in grind (arith, h, c, d)

-- ---- the causes of a line

-- the causes of a line are among the lines
at_line : (members : List ℕ) (before ls : List MergedStep) (l : MergedStep) → AreOrdered members before ls → IsIn ls l
    → (done : List MergedStep) × ((x : MergedStep) → IsIn done x → IsIn (before ++ ls) x) × MayFollow members done l.node l.event
at_line members before [] l o i = absurd i
at_line members before (x ∷ ls) l o (inl e) =
    (before, (λ y k. in_left before (x ∷ ls) y k), subst (λ (z : MergedStep). MayFollow members before z.node z.event) e o.0)
at_line members before (x ∷ ls) l o (inr i) =
    let t = at_line members (before ++ x ∷ []) ls l o.1 i in
    (t.0, (λ y k. subst (λ zs. IsIn zs y) (append_assoc before (x ∷ []) ls) (t.1 y k)), t.2)

-- ---- journals of causal lines

-- the parts of a chain's cells
pub record AreBegun (chain : ℕ) (j : Journals) : Type 0 where
  pub master : Mastered
  pub replay : Replays book_step (masters.opened_master chain j.members) j.book master
  pub ids : (id : ℕ) → count id (ids_of j.nodes) ≡ count id master.used
  pub nodes : (n : Kept) → IsIn j.nodes n → IsStarted chain j.members j.book n

not_master : (event : Event) (b : BookEvent) → AtNode event ≡ AtMaster b → ⊥
not_master event b e = cc

same_event : (a b : BookEvent) → AtMaster a ≡ AtMaster b → a ≡ b
same_event a b e = cc

-- a line of a node has a node's event, one of the master is in its journal
node_event : (chain : ℕ) (members : List ℕ) (lines : List MergedStep) (l : MergedStep) → AreCausal chain members lines → IsIn lines l → l.node ≢ 0 → (event : Event) × (l.event ≡ AtNode event)
node_event chain members lines l c i z =
    let a = c.nodes l.node z in
    let k = of_map (node_line l.node) a.2.records l (subst (λ zs. IsIn zs l) a.2.are (to_at l.node lines l i refl)) in
    (k.0.event, ap (λ (y : MergedStep). y.event) (sym k.2))

master_record_of : (j : Journals) (lines : List MergedStep) (l : MergedStep) → AreOfLines j lines → IsIn lines l → l.node ≡ 0 → (r : Record BookEvent) × IsIn j.book r × (book_line r ≡ l)
master_record_of j lines l a i e = of_map book_line j.book l (subst (λ zs. IsIn zs l) a.master (to_at 0 lines l i e))

-- a node that steps was used
used : (chain : ℕ) (j : Journals) (lines done : List MergedStep) (id : ℕ) (b : AreBegun chain j) → AreCausal chain j.members lines → AreOfLines j lines → ((x : MergedStep) → IsIn done x → IsIn lines x) → HasJoined j.members done id → 1 ≤ count id b.master.used
used chain j lines done id b c a within (inl h) = still_counted (masters.opened_master chain j.members) b.master j.book id b.replay (member_counted j.members id h)
used chain j lines done id b c a within (inr (l, there, event)) =
    let i = within l (from_contains done l there) in
    elim (same_or_not l.node 0) [
      | inl e ↦ (
          let r = master_record_of j lines l a i e in
          joined_counted (masters.opened_master chain j.members) b.master j.book r.0 id b.replay r.1 (same_event r.0.event (books.Join id) (ap (λ (y : MergedStep). y.event) r.2 ∙ event))
          )
      | inr z ↦ (let n = node_event chain j.members lines l c i z in absurd (not_master n.0 (books.Join id) (sym n.1 ∙ event)))
    ]

-- each line is of a journal
in_journals : (chain : ℕ) (j : Journals) (lines : List MergedStep) (l : MergedStep) → AreBegun chain j → AreCausal chain j.members lines → AreOfLines j lines → IsIn lines l → IsIn (all_lines j) l
in_journals chain j lines l b c a i =
    elim (same_or_not l.node 0) [
      | inl e ↦ in_left (map book_line j.book) (flat_map kept_lines j.nodes) l (subst (λ zs. IsIn zs l) a.master (to_at 0 lines l i e))
      | inr z ↦ of_node z
    ]
  where
    of_node : l.node ≢ 0 → IsIn (all_lines j) l
    of_node z =
        let t = at_line j.members [] lines l c.order i in
        let e = node_event chain j.members lines l c i z in
        let f : HasJoined j.members t.0 l.node = (subst (MayFollow j.members t.0 l.node) e.1 t.2).0 in
        let u = used chain j lines t.0 l.node b c a t.1 f in
        let same = b.ids l.node in
        let n = counted_at j.nodes l.node (omega (arith, u, same)) in
        let own : lines_of n.0.0 lines ≡ kept_lines n.0 = all_in (λ (k : Kept). lines_of k.0 lines ≡ map (node_line k.0) k.1) j.nodes n.0 a.nodes n.1 in
        in_right (map book_line j.book) (flat_map kept_lines j.nodes) l (in_flat kept_lines j.nodes n.0 l n.1 (subst (λ zs. IsIn zs l) own (to_at n.0.0 lines l i (sym n.2))))

-- a message that was sent among these lines was sent by the journals
of_sent : (chain : ℕ) (j : Journals) (lines done : List MergedStep) (stamp : ℕ) (event : Event) → AreBegun chain j → AreCausal chain j.members lines → AreOfLines j lines → ((x : MergedStep) → IsIn done x → IsIn lines x) → event_stamp event < stamp → IsOfSent done event → audits.IsOfSent j stamp event
of_sent chain j lines done stamp (events.Ask ask) b c a within less w = tt
of_sent chain j lines done stamp (events.Deliver m) b c a within less w =
    let own = in_journals chain j lines w.line b c a (within w.line (from_contains done w.line w.there)) in
    (less, w.line, to_contains (all_lines j) w.line own, w.node, w.stamp, w.message)
of_sent chain j lines done stamp events.Tick b c a within less w = tt
of_sent chain j lines done stamp events.Stop b c a within less w = tt

has_sender : (chain : ℕ) (j : Journals) (lines : List MergedStep) (n : Kept) (r : Record Event) → AreBegun chain j → AreCausal chain j.members lines → AreOfLines j lines → IsIn j.nodes n → IsIn n.1 r → HasSender j r
has_sender chain j lines n r b c a among there =
    let s = b.nodes n among in
    let own : lines_of n.0 lines ≡ kept_lines n = all_in (λ (k : Kept). lines_of k.0 lines ≡ map (node_line k.0) k.1) j.nodes n a.nodes among in
    let i = (from_at n.0 lines (node_line n.0 r) (subst (λ zs. IsIn zs (node_line n.0 r)) (sym own) (in_map (node_line n.0) n.1 r there))).0 in
    let t = at_line j.members [] lines (node_line n.0 r) c.order i in
    of_sent chain j lines t.0 r.stamp r.event b c a t.1 (records_above event_stamp s.low s.high n.1 r s.stamped there) t.2.1

-- the journals of a chain's cells
begun : {C : Type 0} (R : C → Plain → Type 0) (book : Celled Mastered BookEvent) (cells : List (Celled C Event)) (j : Journals) → IsBook book → AllByRecursion (λ (c : Celled C Event). IsKept R c) cells → AreKept book cells j → AreOfChain book cells j → AreBegun book.opening.name.chain j
begun R book cells j b kept k o =
    let stands : Stands (λ (m n : Mastered). m ≡ n) book_step (first_master book.opening) book.inside (Some j.book) = subst (Stands (λ (m n : Mastered). m ≡ n) book_step (first_master book.opening) book.inside) k.master b.stands in
    let ids : ids_of j.nodes ≡ map id_of cells = same_ids cells j.nodes k.nodes in
    record {
      master = stands.0;
      replay = rw k.members stands.1;
      ids = λ id. ap (count id) ids ∙ count_same id book.inside.used (map id_of cells) o.ids ∙ ap (λ (m : Mastered). count id m.used) stands.2;
      nodes = λ n i. let t = cell_of cells j.nodes n k.nodes i in
          started R book j t.0 n b k.members
          (all_in (λ (c : Celled _ Event). IsKept R c) cells t.0 kept t.1) t.2
          (all_in (λ (c : Celled _ Event). c.opening.name.chain ≡ book.opening.name.chain) cells t.0 o.chain t.1)
          (all_in (λ (c : Celled _ Event). IsOpenedFirst book c.opening ⊎ IsOpenedLater j.book c.opening) cells t.0 o.opened t.1);
    }

pub have_senders : {C : Type 0} (R : C → Plain → Type 0) (book : Celled Mastered BookEvent) (cells : List (Celled C Event)) (j : Journals) (lines : List MergedStep) → IsBook book → AllByRecursion (λ (c : Celled C Event). IsKept R c) cells → AreKept book cells j → AreOfChain book cells j → AreCausal book.opening.name.chain j.members lines → AreOfLines j lines → AllByRecursion (λ (n : ℕ × List (Record Event)). AllByRecursion (HasSender j) n.1) j.nodes
have_senders R book cells j lines b kept k o c a =
    let u = begun R book cells j b kept k o in
    all_by (λ (n : Kept). AllByRecursion (HasSender j) n.1) j.nodes (λ n i.
    all_by (HasSender j) n.1 (λ r there. has_sender book.opening.name.chain j lines n r u c a i there))
