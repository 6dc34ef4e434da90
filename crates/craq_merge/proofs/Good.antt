-- Journals whose merge is a run: each of its lines follows its causes.
use Rattle.std.proofs.Common.{◌≡◌, ◌<◌, ◌⊎◌, ℕ, true, List, [], ◌∷◌, ◌++◌, Ok, refl, sym, ap, subst, arith, ◌∙◌, inl, inr, append_assoc}
use Rattle.std.specs.Prelude.{Contains}
use Rattle.craq_model.specs.declared.ask.Event.{Event}
use Rattle.craq_model.specs.declared.ask.Event.TheVariants as events
use Rattle.craq_model.specs.Members.{IsMembership, is_member}
use Rattle.craq_model.specs.Node.{node_step}
use Rattle.craq_model.specs.Plain.{Plain, opening_joined, opening_member}
use Rattle.craq_epochs.specs.Mastered.{Mastered}
use Rattle.craq_epochs.specs.Mastered as masters
use Rattle.craq_seat.specs.declared.journal.BookEvent.{BookEvent}
use Rattle.craq_seat.specs.declared.journal.BookEvent.TheVariants as books
use Rattle.craq_seat.specs.declared.journal.Record.{Record}
use Rattle.craq_seat.specs.Audits.{HasSender, NamesItsStop}
use Rattle.craq_seat.specs.Audits as audits
use Rattle.craq_seat.specs.Books.{book_step}
use Rattle.craq_seat.specs.Journal.{AreStamped, Replays}
use Rattle.craq_seat.specs.Merge.{AtNode, AtMaster, IsMerge, Journals, MergedStep, all_lines, book_line, node_line}
use Rattle.craq_seat.specs.Stamps.{book_stamp, event_stamp, next_stamp}
use Rattle.craq_seat.proofs.Taking.{stamps_rise}
use Rattle.craq_causality.specs.Causal.{AreOrdered, HasJoined, IsOfSent, IsOfStopped, MayFollow}
use Rattle.craq_causality.proofs.Orders.{IsIn, above_first, from_contains, in_right, to_contains}
use Rattle.craq_merge.proofs.Counts.{count}
use Rattle.craq_merge.proofs.Journals.{Kept, book_in, ids_of, is_line, line_of}
use Rattle.craq_merge.proofs.Orders.{is_done, rising}

-- ---- the journals

-- a member from the start, as it was opened
abbrev pub IsFirst : ℕ → List ℕ → ℕ → Plain → Type 0
IsFirst chain members id first = (is_member members id ≡ true) × (first ≡ opening_member (record { chain = chain; node = id }) members)

-- a node that joined, as it was opened
abbrev pub IsLater : ℕ → List (Record BookEvent) → ℕ → Plain → ℕ → Type 0
IsLater chain book id first low =
    (first ≡ opening_joined (record { chain = chain; node = id })) × (r : Record BookEvent) × IsIn book r × (r.event ≡ books.Join id) × (r.stamp ≡ low)

-- a node's journal, from its opening
pub record IsStarted (chain : ℕ) (members : List ℕ) (book : List (Record BookEvent)) (n : Kept) : Type 0 where
  pub first : Plain
  pub last : Plain
  pub replay : Replays node_step first n.1 last
  pub low : ℕ
  pub high : ℕ
  pub stamped : AreStamped event_stamp low n.1 high
  pub opening : IsFirst chain members n.0 first ⊎ IsLater chain book n.0 first low

pub record AreGood (chain : ℕ) (j : Journals) : Type 0 where
  pub membership : IsMembership j.members
  pub master : Mastered
  pub replay : Replays book_step (masters.opened_master chain j.members) j.book master
  pub high : ℕ
  pub stamped : AreStamped book_stamp 0 j.book high
  pub ids : (id : ℕ) → count id (ids_of j.nodes) ≡ count id master.used
  pub nodes : (n : Kept) → IsIn j.nodes n → IsStarted chain j.members j.book n
  pub stops : (r : Record BookEvent) → IsIn j.book r → NamesItsStop j r.event
  pub sent : (n : Kept) (r : Record Event) → IsIn j.nodes n → IsIn n.1 r → HasSender j r

-- ---- stamps

pub above_borne : (own pass borne stamp : ℕ) → next_stamp own pass borne ≡ Ok stamp → borne < stamp
unfolding next_stamp
above_borne own pass borne stamp h = grind arith

pub above_pass : (own pass borne stamp : ℕ) → next_stamp own pass borne ≡ Ok stamp → pass < stamp
unfolding next_stamp
above_pass own pass borne stamp h = grind arith

-- a record's stamp is above its event's
pub records_above : {E : Type 0} (bears : E → ℕ) (first last : ℕ) (rs : List (Record E)) (r : Record E) → AreStamped bears first rs last → IsIn rs r → bears r.event < r.stamp
records_above bears first last [] r h i = absurd i
records_above bears first last (x ∷ rs) r h (inl e) = subst (λ y. bears y.event < y.stamp) e (above_borne first x.pass (bears x.event) x.stamp h.0)
records_above bears first last (x ∷ rs) r h (inr i) = records_above bears x.stamp last rs r h.1 i

-- and above its pass
pub records_above_pass : {E : Type 0} (bears : E → ℕ) (first last : ℕ) (rs : List (Record E)) (r : Record E) → AreStamped bears first rs last → IsIn rs r → r.pass < r.stamp
records_above_pass bears first last [] r h i = absurd i
records_above_pass bears first last (x ∷ rs) r h (inl e) = subst (λ y. y.pass < y.stamp) e (above_pass first x.pass (bears x.event) x.stamp h.0)
records_above_pass bears first last (x ∷ rs) r h (inr i) = records_above_pass bears x.stamp last rs r h.1 i

-- ---- each line follows its causes

earlier : (j : Journals) (lines done rest : List MergedStep) (l s : MergedStep) → lines ≡ done ++ l ∷ rest → IsMerge j lines → Contains (all_lines j) s → s.stamp < l.stamp → Contains done s
earlier j lines done rest l s e merge c less =
    to_contains done s (is_done lines done rest l s e (rising lines merge.order) (is_line j lines s merge (from_contains (all_lines j) s c)) less)

of_sent : (event : Event) (j : Journals) (lines done rest : List MergedStep) (l : MergedStep) → lines ≡ done ++ l ∷ rest → IsMerge j lines → audits.IsOfSent j l.stamp event → IsOfSent done event
of_sent (events.Ask ask) j lines done rest l e merge w = tt
of_sent (events.Deliver m) j lines done rest l e merge w =
    let less : m.stamp < l.stamp = w.0 in
    let same : w.1.stamp ≡ m.stamp = w.4 in
    record { line = w.1; there = earlier j lines done rest l w.1 e merge w.2 (omega (arith, less, same)); node = w.3; stamp = w.4; message = w.5 }
of_sent events.Tick j lines done rest l e merge w = tt
of_sent events.Stop j lines done rest l e merge w = tt

of_stopped : (event : BookEvent) (j : Journals) (lines done rest : List MergedStep) (l : MergedStep) → lines ≡ done ++ l ∷ rest → IsMerge j lines → book_stamp event < l.stamp → NamesItsStop j event → IsOfStopped done event
of_stopped (books.Join id) j lines done rest l e merge less w = tt
of_stopped (books.Remove stopped stop) j lines done rest l e merge less w =
    let low : stop.stamp < l.stamp = less in
    let same : w.1.stamp ≡ stop.stamp = w.4 in
    (w.1, earlier j lines done rest l w.1 e merge w.2 (omega (arith, low, same)), w.3 ∙ w.0, w.4, w.5)
of_stopped books.Tick j lines done rest l e merge less w = tt

has_joined : (chain : ℕ) (j : Journals) (lines done rest : List MergedStep) (n : Kept) (r : Record Event) → AreGood chain j → IsMerge j lines → lines ≡ done ++ node_line n.0 r ∷ rest → IsIn j.nodes n → IsIn n.1 r → HasJoined j.members done n.0
has_joined chain j lines done rest n r g merge e among there =
    let s = g.nodes n among in
    let less : s.low < r.stamp = above_first s.low s.high n.1 r (stamps_rise event_stamp s.low s.high n.1 s.stamped) there in
    elim s.opening [
      | inl a ↦ inl a.0
      | inr b ↦ (
          let low : b.1.stamp ≡ s.low = b.4 in
          let own : Contains (all_lines j) (book_line b.1) = to_contains (all_lines j) (book_line b.1) (book_in j b.1 b.2) in
          inr (book_line b.1, earlier j lines done rest (node_line n.0 r) (book_line b.1) e merge own (omega (arith, low, less)), ap AtMaster b.3)
          )
    ]

node_follows : (chain : ℕ) (j : Journals) (lines done rest : List MergedStep) (n : Kept) (r : Record Event) → AreGood chain j → IsMerge j lines → lines ≡ done ++ node_line n.0 r ∷ rest → IsIn j.nodes n → IsIn n.1 r → MayFollow j.members done n.0 (AtNode r.event)
node_follows chain j lines done rest n r g merge e among there =
    (has_joined chain j lines done rest n r g merge e among there, of_sent r.event j lines done rest (node_line n.0 r) e merge (g.sent n r among there))

book_follows : (chain : ℕ) (j : Journals) (lines done rest : List MergedStep) (r : Record BookEvent) → AreGood chain j → IsMerge j lines → lines ≡ done ++ book_line r ∷ rest → IsIn j.book r → MayFollow j.members done 0 (AtMaster r.event)
book_follows chain j lines done rest r g merge e there =
    of_stopped r.event j lines done rest (book_line r) e merge (records_above book_stamp 0 g.high j.book r g.stamped there) (g.stops r there)

pub follows : (chain : ℕ) (j : Journals) (lines done rest : List MergedStep) (l : MergedStep) → AreGood chain j → IsMerge j lines → lines ≡ done ++ l ∷ rest → MayFollow j.members done l.node l.event
follows chain j lines done rest l g merge e =
    elim (line_of j lines l merge (subst (λ ls. IsIn ls l) (sym e) (in_right done (l ∷ rest) l (inl refl)))) [
      | inl b ↦ subst (λ (x : MergedStep). MayFollow j.members done x.node x.event) b.is (book_follows chain j lines done rest b.entry g merge (subst (λ x. lines ≡ done ++ x ∷ rest) (sym b.is) e) b.there)
      | inr n ↦ subst (λ (x : MergedStep). MayFollow j.members done x.node x.event) n.is (node_follows chain j lines done rest n.kept n.entry g merge (subst (λ x. lines ≡ done ++ x ∷ rest) (sym n.is) e) n.among n.there)
    ]

pub ordered : (chain : ℕ) (j : Journals) (lines done rest : List MergedStep) → AreGood chain j → IsMerge j lines → lines ≡ done ++ rest → AreOrdered j.members done rest
ordered chain j lines done [] g merge e = tt
ordered chain j lines done (l ∷ rest) g merge e =
    (follows chain j lines done rest l g merge e, ordered chain j lines (done ++ l ∷ []) rest g merge (e ∙ sym (append_assoc done (l ∷ []) rest)))
