-- One more line in causal order.
use Rattle.std.proofs.Common.{◌≡◌, ◌≢◌, ◌<◌, ℕ, ◌==◌, List, [], ◌∷◌, ◌++◌, Ok, refl, sym, ap, subst, ◌∙◌, inl, inr, append_assoc, append-nil, eq-eqb, ne_eqb}
use Rattle.std.specs.List.{AllByRecursion}
use Rattle.std.specs.Prelude.{Contains}
use Rattle.std.proofs.lemmas.List.{map-append}
use Rattle.std.proofs.lemmas.List.Elements.{filter-append}
use mathlib.Core.List.{IsPrefix}
use Rattle.craq_model.specs.declared.ask.Event.{Event}
use Rattle.craq_model.specs.declared.ask.Event.TheVariants as events
use Rattle.craq_model.specs.Members.{IsMembership}
use Rattle.craq_model.specs.Node.{node_step}
use Rattle.craq_model.specs.Plain.{Plain}
use Rattle.craq_epochs.specs.Mastered.{Mastered}
use Rattle.craq_epochs.specs.Mastered as masters
use Rattle.craq_seat.specs.declared.journal.BookEvent.{BookEvent}
use Rattle.craq_seat.specs.declared.journal.BookEvent.TheVariants as books
use Rattle.craq_seat.specs.declared.journal.Record.{Record}
use Rattle.craq_seat.specs.Books.{book_step}
use Rattle.craq_seat.specs.Journal.{RisesTo}
use Rattle.craq_seat.specs.Merge.{AtNode, AtMaster, Happening, MergedStep, book_line, node_line}
use Rattle.craq_seat.proofs.Taking.{replays_more}
use Rattle.craq_causality.specs.Authors.{IsMasterAfter, IsNodeAfter, first_of, lines_of}
use Rattle.craq_causality.specs.Causal.{AreCausal, AreOrdered, AreTyped, HasJoined, IsOfSent, IsOfStopped, IsOfType, MayFollow}
use Rattle.craq_causality.proofs.Nodes.{same_or_not}
use Rattle.craq_causality.proofs.Orders.{IsIn, from_contains, in_left, to_contains}

-- ---- the lines of one author

pub lines_same : (id : ℕ) (lines : List MergedStep) (l : MergedStep) → l.node ≡ id → lines_of id (lines ++ l ∷ []) ≡ lines_of id lines ++ l ∷ []
lines_same id lines l e = filter-append (λ (x : MergedStep). x.node == id) lines (l ∷ []) ∙ rw (eq-eqb l.node id e) refl

lines_other : (id : ℕ) (lines : List MergedStep) (l : MergedStep) → l.node ≢ id → lines_of id (lines ++ l ∷ []) ≡ lines_of id lines
lines_other id lines l n = filter-append (λ (x : MergedStep). x.node == id) lines (l ∷ []) ∙ rw (ne_eqb l.node id n) (append-nil (lines_of id lines))

rises_more : {E : Type 0} (low high : ℕ) (rs : List (Record E)) (r : Record E) → RisesTo low rs high → high < r.stamp → RisesTo low (rs ++ r ∷ []) r.stamp
rises_more low high [] r is less = (rw is at less, refl)
rises_more low high (x ∷ rs) r (first, rest) less = (first, rises_more x.stamp high rs r rest less)

pub node_more : (chain : ℕ) (members : List ℕ) (id : ℕ) (lines : List MergedStep) (p q : Plain) (stamp : ℕ) (r : Record Event) → IsNodeAfter chain members id lines p stamp → node_step p r.event ≡ Ok (q, r.step) → stamp < r.stamp → IsNodeAfter chain members id (lines ++ node_line id r ∷ []) q r.stamp
node_more chain members id lines p q stamp r n step less =
    record {
      records = n.records ++ r ∷ [];
      are = lines_same id lines (node_line id r) refl ∙ ap (λ ls. ls ++ node_line id r ∷ []) n.are ∙ sym (map-append (node_line id) n.records (r ∷ []));
      replay = replays_more node_step (first_of chain members id) p q n.records r n.replay step;
      low = n.low;
      stamps = rises_more n.low stamp n.records r n.stamps less;
    }

node_other : (chain : ℕ) (members : List ℕ) (id : ℕ) (lines : List MergedStep) (l : MergedStep) (p : Plain) (stamp : ℕ) → l.node ≢ id → IsNodeAfter chain members id lines p stamp → IsNodeAfter chain members id (lines ++ l ∷ []) p stamp
node_other chain members id lines l p stamp other n =
    record { records = n.records; are = lines_other id lines l other ∙ n.are; replay = n.replay; low = n.low; stamps = n.stamps }

pub master_more : (chain : ℕ) (members : List ℕ) (lines : List MergedStep) (m n : Mastered) (stamp : ℕ) (r : Record BookEvent) → IsMasterAfter chain members lines m stamp → book_step m r.event ≡ Ok (n, r.step) → stamp < r.stamp → IsMasterAfter chain members (lines ++ book_line r ∷ []) n r.stamp
master_more chain members lines m n stamp r b step less =
    record {
      records = b.records ++ r ∷ [];
      are = lines_same 0 lines (book_line r) refl ∙ ap (λ ls. ls ++ book_line r ∷ []) b.are ∙ sym (map-append book_line b.records (r ∷ []));
      replay = replays_more book_step (masters.opened_master chain members) m n b.records r b.replay step;
      stamps = rises_more 0 stamp b.records r b.stamps less;
    }

master_other : (chain : ℕ) (members : List ℕ) (lines : List MergedStep) (l : MergedStep) (m : Mastered) (stamp : ℕ) → l.node ≢ 0 → IsMasterAfter chain members lines m stamp → IsMasterAfter chain members (lines ++ l ∷ []) m stamp
master_other chain members lines l m stamp other b =
    record { records = b.records; are = lines_other 0 lines l other ∙ b.are; replay = b.replay; stamps = b.stamps }

-- ---- all lines

ordered_more : (members : List ℕ) (before lines : List MergedStep) (l : MergedStep) → AreOrdered members before lines → MayFollow members (before ++ lines) l.node l.event → AreOrdered members before (lines ++ l ∷ [])
ordered_more members before [] l o may = (rw append-nil at may, tt)
ordered_more members before (x ∷ lines) l o may =
    (o.0, ordered_more members (before ++ x ∷ []) lines l o.1 (subst (λ ls. MayFollow members ls l.node l.event) (sym (append_assoc before (x ∷ []) lines)) may))

all_more : {X : Type 0} (P : X → Type 0) (xs : List X) (x : X) → AllByRecursion P xs → P x → AllByRecursion P (xs ++ x ∷ [])
all_more P [] x a p = (p, tt)
all_more P (y ∷ xs) x a p = (a.0, all_more P xs x a.1 p)

pub typed_more : (lines : List MergedStep) (l : MergedStep) → AreTyped lines → IsOfType l.event → AreTyped (lines ++ l ∷ [])
typed_more = all_more (λ (x : MergedStep). IsOfType x.event)

-- no lines are in causal order
pub no_lines : (chain : ℕ) (members : List ℕ) → IsMembership members → AreCausal chain members []
no_lines chain members m =
    record {
      membership = m;
      master = (masters.opened_master chain members, 0, record { records = []; are = refl; replay = refl; stamps = refl });
      nodes = λ id z. (first_of chain members id, 0, record { records = []; are = refl; replay = refl; low = 0; stamps = refl });
      order = tt;
    }

-- a step of a node follows
pub node_follows : (chain : ℕ) (members : List ℕ) (lines : List MergedStep) (id : ℕ) (p q : Plain) (stamp : ℕ) (r : Record Event) → AreCausal chain members lines → id ≢ 0 → IsNodeAfter chain members id lines p stamp → node_step p r.event ≡ Ok (q, r.step) → stamp < r.stamp → MayFollow members lines id (AtNode r.event) → AreCausal chain members (lines ++ node_line id r ∷ [])
node_follows chain members lines id p q stamp r a z n step less may =
    let l : MergedStep = node_line id r in
    record {
      membership = a.membership;
      master = (a.master.0, a.master.1, master_other chain members lines l a.master.0 a.master.1 z a.master.2);
      nodes = λ k w. elim (same_or_not id k) [
        | inl e ↦ subst (λ j. (s : Plain) × (t : ℕ) × IsNodeAfter chain members j (lines ++ l ∷ []) s t) e (q, r.stamp, node_more chain members id lines p q stamp r n step less)
        | inr d ↦ (let t = a.nodes k w in (t.0, t.1, node_other chain members k lines l t.0 t.1 d t.2))
      ];
      order = ordered_more members [] lines l a.order may;
    }

-- a step of the master follows
pub master_follows : (chain : ℕ) (members : List ℕ) (lines : List MergedStep) (m n : Mastered) (stamp : ℕ) (r : Record BookEvent) → AreCausal chain members lines → IsMasterAfter chain members lines m stamp → book_step m r.event ≡ Ok (n, r.step) → stamp < r.stamp → MayFollow members lines 0 (AtMaster r.event) → AreCausal chain members (lines ++ book_line r ∷ [])
master_follows chain members lines m n stamp r a b step less may =
    let l : MergedStep = book_line r in
    record {
      membership = a.membership;
      master = (n, r.stamp, master_more chain members lines m n stamp r b step less);
      nodes = λ k w. let t = a.nodes k w in (t.0, t.1, node_other chain members k lines l t.0 t.1 (λ e. w (sym e)) t.2);
      order = ordered_more members [] lines l a.order may;
    }

-- ---- an event that may follow lines may follow more of them

contains_more : {X : Type 0} (xs ys : List X) (x : X) → IsPrefix xs ys → Contains xs x → Contains ys x
contains_more xs ys x p c = subst (λ zs. Contains zs x) p.1 (to_contains (xs ++ p.0) x (in_left xs p.0 x (from_contains xs x c)))

pub joined_later : (members : List ℕ) (xs ys : List MergedStep) (id : ℕ) → IsPrefix xs ys → HasJoined members xs id → HasJoined members ys id
joined_later members xs ys id p (inl m) = inl m
joined_later members xs ys id p (inr j) = inr (j.0, contains_more xs ys j.0 p j.1, j.2)

pub sent_later : (xs ys : List MergedStep) (e : Event) → IsPrefix xs ys → IsOfSent xs e → IsOfSent ys e
sent_later xs ys (events.Ask ask) p s = tt
sent_later xs ys (events.Deliver m) p s = record { line = s.line; there = contains_more xs ys s.line p s.there; node = s.node; stamp = s.stamp; message = s.message }
sent_later xs ys events.Tick p s = tt
sent_later xs ys events.Stop p s = tt

pub stopped_later : (xs ys : List MergedStep) (e : BookEvent) → IsPrefix xs ys → IsOfStopped xs e → IsOfStopped ys e
stopped_later xs ys (books.Join other) p s = tt
stopped_later xs ys (books.Remove stopped stop) p s = (s.0, contains_more xs ys s.0 p s.1, s.2, s.3, s.4)
stopped_later xs ys books.Tick p s = tt

pub follows_later : (members : List ℕ) (xs ys : List MergedStep) (id : ℕ) (h : Happening) → IsPrefix xs ys → MayFollow members xs id h → MayFollow members ys id h
follows_later members xs ys id (AtNode e) p may = (joined_later members xs ys id p may.0, sent_later xs ys e p may.1)
follows_later members xs ys id (AtMaster e) p may = stopped_later xs ys e p may

-- the causes of each line are among the lines
pub all_follow : (members : List ℕ) (before rest : List MergedStep) (l : MergedStep) → AreOrdered members before rest → IsIn rest l → MayFollow members (before ++ rest) l.node l.event
all_follow members before [] l o i = absurd i
all_follow members before (x ∷ rest) l o (inl e) =
    subst (λ (y : MergedStep). MayFollow members (before ++ x ∷ rest) y.node y.event) e (follows_later members before (before ++ x ∷ rest) x.node x.event (x ∷ rest, refl) o.0)
all_follow members before (x ∷ rest) l o (inr i) =
    subst (λ ls. MayFollow members ls l.node l.event) (append_assoc before (x ∷ []) rest) (all_follow members (before ++ x ∷ []) rest l o.1 i)
