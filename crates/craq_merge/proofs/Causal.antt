-- The merge of good journals is in causal order.
use Rattle.std.proofs.Common.{◌≡◌, ◌≢◌, ◌≤◌, ◌⊎◌, ℕ, Bool, true, false, if◌then◌else◌, List, [], map, refl, subst, arith, ◌∙◌, inl, inr}
use Rattle.std.specs.List.{AllByRecursion}
use Rattle.craq_model.specs.declared.ask.Event.{Event}
use Rattle.craq_model.specs.Members.{is_member}
use Rattle.craq_model.specs.Node.{node_step}
use Rattle.craq_model.specs.Plain.{Plain, opening_joined, opening_member}
use Rattle.craq_epochs.specs.Mastered as masters
use Rattle.craq_seat.specs.declared.journal.Record.{Record}
use Rattle.craq_seat.specs.Journal.{Replays}
use Rattle.craq_seat.specs.Merge.{AtNode, IsMerge, Journals, MergedStep, book_line, node_line}
use Rattle.craq_seat.specs.Stamps.{book_stamp, event_stamp}
use Rattle.craq_seat.proofs.Taking.{stamps_rise}
use Rattle.craq_causality.specs.Authors.{IsNodeAfter, first_of, lines_of}
use Rattle.craq_causality.specs.Causal.{AreCausal, AreTyped, IsOfType}
use Rattle.craq_causality.proofs.Orders.{IsIn, all_by, all_in}
use Rattle.craq_merge.specs.Within.{AreAsksOfType}
use Rattle.craq_merge.proofs.Counts.{count, distinct_once, none_is_zero}
use Rattle.craq_merge.proofs.Good.{AreGood, IsFirst, IsLater, ordered}
use Rattle.craq_merge.proofs.Journals.{Kept, book_lines, ids_of, journal_at, line_of, no_lines, node_lines, not_zero, only_one}
use Rattle.craq_merge.proofs.Used.{AreUsed, are_used, joins_new}

-- ---- each author's lines are its journal

good_used : (chain : ℕ) (j : Journals) (g : AreGood chain j) → AreUsed g.master.used
good_used chain j g =
    are_used (masters.opened_master chain j.members) g.master j.book g.replay
    (record { some = none_is_zero j.members _ g.membership.ids; once = λ id. distinct_once j.members id g.membership.distinct })

pub own_zero : (chain : ℕ) (j : Journals) (g : AreGood chain j) (n : Kept) → IsIn j.nodes n → n.0 ≢ 0
own_zero chain j g n i = not_zero j.nodes n (g.ids 0 ∙ (good_used chain j g).some) i

-- no id has two journals
pub own_counts : (chain : ℕ) (j : Journals) (g : AreGood chain j) (id : ℕ) → count id (ids_of j.nodes) ≤ 1
own_counts chain j g id = let a = g.ids id in let b = (good_used chain j g).once id in omega (arith, a, b)

own_one : (chain : ℕ) (j : Journals) (g : AreGood chain j) (n k : Kept) → IsIn j.nodes n → IsIn j.nodes k → n.0 ≡ k.0 → n ≡ k
own_one chain j g n k = only_one j.nodes n k (own_counts chain j g)

-- the lines of a merge are the journals
pub node_journal : (chain : ℕ) (j : Journals) (lines : List MergedStep) (g : AreGood chain j) → IsMerge j lines → (n : Kept) → IsIn j.nodes n → lines_of n.0 lines ≡ map (node_line n.0) n.1
node_journal chain j lines g m n i =
    let s = g.nodes n i in
    node_lines j lines n s.low s.high m (stamps_rise event_stamp s.low s.high n.1 s.stamped) (own_zero chain j g n i) i (λ k l e. own_one chain j g k n l i e)

pub book_journal : (chain : ℕ) (j : Journals) (lines : List MergedStep) (g : AreGood chain j) → IsMerge j lines → lines_of 0 lines ≡ map book_line j.book
book_journal chain j lines g m = book_lines j lines 0 g.high m (stamps_rise book_stamp 0 g.high j.book g.stamped) (own_zero chain j g)

-- ---- the authors

by_member : (b : Bool) (first own later : Plain) → ((b ≡ true) × (first ≡ own)) ⊎ ((b ≡ false) × (first ≡ later)) → first ≡ (if b then own else later)
by_member true first own later (inl h) = h.1
by_member true first own later (inr (f, e)) = cc
by_member false first own later (inl (f, e)) = cc
by_member false first own later (inr h) = h.1

is_first : (chain : ℕ) (j : Journals) (g : AreGood chain j) (id low : ℕ) (first : Plain) → IsFirst chain j.members id first ⊎ IsLater chain j.book id first low → first ≡ first_of chain j.members id
is_first chain j g id low first opening =
    by_member (is_member j.members id) first (opening_member (record { chain = chain; node = id }) j.members) (opening_joined (record { chain = chain; node = id })) (elim opening [
      | inl a ↦ inl a
      | inr b ↦ inr (joins_new (masters.opened_master chain j.members) g.master j.book b.1 id g.replay b.2 b.3, b.0)
    ])

abbrev IsAuthor : ℕ → Journals → List MergedStep → ℕ → Type 0
IsAuthor chain j lines id = (p : Plain) × (stamp : ℕ) × IsNodeAfter chain j.members id lines p stamp

with_journal : (chain : ℕ) (j : Journals) (lines : List MergedStep) (g : AreGood chain j) → IsMerge j lines → (n : Kept) → IsIn j.nodes n → IsAuthor chain j lines n.0
with_journal chain j lines g m n i =
    let s = g.nodes n i in (
      s.last,
      s.high,
      record {
        records = n.1;
        are = node_journal chain j lines g m n i;
        replay = subst (λ (p : Plain). Replays node_step p n.1 s.last) (is_first chain j g n.0 s.low s.first s.opening) s.replay;
        low = s.low;
        stamps = stamps_rise event_stamp s.low s.high n.1 s.stamped;
      },
    )

author : (chain : ℕ) (j : Journals) (lines : List MergedStep) (g : AreGood chain j) → IsMerge j lines → (id : ℕ) → id ≢ 0 → IsAuthor chain j lines id
author chain j lines g m id z =
    elim (journal_at j.nodes id) [
      | inl t ↦ subst (IsAuthor chain j lines) t.2 (with_journal chain j lines g m t.0 t.1)
      | inr f ↦ (first_of chain j.members id, 0, record { records = []; are = no_lines j lines id m z f; replay = refl; low = 0; stamps = refl })
    ]

-- ---- all lines

pub causal : (chain : ℕ) (j : Journals) (lines : List MergedStep) → AreGood chain j → IsMerge j lines → AreCausal chain j.members lines
causal chain j lines g m =
    record {
      membership = g.membership;
      master = (
        g.master,
        g.high,
        record {
          records = j.book;
          are = book_journal chain j lines g m;
          replay = g.replay;
          stamps = stamps_rise book_stamp 0 g.high j.book g.stamped;
        },
      );
      nodes = author chain j lines g m;
      order = ordered chain j lines [] lines g m refl;
    }

line_typed : (j : Journals) (lines : List MergedStep) (l : MergedStep) → IsMerge j lines → AreAsksOfType j → IsIn lines l → IsOfType l.event
line_typed j lines l m a i =
    elim (line_of j lines l m i) [
      | inl b ↦ subst (λ (x : MergedStep). IsOfType x.event) b.is tt
      | inr n ↦ subst (λ (x : MergedStep). IsOfType x.event) n.is (all_in (λ (r : Record Event). IsOfType (AtNode r.event)) n.kept.1 n.entry (all_in (λ (k : Kept). AllByRecursion (λ (r : Record Event). IsOfType (AtNode r.event)) k.1) j.nodes n.kept a n.among) n.there)
    ]

pub typed : (j : Journals) (lines : List MergedStep) → IsMerge j lines → AreAsksOfType j → AreTyped lines
typed j lines m a = all_by (λ (l : MergedStep). IsOfType l.event) lines (λ l i. line_typed j lines l m a i)
