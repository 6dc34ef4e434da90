-- Sorted lines of kept journals are their merge: no two have the same node and stamp.
use Rattle.std.proofs.Common.{◌≡◌, ◌≢◌, ◌≤◌, ℕ, ◌+◌, ◌==◌, ◌&&◌, if◌then◌else◌, List, [], ◌∷◌, ◌++◌, map, refl, sym, ap, arith, ◌∙◌, inl, inr}
use Rattle.std.specs.Prelude.{flat_map, IsPermutation}
use Rattle.std.specs.List.{sum_by}
use Rattle.std.proofs.lemmas.List.Sorted.{sum_by-IsPermutation}
use Rattle.std.proofs.lemmas.List.Sums.{sum_by-append, sum_by-cons}
use Rattle.craq_model.specs.declared.ask.Event.{Event}
use Rattle.craq_model.specs.Plain.{Plain}
use Rattle.craq_epochs.specs.Mastered.{Mastered}
use Rattle.craq_seat.specs.declared.journal.BookEvent.{BookEvent}
use Rattle.craq_seat.specs.Cells.{Celled}
use Rattle.craq_seat.specs.Merge.{AreInOrder, IsBefore, IsMerge, Journals, MergedStep, all_lines, book_line, node_line}
use Rattle.craq_seat.specs.Stamps.{book_stamp, event_stamp}
use Rattle.craq_seat.proofs.Taking.{stamps_rise}
use Rattle.craq_causality.proofs.Nodes.{same_or_not}
use Rattle.craq_causality.proofs.Orders.{IsIn, all_in, of_map}
use Rattle.craq_merge.specs.Merged.{AreSeated}
use Rattle.craq_merge.specs.Sorted.{AreSorted}
use Rattle.craq_merge.proofs.Causal.{own_counts, own_zero}
use Rattle.craq_merge.proofs.Counts.{count, count_cons}
use Rattle.craq_merge.proofs.Good.{AreGood}
use Rattle.craq_merge.proofs.Journals.{Kept, counted_in, ids_of, kept_lines, lines_rise, of_flat}
use Rattle.craq_merge.proofs.Orders.{AreRising}
use Rattle.craq_merge.proofs.Seated.{good}

-- the number of lines with this node and stamp
abbrev one : ℕ → ℕ → MergedStep → ℕ
one node stamp l = if (l.node == node) && (l.stamp == stamp) then 1 else 0

abbrev total : ℕ → ℕ → List MergedStep → ℕ
total node stamp ls = sum_by (one node stamp) ls

total_cons : (node stamp : ℕ) (l : MergedStep) (ls : List MergedStep) → total node stamp (l ∷ ls) ≡ one node stamp l + total node stamp ls
total_cons node stamp l ls = sum_by-cons (one node stamp) l ls

total_append : (node stamp : ℕ) (xs ys : List MergedStep) → total node stamp (xs ++ ys) ≡ total node stamp xs + total node stamp ys
total_append node stamp xs ys = sum_by-append (one node stamp) xs ys

none_has : (node stamp : ℕ) (ls : List MergedStep) → ((l : MergedStep) → IsIn ls l → l.node ≡ node → l.stamp ≡ stamp → ⊥) → total node stamp ls ≡ 0
none_has node stamp [] f = refl
none_has node stamp (l ∷ ls) f =
    let a = total_cons node stamp l ls in
    let b = none_has node stamp ls (λ x i. f x (inr i)) in
    let c = f l (inl refl) in
    grind (arith, a, b, c)

not_alike : (a b : MergedStep) → IsBefore a b → a.node ≡ b.node → a.stamp ≡ b.stamp → ⊥
not_alike a b (inl h) n s = omega (arith, h, s)
not_alike a b (inr h) n s = let k = h.1 in omega (arith, k, n)

one_has : (node stamp : ℕ) (ls : List MergedStep) → AreRising ls → total node stamp ls ≤ 1
one_has node stamp [] r = omega arith
one_has node stamp (l ∷ ls) r =
    let a = total_cons node stamp l ls in
    let b = one_has node stamp ls r.1 in
    let alone : l.node ≡ node → l.stamp ≡ stamp → total node stamp ls ≡ 0 = λ n s. none_has node stamp ls (λ x i e f. not_alike l x (all_in (IsBefore l) ls x r.0 i) (n ∙ sym e) (s ∙ sym f)) in
    grind (arith, a, b, alone)

has : (l : MergedStep) (node stamp : ℕ) → l.node ≡ node → l.stamp ≡ stamp → one node stamp l ≡ 1
has l node stamp n s = grind (arith, n, s)

-- ---- in the journals

node_of_line : (ns : List Kept) (l : MergedStep) → IsIn (flat_map kept_lines ns) l → (k : Kept) × IsIn ns k × (k.0 ≡ l.node)
node_of_line ns l i =
    let t = of_flat kept_lines ns l i in
    let u = of_map (node_line t.0.0) t.0.1 l t.2 in
    (t.0, t.1, ap (λ (x : MergedStep). x.node) u.2)

nodes_have : (node stamp : ℕ) (ns : List Kept) → ((k : Kept) → IsIn ns k → AreRising (kept_lines k)) → ((id : ℕ) → count id (ids_of ns) ≤ 1) → total node stamp (flat_map kept_lines ns) ≤ 1
nodes_have node stamp [] r once = omega arith
nodes_have node stamp (x ∷ ns) r once =
    let a = total_append node stamp (kept_lines x) (flat_map kept_lines ns) in
    let b = nodes_have node stamp ns (λ k i. r k (inr i)) (λ id. let t = once id in let d = count_cons id x.0 (ids_of ns) in omega (arith, t, d)) in
    let c = one_has node stamp (kept_lines x) (r x (inl refl)) in
    let own : x.0 ≢ node → total node stamp (kept_lines x) ≡ 0 = λ d. none_has node stamp (kept_lines x) (λ l i e f. let u = of_map (node_line x.0) x.1 l i in d (ap (λ (y : MergedStep). y.node) u.2 ∙ e)) in
    let others : x.0 ≡ node → total node stamp (flat_map kept_lines ns) ≡ 0 = λ e. none_has node stamp (flat_map kept_lines ns) (λ l i n s. let t = node_of_line ns l i in
    let same : x.0 ≡ t.0.0 = e ∙ sym n ∙ sym t.2 in
    let p = counted_in ns t.0 t.1 in
    let q = once t.0.0 in
    let d = count_cons t.0.0 x.0 (ids_of ns) in
    grind (arith, same, p, q, d)) in
    elim (same_or_not x.0 node) [ inl e ↦ (let o = others e in omega (arith, a, c, o)) | inr d ↦ (let o = own d in omega (arith, a, b, o)) ]

all_have : (chain : ℕ) (j : Journals) (g : AreGood chain j) (node stamp : ℕ) → total node stamp (all_lines j) ≤ 1
all_have chain j g node stamp =
    let a = total_append node stamp (map book_line j.book) (flat_map kept_lines j.nodes) in
    let b = one_has node stamp (map book_line j.book) (lines_rise book_line (λ r. refl) 0 g.high j.book (stamps_rise book_stamp 0 g.high j.book g.stamped)) in
    let c = nodes_have node stamp j.nodes (λ k i. let s = g.nodes k i in lines_rise (node_line k.0) (λ r. refl) s.low s.high k.1 (stamps_rise event_stamp s.low s.high k.1 s.stamped)) (own_counts chain j g) in
    elim (same_or_not node 0) [
      | inl e ↦ (let o = none_has node stamp (flat_map kept_lines j.nodes) (λ l i n s. let t = node_of_line j.nodes l i in own_zero chain j g t.0 t.1 (t.2 ∙ n ∙ e)) in omega (arith, a, b, o))
      | inr d ↦ (let o = none_has node stamp (map book_line j.book) (λ l i n s. let u = of_map book_line j.book l i in d (sym n ∙ ap (λ (y : MergedStep). y.node) (sym u.2))) in omega (arith, a, c, o))
    ]

-- ---- sorted lines

next_before : (a b : MergedStep) → ¬ IsBefore b a → (a.node ≡ b.node → a.stamp ≡ b.stamp → ⊥) → IsBefore a b
next_before a b f g = grind (arith, f, g)

in_order : (ls : List MergedStep) → ((node stamp : ℕ) → total node stamp ls ≤ 1) → AreSorted ls → AreInOrder ls
in_order [] f s = tt
in_order (a ∷ []) f s = tt
in_order (a ∷ b ∷ ls) f s =
    let less : (node stamp : ℕ) → total node stamp (b ∷ ls) ≤ 1 = λ node stamp. let t = f node stamp in let d = total_cons node stamp a (b ∷ ls) in omega (arith, t, d) in
    let both : a.node ≡ b.node → a.stamp ≡ b.stamp → ⊥ = λ n e. let t = f b.node b.stamp in let d = total_cons b.node b.stamp a (b ∷ ls) in let k = total_cons b.node b.stamp b ls in let u = has a b.node b.stamp n e in let v = has b b.node b.stamp refl refl in omega (arith, t, d, k, u, v) in
    (next_before a b s.0 both, in_order (b ∷ ls) less s.1)

pub sorted_merge : {C : Type 0} (R : C → Plain → Type 0) (book : Celled Mastered BookEvent) (cells : List (Celled C Event)) (j : Journals) (lines : List MergedStep) → AreSeated R book cells j → IsPermutation (all_lines j) lines → AreSorted lines → IsMerge j lines
sorted_merge R book cells j lines s p sorted =
    let g = good R book cells j s in
    record {
      all = p;
      order = in_order lines (λ node stamp. let t = all_have book.opening.name.chain j g node stamp in let e = sum_by-IsPermutation (one node stamp) (all_lines j) lines p in omega (arith, t, e)) sorted;
    }
