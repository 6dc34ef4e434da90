-- The lines of a merge at one node are its journal.
use Rattle.std.proofs.Common.{◌≡◌, ◌≢◌, ◌≤◌, ◌⊎◌, ℕ, List, [], ◌∷◌, map, refl, sym, ap, subst, arith, ◌∙◌, inl, inr}
use Rattle.std.specs.Prelude.{flat_map}
use Rattle.std.proofs.lemmas.List.Sorted.{Contains-permutation, IsPermutation-sym}
use Rattle.craq_model.specs.declared.ask.Event.{Event}
use Rattle.craq_seat.specs.declared.journal.BookEvent.{BookEvent}
use Rattle.craq_seat.specs.declared.journal.Record.{Record}
use Rattle.craq_seat.specs.Journal.{RisesTo}
use Rattle.craq_seat.specs.Merge.{IsMerge, Journals, MergedStep, all_lines, book_line, node_line}
use Rattle.craq_merge.proofs.Counts.{count, count_cons, is_counted}
use Rattle.craq_causality.specs.Authors.{lines_of}
use Rattle.craq_causality.proofs.Nodes.{same_or_not}
use Rattle.craq_causality.proofs.Orders.{IsIn, from_at, from_contains, in_either, in_left, in_map, in_right, journal_rises, of_map, to_at, to_contains}
use Rattle.craq_merge.proofs.Orders.{AreRising, at_rising, by_stamps, rising, same_lines}

-- a node's id and its records
abbrev pub Kept : Type 0
Kept = ℕ × List (Record Event)

abbrev pub kept_lines : Kept → List MergedStep
kept_lines n = map (node_line n.0) n.1

-- ---- the elements of the lines

pub in_flat : {X Y : Type 0} (f : X → List Y) (xs : List X) (x : X) (y : Y) → IsIn xs x → IsIn (f x) y → IsIn (flat_map f xs) y
in_flat f [] x y i k = absurd i
in_flat f (z ∷ xs) x y (inl e) k = in_left (f z) (flat_map f xs) y (subst (λ w. IsIn (f w) y) (sym e) k)
in_flat f (z ∷ xs) x y (inr i) k = in_right (f z) (flat_map f xs) y (in_flat f xs x y i k)

pub of_flat : {X Y : Type 0} (f : X → List Y) (xs : List X) (y : Y) → IsIn (flat_map f xs) y → (x : X) × IsIn xs x × IsIn (f x) y
of_flat f [] y i = absurd i
of_flat f (x ∷ xs) y i =
    elim (in_either (f x) (flat_map f xs) y i) [
      | inl k ↦ (x, inl refl, k)
      | inr k ↦ (let t = of_flat f xs y k in (t.0, inr t.1, t.2))
    ]

-- a line is of the master or of a node
pub record OfBook (j : Journals) (l : MergedStep) : Type 0 where
  pub entry : Record BookEvent
  pub there : IsIn j.book entry
  pub is : book_line entry ≡ l

pub record OfNode (j : Journals) (l : MergedStep) : Type 0 where
  pub kept : Kept
  pub among : IsIn j.nodes kept
  pub entry : Record Event
  pub there : IsIn kept.1 entry
  pub is : node_line kept.0 entry ≡ l

pub line_of : (j : Journals) (lines : List MergedStep) (l : MergedStep) → IsMerge j lines → IsIn lines l → OfBook j l ⊎ OfNode j l
line_of j lines l m i =
    let c = from_contains (all_lines j) l (Contains-permutation lines (all_lines j) l (IsPermutation-sym (all_lines j) lines m.all) (to_contains lines l i)) in
    elim (in_either (map book_line j.book) (flat_map kept_lines j.nodes) l c) [
      | inl k ↦ (let t = of_map book_line j.book l k in inl (record { entry = t.0; there = t.1; is = t.2 }))
      | inr k ↦ (let s = of_flat kept_lines j.nodes l k in let t = of_map (node_line s.0.0) s.0.1 l s.2 in inr (record { kept = s.0; among = s.1; entry = t.0; there = t.1; is = t.2 }))
    ]

pub is_line : (j : Journals) (lines : List MergedStep) (l : MergedStep) → IsMerge j lines → IsIn (all_lines j) l → IsIn lines l
is_line j lines l m i = from_contains lines l (Contains-permutation (all_lines j) lines l m.all (to_contains (all_lines j) l i))

pub book_in : (j : Journals) (r : Record BookEvent) → IsIn j.book r → IsIn (all_lines j) (book_line r)
book_in j r i = in_left (map book_line j.book) (flat_map kept_lines j.nodes) (book_line r) (in_map book_line j.book r i)

pub node_in : (j : Journals) (n : Kept) (r : Record Event) → IsIn j.nodes n → IsIn n.1 r → IsIn (all_lines j) (node_line n.0 r)
node_in j n r i k = in_right (map book_line j.book) (flat_map kept_lines j.nodes) (node_line n.0 r) (in_flat kept_lines j.nodes n (node_line n.0 r) i (in_map (node_line n.0) n.1 r k))

-- ---- a journal's lines ascend

pub lines_rise : {E : Type 0} (line : Record E → MergedStep) → ((r : Record E) → (line r).stamp ≡ r.stamp) → (first last : ℕ) (rs : List (Record E)) → RisesTo first rs last → AreRising (map line rs)
lines_rise line at first last rs h = by_stamps (map line rs) (journal_rises line at first last rs h)

-- ---- one journal for an id

abbrev pub ids_of : List Kept → List ℕ
ids_of ns = map (λ (n : Kept). n.0) ns

pub counted_in : (ns : List Kept) (n : Kept) → IsIn ns n → 1 ≤ count n.0 (ids_of ns)
counted_in ns n i = is_counted (ids_of ns) n.0 (in_map (λ (x : Kept). x.0) ns n i)

pub only_one : (ns : List Kept) (n k : Kept) → ((id : ℕ) → count id (ids_of ns) ≤ 1) → IsIn ns n → IsIn ns k → n.0 ≡ k.0 → n ≡ k
only_one [] n k h i l e = absurd i
only_one (x ∷ ns) n k h (inl a) (inl b) e = sym a ∙ b
only_one (x ∷ ns) n k h (inl a) (inr b) e =
    let s : x.0 ≡ k.0 = ap (λ (y : Kept). y.0) a ∙ e in
    let c = counted_in ns k b in
    let t = h k.0 in let a = count_cons k.0 x.0 (ids_of ns) in absurd (grind (arith, s, c, t, a))
only_one (x ∷ ns) n k h (inr a) (inl b) e =
    let s : x.0 ≡ n.0 = ap (λ (y : Kept). y.0) b ∙ sym e in
    let c = counted_in ns n a in
    let t = h n.0 in let a = count_cons n.0 x.0 (ids_of ns) in absurd (grind (arith, s, c, t, a))
only_one (x ∷ ns) n k h (inr a) (inr b) e = only_one ns n k (λ id. let t = h id in let d = count_cons id x.0 (ids_of ns) in omega (arith, t, d)) a b e

pub not_zero : (ns : List Kept) (n : Kept) → count 0 (ids_of ns) ≡ 0 → IsIn ns n → n.0 ≢ 0
not_zero ns n h i e = let c = counted_in ns n i in let d = subst (λ k. 1 ≤ count k (ids_of ns)) e c in omega (arith, d, h)

-- there is a journal for the id, or none
pub journal_at : (ns : List Kept) (id : ℕ) → ((n : Kept) × IsIn ns n × (n.0 ≡ id)) ⊎ ((n : Kept) → IsIn ns n → n.0 ≢ id)
journal_at [] id = inr (λ n i. absurd i)
journal_at (x ∷ ns) id =
    elim (same_or_not x.0 id) [
      | inl e ↦ inl (x, inl refl, e)
      | inr d ↦ elim (journal_at ns id) [
        | inl t ↦ inl (t.0, inr t.1, t.2)
        | inr f ↦ inr (λ n i. by_place n i d f)
      ]
    ]
  where
    by_place : (n : Kept) → (x ≡ n) ⊎ IsIn ns n → x.0 ≢ id → ((n : Kept) → IsIn ns n → n.0 ≢ id) → n.0 ≢ id
    by_place n (inl e) d f = λ k. d (ap (λ (y : Kept). y.0) e ∙ k)
    by_place n (inr i) d f = f n i

-- ---- the lines at a node

pub book_lines : (j : Journals) (lines : List MergedStep) (first last : ℕ) → IsMerge j lines → RisesTo first j.book last → ((n : Kept) → IsIn j.nodes n → n.0 ≢ 0) → lines_of 0 lines ≡ map book_line j.book
book_lines j lines first last m up other =
    same_lines (lines_of 0 lines) (map book_line j.book) (at_rising 0 lines (rising lines m.order)) (lines_rise book_line (λ r. refl) first last j.book up)
    (λ z i. let t = from_at 0 lines z i in elim (line_of j lines z m t.0) [
      | inl b ↦ subst (IsIn (map book_line j.book)) b.is (in_map book_line j.book b.entry b.there)
      | inr n ↦ absurd (other n.kept n.among (ap (λ (y : MergedStep). y.node) n.is ∙ t.1))
    ])
    (λ z i. let t = of_map book_line j.book z i in
    to_at 0 lines z (is_line j lines z m (subst (IsIn (all_lines j)) t.2 (book_in j t.0 t.1))) (ap (λ (y : MergedStep). y.node) (sym t.2)))

pub node_lines : (j : Journals) (lines : List MergedStep) (n : Kept) (first last : ℕ) → IsMerge j lines → RisesTo first n.1 last → n.0 ≢ 0 → IsIn j.nodes n → ((k : Kept) → IsIn j.nodes k → k.0 ≡ n.0 → k ≡ n) → lines_of n.0 lines ≡ map (node_line n.0) n.1
node_lines j lines n first last m up z among one =
    same_lines (lines_of n.0 lines) (kept_lines n) (at_rising n.0 lines (rising lines m.order)) (lines_rise (node_line n.0) (λ r. refl) first last n.1 up)
    (λ x i. let t = from_at n.0 lines x i in elim (line_of j lines x m t.0) [
      | inl b ↦ absurd (z (sym t.1 ∙ ap (λ (y : MergedStep). y.node) (sym b.is)))
      | inr k ↦ (let e = one k.kept k.among (ap (λ (y : MergedStep). y.node) k.is ∙ t.1) in subst (λ (y : Kept). IsIn (kept_lines y) x) e (subst (IsIn (kept_lines k.kept)) k.is (in_map (node_line k.kept.0) k.kept.1 k.entry k.there)))
    ])
    (λ x i. let t = of_map (node_line n.0) n.1 x i in
    to_at n.0 lines x (is_line j lines x m (subst (IsIn (all_lines j)) t.2 (node_in j n t.0 among t.1))) (ap (λ (y : MergedStep). y.node) (sym t.2)))

pub no_lines : (j : Journals) (lines : List MergedStep) (id : ℕ) → IsMerge j lines → id ≢ 0 → ((k : Kept) → IsIn j.nodes k → k.0 ≢ id) → lines_of id lines ≡ []
no_lines j lines id m z none =
    same_lines (lines_of id lines) [] (at_rising id lines (rising lines m.order)) tt
    (λ x i. let t = from_at id lines x i in elim (line_of j lines x m t.0) [
      | inl b ↦ absurd (z (sym t.1 ∙ ap (λ (y : MergedStep). y.node) (sym b.is)))
      | inr k ↦ absurd (none k.kept k.among (ap (λ (y : MergedStep). y.node) k.is ∙ t.1))
    ])
    (λ x i. absurd i)

-- ---- there is at most one merge

pub one_merge : (j : Journals) (xs ys : List MergedStep) → IsMerge j xs → IsMerge j ys → xs ≡ ys
one_merge j xs ys m n =
    same_lines xs ys (rising xs m.order) (rising ys n.order) (λ z i. crosses xs ys z m n i) (λ z i. crosses ys xs z n m i)
  where
    crosses : (us vs : List MergedStep) (z : MergedStep) → IsMerge j us → IsMerge j vs → IsIn us z → IsIn vs z
    crosses us vs z a b i = is_line j vs z b (from_contains (all_lines j) z (Contains-permutation us (all_lines j) z (IsPermutation-sym (all_lines j) us a.all) (to_contains us z i)))
