-- The parts of a state, joined in order, are the state; the runs of entries, concatenated, are the
-- entries.
use Rattle.std.proofs.Common.{◌≡◌, ◌≤◌, ℕ, zero, suc, ◌+◌, ◌-◌, ◌*◌, List, [], ◌∷◌, ◌++◌, map, length, take, drop, refl, sym, ap, ◌∙◌, arith, append_assoc, length-append}
use Rattle.std.proofs.lemmas.List.{take-append-drop, drop_all, take_all}
use Rattle.std.specs.List.{flat_map, range_with_len}
use Rattle.std.specs.Slice.Iter.{chunk_count}
use Rattle.craq_commands.specs.Kept.{Window}
use Rattle.craq_commands.specs.declared.entry.Entry.{Entry}
use Rattle.craq_commands.specs.declared.state.State.{State}
use Rattle.craq_model.specs.declared.message.StatePart.{StatePart}
use Rattle.craq_model.specs.Parts.{item_count, share, part_count, part_of, parts_of, joined_state}
use Rattle.craq_model.specs.Sends.{runs_of}

nothing_between : {A : Type 0} (n : ℕ) (xs : List A) → drop n (take n xs) ≡ []
nothing_between zero xs = refl
nothing_between (suc n) [] = refl
nothing_between (suc n) (x ∷ xs) = nothing_between n xs

-- adjacent ranges of a list make one range
between : {A : Type 0} (a b c : ℕ) (xs : List A) → a ≤ b → b ≤ c → drop a (take b xs) ++ drop b (take c xs) ≡ drop a (take c xs)
between zero zero c xs h k = refl
between zero (suc b) zero xs h k = absurd (omega (arith, k))
between zero (suc b) (suc c) [] h k = refl
between zero (suc b) (suc c) (x ∷ xs) h k = ap (λ l. x ∷ l) (between zero b c xs (omega arith) (omega (arith, k)))
between (suc a) zero c xs h k = absurd (omega (arith, h))
between (suc a) (suc b) zero xs h k = absurd (omega (arith, k))
between (suc a) (suc b) (suc c) [] h k = refl
between (suc a) (suc b) (suc c) (x ∷ xs) h k = between a b c xs (omega (arith, h)) (omega (arith, k))

flat_mapped : {A B C : Type 0} (f : B → List C) (g : A → B) (xs : List A) → flat_map f (map g xs) ≡ flat_map (λ x. f (g x)) xs
flat_mapped f g [] = refl
flat_mapped f g (x ∷ xs) = ap (λ l. f (g x) ++ l) (flat_mapped f g xs)

-- pieces between ascending indexes, concatenated
module _ {A : Type 0} (place : ℕ → ℕ) (rises : (i j : ℕ) → i ≤ j → place i ≤ place j) (xs : List A) where
  abbrev piece : ℕ → List A
  piece i = drop (place (i - 1)) (take (place i) xs)

  pieces : (a n : ℕ) → flat_map piece (range_with_len (a + 1) n) ≡ drop (place a) (take (place (a + n)) xs)
  pieces a zero = sym (ap (λ k. drop (place a) (take (place k) xs)) (search arith) ∙ nothing_between (place a) xs)
  pieces a (suc n) =
      let before : a + 1 - 1 ≡ a = omega arith in
      let ends : a + 1 + n ≡ a + suc n = omega arith in
      ap (λ k. drop (place k) (take (place (a + 1)) xs) ++ flat_map piece (range_with_len (a + 1 + 1) n)) before
      ∙ ap (λ l. drop (place a) (take (place (a + 1)) xs) ++ l) (pieces (a + 1) n)
      ∙ between (place a) (place (a + 1)) (place (a + 1 + n)) xs (rises a (a + 1) (omega arith)) (rises (a + 1) (a + 1 + n) (omega arith))
      ∙ ap (λ k. drop (place a) (take (place k) xs)) ends

by_items : (i j : ℕ) → i ≤ j → 64 * i ≤ 64 * j
by_items i j h = omega (arith, h)

by_later_items : (m i j : ℕ) → i ≤ j → 64 * i - m ≤ 64 * j - m
by_later_items m i j h = omega (arith, h)

enough : (n : ℕ) → n ≤ 64 * chunk_count n 64
enough n = omega arith

objects_joined : (position : ℕ) (s : State) (is : List ℕ) → flat_map (λ (held : ℕ × State). held.1.objects) (map (λ (p : StatePart). (p.number, p.state)) (map (part_of position s) is)) ≡ flat_map (λ i. drop (64 * (i - 1)) (take (64 * i) s.objects)) is
objects_joined position s is =
    flat_mapped (λ (held : ℕ × State). held.1.objects) (λ (p : StatePart). (p.number, p.state)) (map (part_of position s) is) ∙ flat_mapped (λ (p : StatePart). p.state.objects) (part_of position s) is

kept_joined : (position : ℕ) (s : State) (is : List ℕ) → flat_map (λ (held : ℕ × State). held.1.kept) (map (λ (p : StatePart). (p.number, p.state)) (map (part_of position s) is)) ≡ flat_map (λ i. drop (64 * (i - 1) - length s.objects) (take (64 * i - length s.objects) s.kept)) is
kept_joined position s is =
    flat_mapped (λ (held : ℕ × State). held.1.kept) (λ (p : StatePart). (p.number, p.state)) (map (part_of position s) is) ∙ flat_mapped (λ (p : StatePart). p.state.kept) (part_of position s) is

pub parts_joined : (position : ℕ) (s : State) → joined_state (map (λ (p : StatePart). (p.number, p.state)) (parts_of position s)) ≡ s
unfolding joined_state parts_of
parts_joined position s =
    let n : ℕ = part_count s in
    let m : ℕ = length s.objects in
    let all : item_count s ≤ 64 * n = enough (item_count s) in
    let objects = objects_joined position s (range_with_len 1 n) ∙ pieces (λ i. 64 * i) by_items s.objects 0 n ∙ take_all (64 * (0 + n)) s.objects (omega (arith, all)) in
    let kept = kept_joined position s (range_with_len 1 n) ∙ pieces (λ i. 64 * i - m) (by_later_items m) s.kept 0 n ∙ ap (λ k. drop k (take (64 * (0 + n) - m) s.kept)) (none m) ∙ take_all (64 * (0 + n) - m) s.kept (omega (arith, all)) in
    λ i. record { objects = objects i; kept = kept i }
  where
    none : (m : ℕ) → 64 * 0 - m ≡ 0
    none m = omega arith

-- ---- runs

drop_more : {A : Type 0} (a b : ℕ) (xs : List A) → drop b (drop a xs) ≡ drop (a + b) xs
drop_more zero b xs = let e : b ≡ 0 + b = omega arith in ap (λ n. drop n xs) e
drop_more (suc a) b [] = nothing b (suc a + b)
  where
    nothing : {A : Type 0} (n k : ℕ) → drop {A = A} n [] ≡ drop k []
    nothing zero zero = refl
    nothing zero (suc k) = refl
    nothing (suc n) zero = refl
    nothing (suc n) (suc k) = refl
drop_more (suc a) b (x ∷ xs) = let e : suc (a + b) ≡ suc a + b = omega arith in drop_more a b xs ∙ ap (λ n. drop n (x ∷ xs)) e

runs_from : (es : List Entry) (a n : ℕ) → flat_map (λ (run : List Entry). run) (map (λ i. take 16 (drop (16 * i) es)) (range_with_len a n)) ++ drop (16 * (a + n)) es ≡ drop (16 * a) es
runs_from es a zero = ap (λ k. drop (16 * k) es) (search arith)
runs_from es a (suc n) =
    let here : List Entry = take 16 (drop (16 * a) es) in
    let ends : a + suc n ≡ a + 1 + n = omega arith in
    let next : 16 * (a + 1) ≡ 16 * a + 16 = omega arith in
    ap (λ k. (here ++ flat_map (λ (run : List Entry). run) (map (λ i. take 16 (drop (16 * i) es)) (range_with_len (a + 1) n))) ++ drop (16 * k) es) ends
    ∙ append_assoc here (flat_map (λ (run : List Entry). run) (map (λ i. take 16 (drop (16 * i) es)) (range_with_len (a + 1) n))) (drop (16 * (a + 1 + n)) es)
    ∙ ap (λ l. here ++ l) (runs_from es (a + 1) n ∙ ap (λ k. drop k es) next ∙ sym (drop_more (16 * a) 16 es))
    ∙ take-append-drop 16 (drop (16 * a) es)

append_nothing : {A : Type 0} (xs : List A) → xs ++ [] ≡ xs
append_nothing [] = refl
append_nothing (x ∷ xs) = ap (λ l. x ∷ l) (append_nothing xs)

enough_runs : (n : ℕ) → n ≤ 16 * (0 + chunk_count n 16)
enough_runs n = omega arith

pub runs_joined : (es : List Entry) → flat_map (λ (run : List Entry). run) (runs_of es) ≡ es
unfolding runs_of
runs_joined es =
    let n : ℕ = chunk_count (length es) 16 in
    let all : List Entry = flat_map (λ (run : List Entry). run) (map (λ i. take 16 (drop (16 * i) es)) (range_with_len 0 n)) in
    sym (append_nothing all) ∙ ap (λ l. all ++ l) (sym (drop_all (16 * (0 + n)) es (enough_runs (length es)))) ∙ runs_from es 0 n
