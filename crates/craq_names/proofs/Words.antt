-- Byte strings compare as the big-endian numbers of their words of 8 bytes.
use Rattle.std.proofs.Common.{◌≡◌, ◌≢◌, ◌≤◌, ◌<◌, ◌+◌, ◌*◌, ◌∙◌, ℕ, List, [], ◌∷◌, ◌++◌, append-nil, length, take, drop, get_or, zero, suc, take-append-drop, length-take-le, inl, inr, refl, sym, ap, arith, rules}
use Rattle.std.specs.Int.{w64, from_be_bytes}
use Rattle.std.specs.List.{AllByRecursion}
use Rattle.std.specs.Ordering.{nat_cmp, ordering_then}
use Rattle.std.specs.Cmp.Lexicographic.{slice_cmp}
use Rattle.std.specs.declared.cmp.Ordering.{Ordering}
use Rattle.std.specs.declared.cmp.Ordering.TheVariants.{Less, Equal, Greater}
use Rattle.std.proofs.lemmas.Bool.{cases_lt}
use Rattle.std.proofs.lemmas.Grind.{common_steps}

-- each number is a byte
abbrev pub AreBytes : List ℕ → Type 0
AreBytes bs = AllByRecursion (λ (b : ℕ). b < 256) bs

-- the number that `a` followed by these bytes encodes, big-endian
abbrev spelled : ℕ → List ℕ → ℕ
spelled a [] = a
spelled a (b ∷ bs) = spelled (a * 256 + b) bs

rises : (us vs : List ℕ) (a b : ℕ) → length us ≡ length vs → AreBytes us → a < b → spelled a us < spelled b vs
rises [] [] a b l s h = h
rises [] (v ∷ vs) a b l s h = absurd (omega arith)
rises (u ∷ us) [] a b l s h = absurd (omega arith)
rises (u ∷ us) (v ∷ vs) a b l s h =
    let small : u < 256 = s.0 in
    rises us vs (a * 256 + u) (b * 256 + v) (omega arith) s.1 (omega arith)

is_less : (x y : ℕ) → x < y → nat_cmp x y ≡ Less
is_less x y h = first_of (search rules, grind (arith, common_steps))

is_greater : (x y : ℕ) → y < x → nat_cmp x y ≡ Greater
is_greater x y h = first_of (search rules, grind (arith, common_steps))

is_equal : (x y : ℕ) → x ≡ y → nat_cmp x y ≡ Equal
is_equal x y h = first_of (search rules, grind (arith, common_steps))

-- ---- parts of byte lists

pub each_byte : (xs : List ℕ) → ((i : ℕ) → get_or xs i 0 < 256) → AreBytes xs
each_byte [] h = tt
each_byte (x ∷ xs) h = (h 0, each_byte xs (λ i. h (suc i)))

front : (n : ℕ) (xs : List ℕ) → AreBytes xs → AreBytes (take n xs)
front zero xs h = tt
front (suc n) [] h = tt
front (suc n) (x ∷ xs) h = (h.0, front n xs h.1)

pub back : (n : ℕ) (xs : List ℕ) → AreBytes xs → AreBytes (drop n xs)
back zero xs h = h
back (suc n) [] h = tt
back (suc n) (x ∷ xs) h = back n xs h.1

-- ---- words

-- words with different numbers decide the comparison
decide : (us vs xs ys : List ℕ) (a : ℕ) → length us ≡ length vs → AreBytes us → AreBytes vs → spelled a us ≢ spelled a vs → slice_cmp nat_cmp (us ++ xs) (vs ++ ys) ≡ nat_cmp (spelled a us) (spelled a vs)
decide [] [] xs ys a l s t n = absurd (n refl)
decide [] (v ∷ vs) xs ys a l s t n = absurd (omega arith)
decide (u ∷ us) [] xs ys a l s t n = absurd (omega arith)
decide (u ∷ us) (v ∷ vs) xs ys a l s t n =
    elim (cases_lt u v) [
      | inl below ↦
          ap (λ o. ordering_then o (slice_cmp nat_cmp (us ++ xs) (vs ++ ys))) (is_less u v below)
          ∙ sym (is_less _ _ (rises us vs (a * 256 + u) (a * 256 + v) (omega arith) s.1 (omega arith)))
      | inr up ↦ elim (cases_lt v u) [
        | inl above ↦
            ap (λ o. ordering_then o (slice_cmp nat_cmp (us ++ xs) (vs ++ ys))) (is_greater u v above)
            ∙ sym (is_greater _ _ (rises vs us (a * 256 + v) (a * 256 + u) (omega arith) t.1 (omega arith)))
        | inr down ↦
            let same : v ≡ u = omega arith in
            ap (λ o. ordering_then o (slice_cmp nat_cmp (us ++ xs) (vs ++ ys))) (is_equal u v (sym same))
            ∙ decide us vs xs ys (a * 256 + u) (omega arith) s.1 t.1 (λ e. n (e ∙ ap (λ w. spelled (a * 256 + w) vs) (sym same)))
            ∙ ap (λ w. nat_cmp (spelled (a * 256 + u) us) (spelled (a * 256 + w) vs)) (sym same)
      ]
    ]

-- words with equal numbers leave the comparison to the rest
leave : (us vs xs ys : List ℕ) (a : ℕ) → length us ≡ length vs → AreBytes us → AreBytes vs → spelled a us ≡ spelled a vs → slice_cmp nat_cmp (us ++ xs) (vs ++ ys) ≡ slice_cmp nat_cmp xs ys
leave [] [] xs ys a l s t e = refl
leave [] (v ∷ vs) xs ys a l s t e = absurd (omega arith)
leave (u ∷ us) [] xs ys a l s t e = absurd (omega arith)
leave (u ∷ us) (v ∷ vs) xs ys a l s t e =
    elim (cases_lt u v) [
      | inl below ↦
          let rise = rises us vs (a * 256 + u) (a * 256 + v) (omega arith) s.1 (omega arith) in
          absurd (omega (arith, rise, e))
      | inr up ↦ elim (cases_lt v u) [
        | inl above ↦
            let rise = rises vs us (a * 256 + v) (a * 256 + u) (omega arith) t.1 (omega arith) in
            absurd (omega (arith, rise, e))
        | inr down ↦
            let same : v ≡ u = omega arith in
            ap (λ o. ordering_then o (slice_cmp nat_cmp (us ++ xs) (vs ++ ys))) (is_equal u v (sym same))
            ∙ leave us vs xs ys (a * 256 + u) (omega arith) s.1 t.1 (e ∙ ap (λ w. spelled (a * 256 + w) vs) same)
      ]
    ]

-- 8 bytes as a word are the number that they encode
word_of : (bs : List ℕ) → length bs ≡ 8 → from_be_bytes w64 bs ≡ spelled 0 bs
word_of [] l = absurd (omega arith)
word_of (a ∷ []) l = absurd (omega arith)
word_of (a ∷ b ∷ []) l = absurd (omega arith)
word_of (a ∷ b ∷ c ∷ []) l = absurd (omega arith)
word_of (a ∷ b ∷ c ∷ d ∷ []) l = absurd (omega arith)
word_of (a ∷ b ∷ c ∷ d ∷ e ∷ []) l = absurd (omega arith)
word_of (a ∷ b ∷ c ∷ d ∷ e ∷ f ∷ []) l = absurd (omega arith)
word_of (a ∷ b ∷ c ∷ d ∷ e ∷ f ∷ g ∷ []) l = absurd (omega arith)
word_of (a ∷ b ∷ c ∷ d ∷ e ∷ f ∷ g ∷ h ∷ []) l = omega arith
word_of (a ∷ b ∷ c ∷ d ∷ e ∷ f ∷ g ∷ h ∷ i ∷ rest) l = absurd (omega arith)

pub word_decides : (xs ys us vs : List ℕ) (n m : ℕ) → AreBytes xs → AreBytes ys → us ≡ take 8 xs → vs ≡ take 8 ys → 8 ≤ length xs → 8 ≤ length ys → n ≡ from_be_bytes w64 us → m ≡ from_be_bytes w64 vs → (n ≡ m → ⊥) → slice_cmp nat_cmp xs ys ≡ nat_cmp n m
word_decides xs ys us vs n m bx by isu isv lx ly isn ism differ =
    let lu : length (take 8 xs) ≡ 8 = length-take-le 8 xs lx in
    let lv : length (take 8 ys) ≡ 8 = length-take-le 8 ys ly in
    let n_is : n ≡ spelled 0 (take 8 xs) = isn ∙ ap (λ w. from_be_bytes w64 w) isu ∙ word_of (take 8 xs) lu in
    let m_is : m ≡ spelled 0 (take 8 ys) = ism ∙ ap (λ w. from_be_bytes w64 w) isv ∙ word_of (take 8 ys) lv in
    sym (λ i. slice_cmp nat_cmp (take-append-drop 8 xs i) (take-append-drop 8 ys i))
    ∙ decide (take 8 xs) (take 8 ys) (drop 8 xs) (drop 8 ys) 0 (lu ∙ sym lv) (front 8 xs bx) (front 8 ys by) (λ e. differ (n_is ∙ e ∙ sym m_is))
    ∙ sym (λ i. nat_cmp (n_is i) (m_is i))

pub word_leaves : (xs ys us vs : List ℕ) (n m : ℕ) → AreBytes xs → AreBytes ys → us ≡ take 8 xs → vs ≡ take 8 ys → 8 ≤ length xs → 8 ≤ length ys → n ≡ from_be_bytes w64 us → m ≡ from_be_bytes w64 vs → n ≡ m → slice_cmp nat_cmp xs ys ≡ slice_cmp nat_cmp (drop 8 xs) (drop 8 ys)
word_leaves xs ys us vs n m bx by isu isv lx ly isn ism same =
    let lu : length (take 8 xs) ≡ 8 = length-take-le 8 xs lx in
    let lv : length (take 8 ys) ≡ 8 = length-take-le 8 ys ly in
    let n_is : n ≡ spelled 0 (take 8 xs) = isn ∙ ap (λ w. from_be_bytes w64 w) isu ∙ word_of (take 8 xs) lu in
    let m_is : m ≡ spelled 0 (take 8 ys) = ism ∙ ap (λ w. from_be_bytes w64 w) isv ∙ word_of (take 8 ys) lv in
    sym (λ i. slice_cmp nat_cmp (take-append-drop 8 xs i) (take-append-drop 8 ys i))
    ∙ leave (take 8 xs) (take 8 ys) (drop 8 xs) (drop 8 ys) 0 (lu ∙ sym lv) (front 8 xs bx) (front 8 ys by) (sym n_is ∙ same ∙ m_is)
