-- Lists of lines in order: their elements determine them.
use Rattle.std.proofs.Common.{◌≡◌, ◌<◌, ◌≤◌, ◌⊎◌, ℕ, ◌==◌, List, [], ◌∷◌, ◌++◌, refl, sym, ap, subst, arith, ◌∙◌, inl, inr}
use Rattle.std.specs.Prelude.{⊤}
use Rattle.std.specs.List.{AllByRecursion}
use Rattle.std.proofs.lemmas.Bool.{cond_both}
use Rattle.craq_seat.specs.Merge.{MergedStep, IsBefore, AreInOrder}
use Rattle.craq_causality.specs.Authors.{lines_of}
use Rattle.craq_causality.proofs.Orders.{IsIn, all_by, all_in, from_at, in_either}
use Rattle.craq_causality.proofs.Orders as authors

-- ---- the order of lines

pub not_both : (a b : MergedStep) → IsBefore a b → IsBefore b a → ⊥
not_both a b (inl h) (inl k) = omega (arith, h, k)
not_both a b (inl h) (inr k) = let s = k.0 in omega (arith, h, s)
not_both a b (inr h) (inl k) = let s = h.0 in omega (arith, s, k)
not_both a b (inr h) (inr k) = let x = h.1 in let y = k.1 in omega (arith, x, y)

pub not_itself : (a b : MergedStep) → a ≡ b → IsBefore a b → ⊥
not_itself a b e h = not_both a a (subst (λ x. IsBefore a x) (sym e) h) (subst (λ x. IsBefore a x) (sym e) h)

pub before_both : (a b c : MergedStep) → IsBefore a b → IsBefore b c → IsBefore a c
before_both a b c (inl h) (inl k) = inl (omega (arith, h, k))
before_both a b c (inl h) (inr k) = let s = k.0 in inl (omega (arith, h, s))
before_both a b c (inr h) (inl k) = let s = h.0 in inl (omega (arith, s, k))
before_both a b c (inr h) (inr k) = let x = h.1 in let y = k.1 in inr (h.0 ∙ k.0, omega (arith, x, y))

pub no_later : (a b : MergedStep) → IsBefore a b → a.stamp ≤ b.stamp
no_later a b (inl h) = omega (arith, h)
no_later a b (inr h) = let s = h.0 in omega (arith, s)

pub apart_by_stamp : (a b : MergedStep) → IsBefore a b → a.node ≡ b.node → a.stamp < b.stamp
apart_by_stamp a b (inl h) e = h
apart_by_stamp a b (inr h) e = let n = h.1 in absurd (omega (arith, n, e))

-- each line precedes all that follow
abbrev pub AreRising : List MergedStep → Type 0
AreRising [] = ⊤
AreRising (a ∷ ls) = AllByRecursion (IsBefore a) ls × AreRising ls

pub rising : (ls : List MergedStep) → AreInOrder ls → AreRising ls
rising [] h = tt
rising (a ∷ []) h = (tt, tt)
rising (a ∷ b ∷ ls) h =
    let r = rising (b ∷ ls) h.1 in
    ((h.0, all_by (IsBefore a) ls (λ x i. before_both a b x h.0 (all_in (IsBefore b) ls x r.0 i))), r)

-- lines with rising stamps are in order
pub by_stamps : (ls : List MergedStep) → authors.AreRising ls → AreRising ls
by_stamps [] r = tt
by_stamps (a ∷ ls) r = (all_by (IsBefore a) ls (λ x i. inl (all_in (λ (b : MergedStep). a.stamp < b.stamp) ls x r.0 i)), by_stamps ls r.1)

-- a line with a lower stamp stands before
pub is_done : (lines done rest : List MergedStep) (l s : MergedStep) → lines ≡ done ++ l ∷ rest → AreRising lines → IsIn lines s → s.stamp < l.stamp → IsIn done s
is_done lines done rest l s e r i less =
    of_parts done (subst AreRising e r) (in_either done (l ∷ rest) s (subst (λ ls. IsIn ls s) e i))
  where
    later : (ds : List MergedStep) → AreRising (ds ++ l ∷ rest) → AreRising (l ∷ rest)
    later [] r = r
    later (d ∷ ds) r = later ds r.1

    of_parts : (ds : List MergedStep) → AreRising (ds ++ l ∷ rest) → IsIn ds s ⊎ ((l ≡ s) ⊎ IsIn rest s) → IsIn ds s
    of_parts ds r (inl i) = i
    of_parts ds r (inr (inl same)) = let f : l.stamp ≡ s.stamp = ap (λ (x : MergedStep). x.stamp) same in absurd (omega (arith, f, less))
    of_parts ds r (inr (inr i)) = let f = no_later l s (all_in (IsBefore l) rest s (later ds r).0 i) in absurd (omega (arith, f, less))

-- ascending lists with the same lines are equal
heads : (x y : MergedStep) (xs ys : List MergedStep) → AreRising (x ∷ xs) → AreRising (y ∷ ys) → (y ≡ x) ⊎ IsIn ys x → (x ≡ y) ⊎ IsIn xs y → x ≡ y
heads x y xs ys r s (inl e) g = sym e
heads x y xs ys r s (inr i) (inl e) = e
heads x y xs ys r s (inr i) (inr k) = absurd (not_both x y (all_in (IsBefore x) xs y r.0 k) (all_in (IsBefore y) ys x s.0 i))

rest_in : (x y z : MergedStep) (xs ys : List MergedStep) → AllByRecursion (IsBefore x) xs → x ≡ y → IsIn xs z → (y ≡ z) ⊎ IsIn ys z → IsIn ys z
rest_in x y z xs ys r e i (inl same) = absurd (not_itself x z (e ∙ same) (all_in (IsBefore x) xs z r i))
rest_in x y z xs ys r e i (inr k) = k

pub same_lines : (xs ys : List MergedStep) → AreRising xs → AreRising ys → ((z : MergedStep) → IsIn xs z → IsIn ys z) → ((z : MergedStep) → IsIn ys z → IsIn xs z) → xs ≡ ys
same_lines [] [] r s f g = refl
same_lines [] (y ∷ ys) r s f g = absurd (g y (inl refl))
same_lines (x ∷ xs) [] r s f g = absurd (f x (inl refl))
same_lines (x ∷ xs) (y ∷ ys) r s f g =
    let e : x ≡ y = heads x y xs ys r s (f x (inl refl)) (g y (inl refl)) in
    let t : xs ≡ ys = same_lines xs ys r.1 s.1 (λ z i. rest_in x y z xs ys r.0 e i (f z (inr i))) (λ z i. rest_in y x z ys xs s.0 (sym e) i (g z (inr i))) in
    ap (λ w. w ∷ xs) e ∙ ap (λ ws. y ∷ ws) t

-- ---- the lines of one node

pub at_rising : (id : ℕ) (ls : List MergedStep) → AreRising ls → AreRising (lines_of id ls)
at_rising id [] r = tt
at_rising id (l ∷ ls) r =
    cond_both (l.node == id) (l ∷ lines_of id ls) (lines_of id ls) AreRising
    (λ b. (all_by (IsBefore l) (lines_of id ls) (λ x i. all_in (IsBefore l) ls x r.0 (from_at id ls x i).0), at_rising id ls r.1))
    (λ b. at_rising id ls r.1)
