-- Prefixes of one list, and a list with one more at its end.
use Rattle.std.proofs.Common.{◌≡◌, ◌⊎◌, ℕ, zero, suc, List, [], ◌∷◌, ◌++◌, length, refl, ap, sym, ◌∙◌, inl, inr, append_assoc}
use Rattle.std.proofs.lemmas.List.{append-nil}
use mathlib.Core.Option.{some, some-injective, some-ne-none}
use mathlib.Core.List.{IsPrefix}
use lib.ListN.{get_elem?}
use Rattle.craq_ghost_history.specs.Histories.{AreComparable}

module _ {A : Type 0} where
  pub prefix_self : (xs : List A) → IsPrefix xs xs
  prefix_self xs = ([], append-nil xs)

  pub prefix_nil : (xs : List A) → IsPrefix [] xs
  prefix_nil xs = (xs, refl)

  pub prefix_trans : (xs ys zs : List A) → IsPrefix xs ys → IsPrefix ys zs → IsPrefix xs zs
  prefix_trans xs ys zs p q = (p.0 ++ q.0, sym (append_assoc xs p.0 q.0) ∙ (ap (λ w. w ++ q.0) p.1 ∙ q.1))

  pub prefix_append : (xs ys zs : List A) → IsPrefix xs ys → IsPrefix xs (ys ++ zs)
  prefix_append xs ys zs p = prefix_trans xs ys (ys ++ zs) p (zs, refl)

  -- of two prefixes of one list one begins with the other
  pub comparable : (xs ys zs : List A) → IsPrefix xs zs → IsPrefix ys zs → AreComparable xs ys
  comparable [] ys zs p q = inl (ys, refl)
  comparable (x ∷ xs) [] zs p q = inr (x ∷ xs, refl)
  comparable (x ∷ xs) (y ∷ ys) [] p q = absurd (cc (p.1))
  comparable (x ∷ xs) (y ∷ ys) (z ∷ zs) p q =
      let heads : x ≡ y = cc (p.1, q.1) in
      elim (comparable xs ys zs (p.0, cc (p.1)) (q.0, cc (q.1))) [
        | inl r ↦ inl (r.0, cc (heads, r.1))
        | inr r ↦ inr (r.0, cc (heads, r.1))
      ]

  -- an element of a list with one more at its end is an element of the list, or the last
  pub at_end : (l : List A) (a b : A) (j : ℕ) → get_elem? (l ++ a ∷ []) j ≡ some b → (get_elem? l j ≡ some b) ⊎ ((j ≡ length l) × (a ≡ b))
  at_end [] a b zero e = inr (refl, some-injective a b e)
  at_end [] a b (suc j) e = absurd (some-ne-none b (sym e))
  at_end (x ∷ xs) a b zero e = inl e
  at_end (x ∷ xs) a b (suc j) e =
      elim (at_end xs a b j e) [ inl was ↦ inl was | inr last ↦ inr (ap suc last.0, last.1) ]
