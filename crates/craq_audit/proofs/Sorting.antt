-- Lines sorted by stamp and node.
use Rattle.std.proofs.Common.{◌≡◌, ◌<◌, ◌⊎◌, ℕ, suc, ◌+◌, false, List, [], ◌∷◌, arith}
use Rattle.std.specs.Borrow.{Bor}
use Rattle.std.specs.Fn.{Called, ComputesKey}
use Rattle.std.specs.List.Sorted.{IsSortedByKey}
use Rattle.std.specs.Ordering.{is_lt, nat_cmp, ordering_then}
use Rattle.std.specs.declared.cmp.Ordering.{Ordering}
use Rattle.std.proofs.lemmas.Fn.{always_returns_same}
use denote.Param.Members.{Mut}
use Rattle.craq_seat.specs.Merge.{MergedStep}
use Rattle.craq_merge.specs.Sorted.{AreSorted}

abbrev pub key : MergedStep → ℕ × ℕ
key l = (l.stamp, l.node)

abbrev pub order : ℕ × ℕ → ℕ × ℕ → Ordering
order x y = ordering_then (nat_cmp x.0 y.0) (nat_cmp x.1 y.1)

no_earlier : (s n t m : ℕ) → is_lt (ordering_then (nat_cmp s t) (nat_cmp n m)) ≡ false → ¬ ((s < t) ⊎ ((s ≡ t) × (n < m)))
no_earlier s n t m e = grind (arith, e)

sorted_from : (ls : List MergedStep) → IsSortedByKey key order ls → AreSorted ls
sorted_from [] h = tt
sorted_from (a ∷ []) h = tt
sorted_from (a ∷ b ∷ ls) h = (
  no_earlier b.stamp b.node a.stamp a.node (h 0 a (omega arith) (omega arith)),
  sorted_from (b ∷ ls) (λ k d low high. let e : suc k + 1 ≡ suc (k + 1) = omega arith in rw e at (h (suc k) d (omega arith) (omega (arith, high)))),
)

pub sorted_lines : {F : Type 0} {g : Mut F (Bor MergedStep × Unit {0}) (ℕ × ℕ)} {f : F} (ls : List MergedStep) → ((k : MergedStep → ℕ × ℕ) → ComputesKey g k f → IsSortedByKey k order ls) → ((a : Bor MergedStep × Unit {0}) (r : ℕ × ℕ) (f' : F) → Called g f a r f' → (r ≡ key a.0.now) × (f' ≡ f)) → AreSorted ls
sorted_lines {g = g} {f = f} ls up h = sorted_from ls (up key (always_returns_same g (λ a r. r ≡ key a.0.now) f h))
