-- Comparison of two numbers: trichotomy, and the comparison that maps use.
use Rattle.std.proofs.Common.{◌≡◌, ◌<◌, ◌⊎◌, ℕ, true, T, refl, inl, inr, arith}
use Rattle.std.proofs.lemmas.Bool.Decides.{nat_tests}
use Rattle.std.specs.Ordering.{nat_cmp, eq_by_cmp, is_lt}
use Rattle.std.specs.declared.cmp.Ordering.TheVariants.{Less, Equal, Greater}
use Rattle.std.specs.Cmp.{ranked}

abbrev pub ByOrder : ℕ → ℕ → Type 0
ByOrder m n = (m < n) ⊎ ((m ≡ n) ⊎ (n < m))

pub by_order_of : (m n : ℕ) → ByOrder m n
by_order_of m n =
    elim (nat_cmp m n) as (λ o. o ≡ nat_cmp m n → ByOrder m n) [
      | Less ↦ λ e. inl (ranked m n Less e)
      | Equal ↦ λ e. inr (inl (ranked m n Equal e))
      | Greater ↦ λ e. inr (inr (ranked m n Greater e))
    ] refl

pub less_of : (m n : ℕ) → T (is_lt (nat_cmp m n)) → m < n
less_of m n h = grind (arith, nat_tests, h)

pub same_of : (m n : ℕ) → eq_by_cmp nat_cmp m n ≡ true → m ≡ n
same_of m n h = grind (arith, nat_tests, h)
