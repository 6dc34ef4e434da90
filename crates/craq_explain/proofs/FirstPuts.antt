-- Numbers by key; the first number put at a key stays.
use Rattle.std.proofs.Common.{◌≡◌, ℕ, Bool, true, false, cond, List, [], ◌∷◌, ◌++◌, Option, Some, None, refl, sym, ap, ◌∙◌}
use Rattle.std.specs.Prelude.{◌&&◌, ◌||◌, ◌==◌, find, option_map}
use Rattle.std.specs.Option.{option_or}
use Rattle.std.specs.Ordering.{is_eq, nat_cmp}
use Rattle.std.specs.declared.cmp.Ordering.{Ordering}
use Rattle.std.specs.declared.cmp.Ordering.TheVariants.{Less, Equal, Greater}
use Rattle.std.specs.Cmp.{IsTotalOrder, both_tied, unsigned_ties}
use Rattle.std.specs.Cmp.Lexicographic.{texts_ties}
use Rattle.std.specs.Map.{lookup}
use Rattle.std.specs.BTreeMap.{BTreeMap, get, is_at}
use Rattle.craq_names.specs.Maps.{key_cmp, same_bytes}
use Rattle.craq_explain.specs.Firsts.{name_cmp, number_if, write_cmp}

equal : (r : Ordering) → is_eq r ≡ true → r ≡ Equal
equal Less p = cc
equal Equal p = refl
equal Greater p = cc

module _ {K : Type 0} (cmp : K → K → Ordering) (o : IsTotalOrder cmp) where
  -- equal keys have the same number
  alike : (k q : K) (es : List (K × ℕ)) → is_at (cmp k) q ≡ true → lookup (is_at (cmp q)) es ≡ lookup (is_at (cmp k)) es
  alike k q [] t = refl
  alike k q (e ∷ es) t =
      ap (λ r. cond (is_eq r) (Some e.1) (lookup (is_at (cmp q)) es)) (sym (o.congr k q e.0 (equal (cmp k q) t)))
      ∙ ap (λ r. cond (is_at (cmp k) e.0) (Some e.1) r) (alike k q es t)

  kept_if : (b : Bool) (x : Option ℕ) (n number : ℕ) → (b ≡ true → x ≡ Some n) → x ≡ option_or x (number_if b number)
  kept_if true x n number h = let e : x ≡ Some n = h refl in cc
  kept_if false None n number h = refl
  kept_if false (Some m) n number h = refl

  -- nothing is put at a key that has a number
  pub kept : (m : BTreeMap K ℕ) (k : K) (n number : ℕ) → get cmp m k ≡ Some n → (q : K) → get cmp m q ≡ option_or (get cmp m q) (number_if (is_at (cmp k) q) number)
  kept m k n number h q = kept_if (is_at (cmp k) q) (get cmp m q) n number (λ t. alike k q m.entries t ∙ h)

-- a number put at a key without one is found
put_if : (b : Bool) (x : Option ℕ) (number : ℕ) → (b ≡ true → x ≡ None) → cond b (Some number) x ≡ option_or x (number_if b number)
put_if true x number h = let e : x ≡ None = h refl in cc
put_if false None number h = refl
put_if false (Some m) number h = refl

pub put : {K : Type 0} (cmp : K → K → Ordering) (o : IsTotalOrder cmp) (m n : BTreeMap K ℕ) (k : K) (number : ℕ) → get cmp m k ≡ None → ((q : K) → get cmp n q ≡ cond (is_at (cmp k) q) (Some number) (get cmp m q)) → (q : K) → get cmp n q ≡ option_or (get cmp m q) (number_if (is_at (cmp k) q) number)
put cmp o m n k number none at q = at q ∙ put_if (is_at (cmp k) q) (get cmp m q) number (λ t. alike cmp o k q m.entries t ∙ none)

-- the first match in a list with one more element
pub first_push : {A : Type 0} (test : A → Bool) (number : A → ℕ) (xs : List A) (x : A) → option_map number (find test (xs ++ x ∷ [])) ≡ option_or (option_map number (find test xs)) (number_if (test x) (number x))
first_push test number [] x = elim (test x) as (λ b. option_map number (cond b (Some x) None) ≡ number_if b (number x)) [ true ↦ refl | false ↦ refl ]
first_push test number (y ∷ xs) x =
    elim (test y) as (λ b. option_map number (cond b (Some y) (find test (xs ++ x ∷ []))) ≡ option_or (option_map number (cond b (Some y) (find test xs))) (number_if (test x) (number x))) [
      | true ↦ refl
      | false ↦ first_push test number xs x
    ]

-- when keys are equal
pub name_ties : (k q : ℕ × ℕ) → ((k.0 == q.0) && (k.1 == q.1)) ≡ is_at (name_cmp k) q
name_ties k q = both_tied (k.0 == q.0) (k.1 == q.1) (nat_cmp k.0 q.0) (nat_cmp k.1 q.1) (unsigned_ties k.0 q.0) (unsigned_ties k.1 q.1)

pub write_ties : (k q : List ℕ × ℕ) → (same_bytes k.0 q.0 && (k.1 == q.1)) ≡ is_at (write_cmp k) q
write_ties k q = both_tied (same_bytes k.0 q.0) (k.1 == q.1) (key_cmp k.0 q.0) (nat_cmp k.1 q.1) (texts_ties k.0 q.0) (unsigned_ties k.1 q.1)

-- of two numbers put at one key, the first is found
pub either : (x : Option ℕ) (a b : Bool) (number : ℕ) → option_or (option_or x (number_if a number)) (number_if b number) ≡ option_or x (number_if (a || b) number)
either None true b number = refl
either None false b number = refl
either (Some n) a b number = refl

pub none_put : (x : Option ℕ) (number : ℕ) → option_or x (number_if false number) ≡ x
none_put None number = refl
none_put (Some n) number = refl
