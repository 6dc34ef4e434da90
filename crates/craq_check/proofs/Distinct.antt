-- No item occurs twice exactly if the set of the items is as large as the list.
use Rattle.std.proofs.Common.{◌≡◌, ℕ, suc, Bool, true, false, length, map, List, [], ◌∷◌, refl, sym, ap, ◌∙◌}
use Rattle.std.specs.Prelude.{◌==◌, ◌&&◌, ◌||◌, not, nat_eq}
use Rattle.std.specs.List.{list_any}
use Rattle.std.specs.Cmp.{IsEquivalence, and_equiv, nat_eq_equiv}
use Rattle.std.specs.HashSet.{HashSet, contains, IsUnique, hash_set_len}
use Rattle.std.specs.Set.{distinct_count}
use Rattle.std.proofs.lemmas.Map.Made.{length-from_keys, IsDistinct-from_count, distinct_count-from_IsDistinct}
use Rattle.craq_commands.specs.declared.command.Update.{Update}
use Rattle.craq_runs.specs.Seen.{Answered}
use Rattle.craq_runs.specs.Valid.{answer_name, same_name, same_request}
use Rattle.craq_check.specs.Tests.{same_pair, stand_once}
use Rattle.craq_check.proofs.Lists.{same_number, number_same, distinct, once}

abbrev pub request_name : Update → ℕ × ℕ
request_name u = (u.client, u.number)

firsts_are : IsEquivalence (λ (x y : ℕ × ℕ). nat_eq x.0 y.0)
firsts_are = record {
  refl = λ x. nat_eq_equiv.refl x.0;
  symm = λ x y. nat_eq_equiv.symm x.0 y.0;
  congr = λ x y z h. nat_eq_equiv.congr x.0 y.0 z.0 h;
}

seconds_are : IsEquivalence (λ (x y : ℕ × ℕ). nat_eq x.1 y.1)
seconds_are = record {
  refl = λ x. nat_eq_equiv.refl x.1;
  symm = λ x y. nat_eq_equiv.symm x.1 y.1;
  congr = λ x y z h. nat_eq_equiv.congr x.1 y.1 z.1 h;
}

pub pairs_are : IsEquivalence same_pair
pairs_are = and_equiv firsts_are seconds_are

alike : (a b : Bool) → (a ≡ true → b ≡ true) → (b ≡ true → a ≡ true) → a ≡ b
alike true true f g = refl
alike true false f g = let bad : false ≡ true = f refl in cc
alike false true f g = let bad : false ≡ true = g refl in cc
alike false false f g = refl

count_once : (xs : List (ℕ × ℕ)) → (distinct_count same_pair xs == length xs) ≡ stand_once same_pair xs
count_once xs =
    alike (distinct_count same_pair xs == length xs) (stand_once same_pair xs)
    (λ h. once same_pair xs (IsDistinct-from_count pairs_are xs (same_number (distinct_count same_pair xs) (length xs) h)))
    (λ h. number_same (distinct_count same_pair xs) (length xs) (distinct_count-from_IsDistinct pairs_are xs (distinct same_pair xs h)))

set_once : {S : Type 0} (s : HashSet (ℕ × ℕ) S) (xs : List (ℕ × ℕ)) → ((q : ℕ × ℕ) → contains same_pair s q ≡ list_any (same_pair q) xs) → IsUnique same_pair s → (hash_set_len s == length xs) ≡ stand_once same_pair xs
set_once s xs has unique = ap (λ n. n == length xs) (length-from_keys pairs_are s.keys xs unique has) ∙ count_once xs

any_named : {A : Type 0} (name : A → ℕ × ℕ) (q : ℕ × ℕ) (xs : List A) → list_any (same_pair q) (map name xs) ≡ list_any (λ x. same_pair q (name x)) xs
any_named name q [] = refl
any_named name q (x ∷ xs) = ap (λ b. same_pair q (name x) || b) (any_named name q xs)

once_named : {A : Type 0} (name : A → ℕ × ℕ) (xs : List A) → stand_once same_pair (map name xs) ≡ stand_once (λ x y. same_pair (name x) (name y)) xs
unfolding stand_once
once_named name [] = refl
once_named name (x ∷ xs) = λ i. not (any_named name (name x) xs i) && once_named name xs i

length_named : {A : Type 0} (name : A → ℕ × ℕ) (xs : List A) → length (map name xs) ≡ length xs
length_named name [] = refl
length_named name (x ∷ xs) = ap suc (length_named name xs)

pub names_once : {S : Type 0} (s : HashSet (ℕ × ℕ) S) (xs : List Answered) → ((q : ℕ × ℕ) → contains same_pair s q ≡ list_any (same_pair q) (map answer_name xs)) → IsUnique same_pair s → (hash_set_len s == length xs) ≡ stand_once same_name xs
names_once s xs has unique = ap (λ n. hash_set_len s == n) (sym (length_named answer_name xs)) ∙ set_once s (map answer_name xs) has unique ∙ once_named answer_name xs

pub requests_once : {S : Type 0} (s : HashSet (ℕ × ℕ) S) (xs : List Update) → ((q : ℕ × ℕ) → contains same_pair s q ≡ list_any (same_pair q) (map request_name xs)) → IsUnique same_pair s → (hash_set_len s == length xs) ≡ stand_once same_request xs
requests_once s xs has unique = ap (λ n. hash_set_len s == n) (sym (length_named request_name xs)) ∙ set_once s (map request_name xs) has unique ∙ once_named request_name xs
