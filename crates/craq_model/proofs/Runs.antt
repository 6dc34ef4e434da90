-- Entries in runs of 16.
use Rattle.std.proofs.Common.{◌≡◌, ℕ, zero, suc, ◌+◌, ◌*◌, ◌<◌, ◌≤◌, List, [], ◌∷◌, ◌++◌, map, length, take, drop, refl, sym, ap, subst, ◌∙◌, arith, length-append}
use Rattle.std.specs.List.{range_with_len}
use Rattle.std.specs.Slice.Iter.{chunk_count}
use Rattle.std.proofs.Math.Seq.{drop-append-add}
use Rattle.std.proofs.lemmas.List.{take-append-le, take_all}
use Rattle.craq_commands.specs.declared.entry.Entry.{Entry}
use Rattle.craq_model.specs.declared.message.Body.{Body}
use Rattle.craq_model.specs.declared.message.Body.TheVariants as bodies
use Rattle.craq_model.specs.Sends.{runs_of, run_body, entry_bodies}

-- a map over a range that is shifted by one
map_later : {A : Type 0} (f g : ℕ → A) → ((i : ℕ) → f (i + 1) ≡ g i) → (a n : ℕ) → map f (range_with_len (a + 1) n) ≡ map g (range_with_len a n)
map_later f g same a zero = refl
map_later f g same a (suc n) = λ i. same a i ∷ map_later f g same (a + 1) n i

one_run_more : (n : ℕ) → chunk_count (16 + n) 16 ≡ suc (chunk_count n 16)
one_run_more n = omega arith

one_run : (n : ℕ) → 1 ≤ n → n ≤ 16 → chunk_count n 16 ≡ 1
one_run n some few = omega (arith, some, few)

take_front : {A : Type 0} (xs ys : List A) → take (length xs) (xs ++ ys) ≡ xs
take_front [] ys = refl
take_front (x ∷ xs) ys = ap (λ l. x ∷ l) (take_front xs ys)

-- 16 entries followed by more: the first run is full
pub full_run : (xs ys : List Entry) → length xs ≡ 16 → runs_of (xs ++ ys) ≡ xs ∷ runs_of ys
unfolding runs_of
full_run xs ys h =
    let all : List Entry = xs ++ ys in
    let count : chunk_count (length all) 16 ≡ suc (chunk_count (length ys) 16) = ap (λ n. chunk_count n 16) (length-append xs ys ∙ ap (λ n. n + length ys) h) ∙ one_run_more (length ys) in
    let first : take 16 all ≡ xs = ap (λ n. take n all) (sym h) ∙ take_front xs ys in
    let place : (i : ℕ) → 16 * (i + 1) ≡ length xs + 16 * i = λ i. omega (arith, h) in
    let later : (i : ℕ) → take 16 (drop (16 * (i + 1)) all) ≡ take 16 (drop (16 * i) ys) = λ i. ap (λ n. take 16 (drop n all)) (place i) ∙ ap (take 16) (drop-append-add xs ys (16 * i)) in
    ap (λ n. map (λ i. take 16 (drop (16 * i) all)) (range_with_len 0 n)) count
    ∙ (λ j. first j ∷ map_later (λ i. take 16 (drop (16 * i) all)) (λ i. take 16 (drop (16 * i) ys)) later 0 (chunk_count (length ys) 16) j)

-- 1 to 16 entries are one run
pub last_run : (xs : List Entry) → 1 ≤ length xs → length xs ≤ 16 → runs_of xs ≡ xs ∷ []
unfolding runs_of
last_run xs some few =
    ap (λ n. map (λ i. take 16 (drop (16 * i) xs)) (range_with_len 0 n)) (one_run (length xs) some few) ∙ ap (λ l. l ∷ []) (take_all 16 xs few)

pub full_body : (xs ys : List Entry) → length xs ≡ 16 → entry_bodies (xs ++ ys) ≡ bodies.Batch xs ∷ entry_bodies ys
unfolding entry_bodies
full_body xs ys h = ap (map run_body) (full_run xs ys h) ∙ ap (λ (b : Body). b ∷ map run_body (runs_of ys)) (long xs h)
  where
    long : (l : List Entry) → length l ≡ 16 → run_body l ≡ bodies.Batch l
    long [] h = refl
    long (x ∷ []) h = absurd (omega (arith, h))
    long (x ∷ y ∷ l) h = refl

pub last_body : (xs : List Entry) → 1 ≤ length xs → length xs ≤ 16 → entry_bodies xs ≡ run_body xs ∷ []
unfolding entry_bodies
last_body xs some few = ap (map run_body) (last_run xs some few)

pub no_body : entry_bodies [] ≡ []
unfolding entry_bodies runs_of
no_body = refl

pub one_body : (e : Entry) → entry_bodies (e ∷ []) ≡ bodies.Entry e ∷ []
one_body e = last_body (e ∷ []) (omega arith) (omega arith)
