-- The number committed after each move.
use Rattle.std.proofs.Common.{◌≡◌, ◌⊎◌, ⊎_elim, ℕ, zero, suc, ◌+◌, ◌<◌, ◌≤◌, List, [], ◌∷◌, ◌++◌, length, slice_index, refl, sym, subst, arith, length-append}
use Rattle.std.specs.List.{AllByRecursion}
use Rattle.std.proofs.lemmas.List.{get_or_append_left, get_or_push, get_or_past}

-- lengths and numbers of requests, after this number of moves
pub record AreLens (moves : ℕ) (lens numbers : List ℕ) : Type 0 where
  pub count : length lens ≡ moves
  pub within : (move : ℕ) → slice_index (0 ∷ lens) move ≤ length numbers
  pub ends : slice_index (0 ∷ lens) moves ≡ length numbers
  pub grows : (move : ℕ) → move < moves → slice_index (0 ∷ lens) move ≤ slice_index (0 ∷ lens) (move + 1)
  pub asked : (move place : ℕ) → place < slice_index (0 ∷ lens) move → slice_index numbers place ≤ move

pub lens_nil : AreLens 0 [] []
lens_nil = record {
  count = refl;
  within = λ move. by_move move;
  ends = refl;
  grows = λ move lt. absurd (omega (arith, lt));
  asked = λ move place lt. absurd (omega (arith, lt, by_move move));
}
  where
    by_move : (move : ℕ) → slice_index (0 ∷ []) move ≤ 0
    by_move zero = omega arith
    by_move (suc move) = omega arith

at_most : (xs : List ℕ) (n place : ℕ) → AllByRecursion (λ x. x ≤ n) xs → slice_index xs place ≤ n
at_most [] n place a = omega arith
at_most (x ∷ xs) n zero a = a.0
at_most (x ∷ xs) n (suc place) a = at_most xs n place a.1

pub lens_push : (moves : ℕ) (lens numbers more : List ℕ) → AreLens moves lens numbers → AllByRecursion (λ x. x ≤ moves + 1) (numbers ++ more) → AreLens (moves + 1) (lens ++ length (numbers ++ more) ∷ []) (numbers ++ more)
lens_push moves lens numbers more l below =
    let all : List ℕ = 0 ∷ lens in
    let next : List ℕ = all ++ length (numbers ++ more) ∷ [] in
    let long : length all ≡ moves + 1 = omega (arith, l.count) in
    let longer : length next ≡ moves + 2 = omega (arith, length-append all (length (numbers ++ more) ∷ []), long) in
    let more_of : length numbers ≤ length (numbers ++ more) = omega (arith, length-append numbers more) in
    let old : (move : ℕ) → move < moves + 1 → slice_index next move ≡ slice_index all move = λ move lt. get_or_append_left all (length (numbers ++ more) ∷ []) 0 move (omega (arith, lt, long)) in
    let new : slice_index next (moves + 1) ≡ length (numbers ++ more) = get_or_push all (length (numbers ++ more)) 0 (moves + 1) long in
    let past : (move : ℕ) → moves + 1 < move → slice_index next move ≡ 0 = λ move le. get_or_past next move 0 (omega (arith, longer, le)) in
    let which : (move : ℕ) → (move < moves + 1) ⊎ ((move ≡ moves + 1) ⊎ (moves + 1 < move)) = λ move. three move (moves + 1) in
    record {
      count = omega (arith, length-append lens (length (numbers ++ more) ∷ []), l.count);
      within = λ move. ⊎_elim (λ lt. omega (arith, old move lt, l.within move, more_of))
          (λ b. ⊎_elim (λ e. let P : ℕ → Type 0 = λ k. slice_index next k ≤ length (numbers ++ more) in subst P (sym e) (omega (arith, new))) (λ le. omega (arith, past move le)) b) (which move);
      ends = new;
      grows = λ move lt. ⊎_elim
          (λ lt'. omega (arith, old move (omega (arith, lt')), old (move + 1) (omega (arith, lt')), l.grows move lt'))
          (λ e. let P : ℕ → Type 0 = λ k. slice_index next k ≤ slice_index next (k + 1) in
          subst P (sym e) (omega (arith, old moves (omega arith), new, l.within moves, more_of)))
          (below_or move moves lt);
      asked = λ move place lt. ⊎_elim
          (λ b.
          let there : place < slice_index all move = omega (arith, lt, old move b) in
          let inside : place < length numbers = omega (arith, there, l.within move) in
          omega (arith, get_or_append_left numbers more 0 place inside, l.asked move place there))
          (λ b. ⊎_elim (λ e. omega (arith, e, at_most (numbers ++ more) (moves + 1) place below)) (λ le. absurd (omega (arith, lt, past move le))) b)
          (which move);
    }
  where
    three : (a b : ℕ) → (a < b) ⊎ ((a ≡ b) ⊎ (b < a))
    three a b = grind arith

    below_or : (a b : ℕ) → a < b + 1 → (a < b) ⊎ (a ≡ b)
    below_or a b lt = grind (arith, lt)
