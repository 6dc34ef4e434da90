-- The request of a number is in the move of that number.
use Rattle.std.proofs.Common.{◌≡◌, ℕ, zero, suc, ◌+◌, ◌-◌, ◌<◌, ◌≤◌, length, get_or, true, false, List, [], ◌∷◌, ◌++◌, Option, Some, None, refl, sym, ap, ◌∙◌, subst, arith}
use Rattle.std.specs.Prelude.{◌==◌, find, option_and_then, slice_get}
use Rattle.craq_runs.specs.declared.run.Move.{Move}
use Rattle.craq_runs.specs.declared.run.Move.TheVariants as moves
use Rattle.craq_runs.specs.declared.run.Taken.{Taken}
use Rattle.craq_runs.specs.Seen.{Asked, ask_in, asks_from, update_of, update_at}
use Rattle.craq_check.specs.Tests.{update_in}

-- the request of another number is skipped
passed : (n k : ℕ) (ticket : Option ℕ) (move : Move) (rest : List Asked) → (n == k) ≡ false → find (λ (a : Asked). a.move == k) (ask_in n ticket move ++ rest) ≡ find (λ (a : Asked). a.move == k) rest
passed n k ticket (moves.Ask node ask) rest h = rw h refl
passed n k ticket (moves.Deliver message) rest h = refl
passed n k ticket (moves.Tick node) rest h = refl
passed n k ticket (moves.Stop node) rest h = refl
passed n k ticket (moves.Remove node) rest h = refl
passed n k ticket (moves.Join node) rest h = refl

-- a lower number has no request
none_below : (ts : List Taken) (n k : ℕ) → k < n → find (λ (a : Asked). a.move == k) (asks_from n ts) ≡ None
unfolding asks_from
none_below [] n k low = refl
none_below (t ∷ ts) n k low =
    let apart : (n == k) ≡ false = grind (arith, low) in
    passed n k t.step.ticket t.chosen (asks_from (n + 1) ts) apart ∙ none_below ts (n + 1) k (omega (arith, low))

-- the number's own request is found in its move
here : (n : ℕ) (ticket : Option ℕ) (move : Move) (rest : List Asked) → find (λ (a : Asked). a.move == n) rest ≡ None → option_and_then (λ (a : Asked). update_of a.ask) (find (λ (a : Asked). a.move == n) (ask_in n ticket move ++ rest)) ≡ update_in move
here n ticket (moves.Ask node ask) rest h = let same : (n == n) ≡ true = grind arith in rw same refl
here n ticket (moves.Deliver message) rest h = rw h refl
here n ticket (moves.Tick node) rest h = rw h refl
here n ticket (moves.Stop node) rest h = rw h refl
here n ticket (moves.Remove node) rest h = rw h refl
here n ticket (moves.Join node) rest h = rw h refl

pub update_there : (ts : List Taken) (n i : ℕ) → update_at (asks_from n ts) (n + i) ≡ option_and_then (λ (t : Taken). update_in t.chosen) (slice_get ts i)
unfolding asks_from update_at
update_there [] n i = refl
update_there (t ∷ ts) n zero =
    let P : ℕ → Type 0 = λ k. option_and_then (λ (a : Asked). update_of a.ask) (find (λ (a : Asked). a.move == k) (ask_in n t.step.ticket t.chosen ++ asks_from (n + 1) ts)) ≡ update_in t.chosen in
    let at : n ≡ n + 0 = omega arith in
    subst P at (here n t.step.ticket t.chosen (asks_from (n + 1) ts) (none_below ts (n + 1) n (omega arith)))
update_there (t ∷ ts) n (suc i) =
    let apart : (n == n + suc i) ≡ false = grind arith in
    let at : n + 1 + i ≡ n + suc i = omega arith in
    let P : ℕ → Type 0 = λ k. option_and_then (λ (a : Asked). update_of a.ask) (find (λ (a : Asked). a.move == k) (asks_from (n + 1) ts)) ≡ option_and_then (λ (t : Taken). update_in t.chosen) (slice_get ts i) in
    ap (option_and_then (λ (a : Asked). update_of a.ask)) (passed n (n + suc i) t.step.ticket t.chosen (asks_from (n + 1) ts) apart)
    ∙ subst P at (update_there ts (n + 1) i)

-- there is no move of number 0
pub update_nowhere : (ts : List Taken) → update_at (asks_from 1 ts) 0 ≡ None
unfolding update_at
update_nowhere ts = ap (option_and_then (λ (a : Asked). update_of a.ask)) (none_below ts 1 0 (omega arith))

got : {A : Type 0} (xs : List A) (i : ℕ) (x : A) → i < length xs → x ≡ get_or xs i x → slice_get xs i ≡ Some x
got [] i x low is = let bad : ⊥ = omega (arith, low) in absurd bad
got (y ∷ ys) zero x low is = ap Some (sym is)
got (y ∷ ys) (suc i) x low is = got ys i x (omega (arith, low)) is

got_none : {A : Type 0} (xs : List A) (i : ℕ) → length xs ≤ i → slice_get xs i ≡ None
got_none [] i high = refl
got_none (y ∷ ys) zero high = let bad : ⊥ = omega (arith, high) in absurd bad
got_none (y ∷ ys) (suc i) high = got_none ys i (omega (arith, high))

there : (ts : List Taken) (k : ℕ) → (k ≡ 0 → ⊥) → update_at (asks_from 1 ts) k ≡ option_and_then (λ (t : Taken). update_in t.chosen) (slice_get ts (k - 1))
there ts k some =
    let at : 1 + (k - 1) ≡ k = omega (arith, some) in
    let P : ℕ → Type 0 = λ n. update_at (asks_from 1 ts) n ≡ option_and_then (λ (t : Taken). update_in t.chosen) (slice_get ts (k - 1)) in
    subst P at (update_there ts 1 (k - 1))

-- the request of the move of a number; there is none beyond the last
pub update_here : (ts : List Taken) (k : ℕ) (t : Taken) → (k ≡ 0 → ⊥) → k - 1 < length ts → t ≡ get_or ts (k - 1) t → update_in t.chosen ≡ update_at (asks_from 1 ts) k
update_here ts k t some low is = sym (there ts k some ∙ ap (option_and_then (λ (t : Taken). update_in t.chosen)) (got ts (k - 1) t low is))

pub update_beyond : (ts : List Taken) (k : ℕ) → (k ≡ 0 → ⊥) → length ts ≤ k - 1 → None ≡ update_at (asks_from 1 ts) k
update_beyond ts k some high = sym (there ts k some ∙ ap (option_and_then (λ (t : Taken). update_in t.chosen)) (got_none ts (k - 1) high))
