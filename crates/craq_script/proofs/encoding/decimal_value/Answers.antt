use Rattle.std.proofs.Common.{rules, ◌≡◌, ◌<◌, ◌≤◌, ℕ, ◌+◌, ◌-◌, ◌*◌, length, drop, get_or, List, [], ◌∷◌, arith, add-one, drop-cons, ap}
use Rattle.std.proofs.lemmas.List.{drop_all}
use Rattle.craq_script.specs.Words.{number_behind}
use Rattle.craq_script.proofs.encoding.decimal_value.Goals as goal

-- more digits do not lower the number
grows : (n : ℕ) (digits : List ℕ) → n ≤ number_behind n digits
grows n [] = omega arith
grows n (digit ∷ digits) = let more = grows (10 * n + (digit - 48)) digits in omega arith

-- the next digit
step : (n i : ℕ) (digits : List ℕ) → i < length digits → number_behind n (drop i digits) ≡ number_behind (10 * n + (get_or digits i 0 - 48)) (drop (i + 1) digits)
step n i digits within = rw (add-one) (ap (number_behind n) (drop-cons digits i 0 within))

pub returns-in-None : goal.returns-in-None
returns-in-None c =
    let number = c.loop-digit.number in
    let digits = c.args.digits.now in
    let within : c.loop-digit.digit-index < length digits = search rules in
    let next : number_behind number (drop c.loop-digit.digit-index digits) ≡ number_behind (10 * number + (get_or digits c.loop-digit.digit-index 0 - 48)) (drop (c.loop-digit.digit-index + 1) digits) = step number c.loop-digit.digit-index digits within in
    let whole = c.loop-digit.invariant.whole in
    let more = grows (10 * number + (get_or digits c.loop-digit.digit-index 0 - 48)) (drop (c.loop-digit.digit-index + 1) digits) in
    λ small. c.in-None.ensures (omega arith)

pub returns : goal.returns
returns c =
    let none : drop c.loop-digit.digit-index c.args.digits.now ≡ [] = drop_all c.loop-digit.digit-index c.args.digits.now (omega arith) in
    let whole = rw none at c.loop-digit.invariant.whole in
    let small = c.loop-digit.invariant.small in
    (omega arith, whole)
