-- A reply that a pass covers comes no later in the list of committed updates.
use Rattle.std.proofs.Common.{◌≡◌, ◌<◌, ◌≤◌, ℕ, zero, suc, ◌+◌, ◌-◌, List, [], ◌∷◌, map, length, Option, Some, refl, ap, subst, arith}
use Rattle.std.specs.Prelude.{slice_get}
use Rattle.std.proofs.lemmas.Option.{slice_get_within}
use Rattle.craq_runs.specs.declared.explanation.Explanation.{Explanation}
use Rattle.craq_runs.specs.declared.explanation.Place.{Place}
use Rattle.craq_runs.specs.Seen.{Asked, Seen, ask_of, seen}
use Rattle.craq_runs.specs.Valid.{IsExplained, OnlyGrows, committed_after}
use Rattle.craq_seat.specs.Calls.{Called}
use Rattle.craq_seat.specs.Merge.{MergedStep, run_of}
use Rattle.craq_causality.proofs.Walk.{taken_among}
use Rattle.craq_merge.specs.Within.{IsWithin, run_answer_of_call, ask_of_call, line_at}
use Rattle.craq_merge.proofs.Calls.{passes_order}

-- the list only grows
grown : (s : Seen) (e : Explanation) (i d : ℕ) → OnlyGrows s e → i + d ≤ s.moves → committed_after e i ≤ committed_after e (i + d)
grown s e i zero g le = let n : i + 0 ≡ i = omega arith in rw n (omega arith)
grown s e i (suc d) g le =
    let a = grown s e i d g (omega (arith, le)) in
    let b = g.grows (i + d) (omega (arith, le)) in
    let n : i + suc d ≡ i + d + 1 = omega arith in
    rw n (omega (arith, a, b))

pub grown_to : (s : Seen) (e : Explanation) (i k : ℕ) → OnlyGrows s e → i ≤ k → k ≤ s.moves → committed_after e i ≤ committed_after e k
grown_to s e i k g le few =
    let n : i + (k - i) ≡ k = omega (arith, le) in
    let h = grown s e i (k - i) g (omega (arith, le, few)) in
    subst (λ x. committed_after e i ≤ committed_after e x) n h

-- there are as many moves as lines
pub as_many : (all lines : List MergedStep) → length (map (taken_among all) lines) ≡ length lines
as_many all [] = refl
as_many all (l ∷ lines) = ap suc (as_many all lines)

is_move : (lines : List MergedStep) (move : ℕ) (l : MergedStep) → line_at lines move ≡ Some l → move ≤ length lines
is_move lines zero l h = omega arith
is_move lines (suc i) l h = let t = slice_get_within lines i l h in omega (arith, t)

pub same_some : (x y : Asked) (o : Option Asked) → o ≡ Some x → o ≡ Some y → x ≡ y
same_some x y o h k = cc

pub no_older : (members : List ℕ) (lines : List MergedStep) (e : Explanation) (earlier later : Called) (p q : Place) (first : IsWithin lines (run_of members lines) earlier) (second : IsWithin lines (run_of members lines) later) → OnlyGrows (seen (run_of members lines)) e → IsExplained (seen (run_of members lines)) e (run_answer_of_call earlier first.answered) p → IsExplained (seen (run_of members lines)) e (run_answer_of_call later second.answered) q → earlier.answered.stamp ≤ later.call.pass → p.position ≤ q.position
no_older members lines e earlier later p q first second g a b le =
    let s : Seen = seen (run_of members lines) in
    let before : first.answered < second.asked = passes_order lines (run_of members lines) earlier later first second le in
    let ask : b.ask ≡ ask_of_call later second.asked = same_some b.ask (ask_of_call later second.asked) (ask_of s.asks (run_answer_of_call later second.answered)) b.is_ask second.is_ask in
    let move : b.ask.move ≡ second.asked = ap (λ (x : Asked). x.move) ask in
    let many : s.moves ≡ length lines = as_many lines lines in
    let last : second.asked ≤ length lines = is_move lines second.asked second.asked_as.0 second.asked_as.1 in
    let low : p.position ≤ committed_after e first.answered = a.not_beyond in
    let high : committed_after e (second.asked - 1) ≤ q.position = subst (λ n. committed_after e (n - 1) ≤ q.position) move b.not_before in
    let mid : committed_after e first.answered ≤ committed_after e (second.asked - 1) = grown_to s e first.answered (second.asked - 1) g (omega (arith, before)) (omega (arith, many, last)) in
    omega (arith, low, mid, high)
