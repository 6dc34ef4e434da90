-- Consecutive entries of which a node holds a prefix.
use Rattle.std.proofs.Common.{◌≡◌, ◌≤◌, ◌<◌, ℕ, ◌+◌, nat_lt, List, [], ◌∷◌, length, sym, ap, ◌∙◌, arith}
use Rattle.std.proofs.lemmas.Bool.{cond_both, cond-true, ltb-true, ltb-false, lt-ltb}
use Rattle.craq_commands.specs.declared.entry.Entry.{Entry}
use Rattle.craq_model.specs.Deliveries.{first_position, final_position, entries_above}
use Rattle.craq_model.specs.Encodable.{IsConsecutive}

-- one entry that is above a position
pub one_above : (n : ℕ) (e : Entry) → n < e.position → entries_above n (e ∷ []) ≡ e ∷ []
unfolding entries_above
one_above n e h = cond-true (nat_lt n e.position) (e ∷ []) [] (lt-ltb n e.position h)

-- if the first of consecutive entries is above a position, all are
all_above : (n : ℕ) (e : Entry) (es : List Entry) → IsConsecutive (e ∷ es) → n < e.position → entries_above n (e ∷ es) ≡ e ∷ es
unfolding entries_above
all_above n e [] c h = one_above n e h
all_above n e (f ∷ es) c h =
    cond-true (nat_lt n e.position) (e ∷ entries_above n (f ∷ es)) (entries_above n (f ∷ es)) (lt-ltb n e.position h)
    ∙ ap (λ (l : List Entry). e ∷ l) (all_above n f es c.1 (omega (arith, c.0, h)))

-- the last position of consecutive entries
end_of_row : (e : Entry) (es : List Entry) → IsConsecutive (e ∷ es) → final_position (e ∷ es) ≡ e.position + length es
end_of_row e [] c = omega arith
end_of_row e (f ∷ es) c = omega (arith, end_of_row f es c.1, c.0)

-- if the first entry is not above, the others decide
later_end : (n : ℕ) (e : Entry) (es : List Entry) → IsConsecutive (e ∷ es) → e.position ≤ n → n < final_position (e ∷ es)
    → (IsConsecutive es → n < final_position es → first_position es ≤ n + 1 → final_position es ≡ n + length (entries_above n es)) → final_position (e ∷ es) ≡ n + length (entries_above n es)
later_end n e [] c l h rest = absurd (omega (arith, l, h))
later_end n e (f ∷ fs) c l h rest = rest c.1 h (omega (arith, c.0, l))

-- after taking the entries, the node's length is their last position
pub row_end : (n : ℕ) (es : List Entry) → IsConsecutive es → n < final_position es → first_position es ≤ n + 1 → final_position es ≡ n + length (entries_above n es)
unfolding entries_above
row_end n [] c h f = absurd (omega (arith, h))
row_end n (e ∷ es) c h f =
    cond_both (nat_lt n e.position) (e ∷ entries_above n es) (entries_above n es) (λ (l : List Entry). final_position (e ∷ es) ≡ n + length l)
    (λ t.
    let above : n < e.position = ltb-true n e.position t in
    let all : length (e ∷ entries_above n es) ≡ length (e ∷ es) = ap length (sym (cond-true (nat_lt n e.position) (e ∷ entries_above n es) (entries_above n es) t) ∙ all_above n e es c above) in
    omega (arith, all, above, f, end_of_row e es c))
    (λ t. later_end n e es c (ltb-false n e.position t) h (row_end n es))
