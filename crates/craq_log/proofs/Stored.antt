-- The stored form of a suffix as entries are appended and dropped.
use Rattle.std.proofs.Common.{◌≡◌, inl, inr, ℕ, ◌+◌, ◌-◌, ◌<◌, ◌≤◌, ◌^◌, List, [], ◌∷◌, ◌++◌, length, take, drop, arith, refl, sym, ap, ◌∙◌, subst, length-append, length-drop}
use Rattle.std.proofs.lemmas.List.{drop-append-le, drop-drop, drop-set-lt}
use Rattle.std.proofs.Math.ListN.{set, length-set}
use Rattle.std.proofs.lemmas.Grind.{common_steps}
use Rattle.craq_commands.specs.declared.entry.Entry.{Entry}
use Rattle.craq_node_invariant.specs.Sound.{AreInRow}
use Rattle.craq_node_invariant.proofs.Rows.{row_append, row_drop}
use Rattle.craq_log.specs.Suffixed.{IsStored, IsTrimmed}

moved : (m n : ℕ) (es fs : List Entry) → m ≡ n → es ≡ fs → AreInRow m es → AreInRow n fs
moved m n es fs e f a = subst (λ (k : ℕ). AreInRow k fs) e (subst (λ (xs : List Entry). AreInRow m xs) f a)

-- entries are appended at the end
pub stored_more : (start settled : ℕ) (es fs : List Entry) → IsStored start settled es → (start + settled) + length (drop settled es) + length fs < 2 ^ 64 → AreInRow ((start + settled) + length (drop settled es) + 1) fs → IsStored start settled (es ++ fs)
stored_more start settled es fs h small next =
    let within : settled ≤ length es = h.within in
    let more : AreInRow (start + settled + 1 + length (drop settled es)) fs = moved (start + settled + length (drop settled es) + 1) (start + settled + 1 + length (drop settled es)) fs fs (omega arith) refl next in
    record {
      within = omega (arith, length-append es fs);
      numbered = omega (arith, length-append es fs, length-drop settled es);
      in_row = subst (λ (xs : List Entry). AreInRow (start + settled + 1) xs) (sym (drop-append-le settled es fs within)) (row_append (start + settled + 1) (drop settled es) fs h.in_row more);
    }

-- appending keeps the dropped entries few, or at most half of all
pub trimmed_more : (settled : ℕ) (es fs : List Entry) → IsTrimmed settled es → IsTrimmed settled (es ++ fs)
trimmed_more settled es fs (inl few) = inl few
trimmed_more settled es fs (inr half) = inr (omega (arith, half, length-append es fs))

-- one entry is appended
pub stored_one : (start settled : ℕ) (es : List Entry) (e : Entry) → IsStored start settled es → e.position ≡ (start + settled) + length (drop settled es) + 1 → e.position < 2 ^ 64 → IsStored start settled (es ++ e ∷ [])
stored_one start settled es e h next small = stored_more start settled es (e ∷ []) h (omega arith) (next, tt)

-- the entries from a later one on are consecutive
pub row_from : (start settled n : ℕ) (es : List Entry) → IsStored start settled es → settled ≤ n → AreInRow (start + n + 1) (drop n es)
row_from start settled n es h low =
    let sum : settled + (n - settled) ≡ n = omega arith in
    moved (start + settled + 1 + (n - settled)) (start + n + 1) (drop (n - settled) (drop settled es)) (drop n es) (omega arith)
    (drop-drop (n - settled) settled es ∙ ap (λ (k : ℕ). drop k es) sum)
    (row_drop (start + settled + 1) (n - settled) (drop settled es) h.in_row)

-- more of the entries are dropped
pub stored_later : (start settled n : ℕ) (es : List Entry) → IsStored start settled es → settled ≤ n → n ≤ length es → IsStored start n es
stored_later start settled n es h low high = record { within = high; numbered = h.numbered; in_row = row_from start settled n es h low }

-- the entries up to a position are dropped
pub stored_until : (start settled position : ℕ) (es : List Entry) → IsStored start settled es → start + settled ≤ position → position ≤ (start + settled) + length (drop settled es) → IsStored start (position - start) es
stored_until start settled position es h low high =
    let within = h.within in
    stored_later start settled (position - start) es h (omega arith) (omega (arith, length-drop settled es))

-- another entry replaces the first, which is dropped
pub stored_taken : (start settled : ℕ) (es : List Entry) (e : Entry) → IsStored start settled es → settled < length es → IsStored start (settled + 1) (set es settled e)
stored_taken start settled es e h some = record {
  within = omega (arith, length-set es settled e);
  numbered = omega (arith, length-set es settled e, h.numbered);
  in_row = subst (λ (xs : List Entry). AreInRow (start + (settled + 1) + 1) xs) (sym (drop-set-lt (settled + 1) es settled e (omega arith))) (row_from start settled (settled + 1) es h (omega arith));
}

-- dropped entries are no longer stored
pub stored_trimmed : (start settled : ℕ) (es : List Entry) → IsStored start settled es → IsStored (start + settled) 0 (drop settled es)
stored_trimmed start settled es h =
    let within = h.within in
    let numbered = h.numbered in
    record {
      within = omega arith;
      numbered = omega (arith, length-drop settled es);
      in_row = moved (start + settled + 1) (start + settled + 0 + 1) (drop settled es) (drop settled es) (omega arith) refl h.in_row;
    }

-- the entries after a position are consecutive
pub row_after : (start settled position : ℕ) (es : List Entry) → IsStored start settled es → start + settled ≤ position → AreInRow (position + 1) (drop (position - start) es)
row_after start settled position es h low =
    let sum : start + (position - start) + 1 ≡ position + 1 = omega arith in
    subst (λ (k : ℕ). AreInRow k (drop (position - start) es)) sum (row_from start settled (position - start) es h (omega arith))

-- taking the rest after a drop takes all of it
pub rest_taken : (n : ℕ) (es : List Entry) → take (length es - n) (drop n es) ≡ drop n es
rest_taken n es = grind (arith, common_steps)
