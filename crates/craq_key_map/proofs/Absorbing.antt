-- The state of a hash after one more word of its bytes, and after the last.
use Rattle.std.proofs.Common.{◌≡◌, ◌∙◌, ℕ, suc, ◌<◌, ◌≤◌, ◌-◌, ◌/◌, List, length, take, drop, ap, sym, arith}
use Rattle.std.specs.Int.{w64, from_le_bytes}
use Rattle.craq_key_map.specs.declared.sip.Sip.{Sip}
use Rattle.craq_key_map.specs.Hashed.{absorbed, last_word, with_word}

pub one_more : (s : Sip) (count : ℕ) (bs rest : List ℕ) (m : ℕ) → 8 ≤ length bs → rest ≡ drop 8 bs → length rest ≡ length bs - 8 → m ≡ from_le_bytes w64 (take 8 bs) → absorbed (length rest / 8) (with_word s m) count rest ≡ absorbed (length bs / 8) s count bs
unfolding absorbed
one_more s count bs rest m low is left word =
    let next : length bs / 8 ≡ suc (length rest / 8) = omega (arith, low, left) in
    (λ i. absorbed (length rest / 8) (with_word s (word i)) count (is i)) ∙ ap (λ (n : ℕ). absorbed n s count bs) (sym next)

pub the_end : (s : Sip) (count : ℕ) (bs : List ℕ) → length bs < 8 → with_word s (last_word count bs) ≡ absorbed (length bs / 8) s count bs
unfolding absorbed
the_end s count bs few =
    let none : length bs / 8 ≡ 0 = omega (arith, few) in
    ap (λ (n : ℕ). absorbed n s count bs) (sym none)
