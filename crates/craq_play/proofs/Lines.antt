-- Relates the move of a line to the text that is printed of it.
use Rattle.std.proofs.Common.{◌≡◌, ◌+◌, ◌++◌, ◌<◌, ℕ, zero, suc, List, [], ◌∷◌, map, length, Some, None, refl, sym, ap, arith, append_assoc, add-one, drop, slice_get, slice_index, slice_index_or}
use Rattle.craq_chain.specs.Chained.{Chained}
use Rattle.craq_script.specs.declared.line.ScriptLine.{ScriptLine}
use Rattle.craq_play.specs.Moves.{move_of}
use Rattle.craq_play.specs.Played.{line_text, lines_text, after_line}

drop_next : (ls : List ScriptLine) (i : ℕ) (l : ScriptLine) → i < length ls → l ≡ slice_index_or ls i l → drop i ls ≡ l ∷ drop (suc i) ls
drop_next [] i l h e = absurd (omega (arith, h))
drop_next (x ∷ ls) zero l h e = ap (λ y. y ∷ ls) (sym e)
drop_next (x ∷ ls) (suc i) l h e = drop_next ls i l (omega (arith, h)) e

-- after a line, the rest of the text is that of the remaining lines
pub line_done : (w : Chained) (i : ℕ) (ls : List ScriptLine) (l : ScriptLine) (before after total : List ℕ) → i < length ls → l ≡ slice_index_or ls i l → after ≡ before ++ line_text w (move_of l) → before ++ lines_text w (drop i ls) ≡ total → after ++ lines_text (after_line w (move_of l)) (drop (i + 1) ls) ≡ total
line_done w i ls l before after total h e a t =
    let n = drop_next ls i l h e in
    let u : before ++ (line_text w (move_of l) ++ lines_text (after_line w (move_of l)) (drop (suc i) ls)) ≡ total = rw n at t in
    rw (add-one, a, append_assoc) u
