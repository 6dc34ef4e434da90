-- Counts as many arrows as messages, and as many rows as moves.
use Rattle.std.proofs.Common.{◌≡◌, ◌+◌, ◌++◌, ℕ, suc, List, [], ◌∷◌, map, length, refl, ap, sym, ◌∙◌}
use Rattle.std.proofs.lemmas.List.{length-append, length-map}
use Rattle.std.proofs.lemmas.List.Sums.{sum_by-cons}
use Rattle.std.specs.List.{sum_by}
use Rattle.craq_model.specs.declared.step.Out.{Out}
use Rattle.craq_model.specs.declared.step.Out.TheVariants as outs
use Rattle.craq_runs.specs.declared.run.Taken.{Taken}
use Rattle.craq_runs.specs.Chain.{sent_in}
use Rattle.craq_picture.specs.Drawn.{arrow_of, arrows_of, rows_from, sends_from, sends_in}

in_a_step : (earlier row place : ℕ) (os : List Out) → length (sends_in earlier row place os) ≡ length (sent_in os)
unfolding sent_in
in_a_step earlier row place [] = refl
in_a_step earlier row place (outs.Send to m ∷ os) = ap suc (in_a_step (earlier + 1) row (place + 1) os)
in_a_step earlier row place (outs.Answer ticket answer ∷ os) = in_a_step earlier row (place + 1) os

in_moves : (earlier row : ℕ) (ts : List Taken) → length (sends_from earlier row ts) ≡ sum_by (λ (t : Taken). length (sent_in t.step.outs)) ts
in_moves earlier row [] = refl
in_moves earlier row (t ∷ ts) =
    length-append (sends_in earlier row 0 t.step.outs) (sends_from (earlier + length (sends_in earlier row 0 t.step.outs)) (row + 1) ts)
    ∙ ap (λ n. n + length (sends_from (earlier + length (sends_in earlier row 0 t.step.outs)) (row + 1) ts)) (in_a_step earlier row 0 t.step.outs)
    ∙ ap (λ n. length (sent_in t.step.outs) + n) (in_moves (earlier + length (sends_in earlier row 0 t.step.outs)) (row + 1) ts)
    ∙ sym (sum_by-cons (λ (u : Taken). length (sent_in u.step.outs)) t ts)

-- an arrow for each message
pub each_message : (ts : List Taken) → length (arrows_of ts) ≡ sum_by (λ (t : Taken). length (sent_in t.step.outs)) ts
each_message ts = length-map (sends_from 0 1 ts) (arrow_of ts) ∙ in_moves 0 1 ts

-- a row for each move
pub each_move : (receivers lens : List ℕ) (place : ℕ) (ts : List Taken) → length (rows_from receivers lens place ts) ≡ length ts
each_move receivers lens place [] = refl
each_move receivers lens place (t ∷ ts) = ap suc (each_move receivers lens (place + 1) ts)
