-- Entries that are applicable one after another.
use Rattle.std.proofs.Common.{◌≡◌, ◌<◌, ◌+◌, ℕ, suc, add-one, length, get_or, take, drop, drop-cons, true, List, [], ◌∷◌, ◌++◌, sym, ap, ◌∙◌}
use Rattle.std.specs.Prelude.{◌&&◌}
use Rattle.std.proofs.Math.Seq.{take-suc}
use Rattle.craq_commands.specs.declared.entry.Entry.{Entry}
use Rattle.craq_commands.specs.declared.state.State.{State}
use Rattle.craq_commands.specs.SingleCopy.{after_entry, after_entries}
use Rattle.craq_commands.proofs.Entries.{after_entries-append}
use Rattle.craq_model.specs.Deliveries.{is_applicable, are_applicable}

-- if one more is applicable, the rest decides
pub next_fits : (s : State) (es : List Entry) (i : ℕ) (e : Entry) → i < length es → e ≡ get_or es i e → is_applicable (after_entries s (take i es)) e ≡ true → are_applicable (after_entries s (take (i + 1) es)) (drop (i + 1) es) ≡ are_applicable (after_entries s (take i es)) (drop i es)
next_fits s es i e h is fits =
    let before : State = after_entries s (take i es) in
    let rest : List Entry = drop (suc i) es in
    let here : drop i es ≡ e ∷ rest = drop-cons es i e h ∙ ap (λ (x : Entry). x ∷ rest) (sym is) in
    let more : take (suc i) es ≡ take i es ++ e ∷ [] = take-suc es i e h ∙ ap (λ (x : Entry). take i es ++ x ∷ []) (sym is) in
    ap (λ n. are_applicable (after_entries s (take n es)) (drop n es)) (add-one i)
    ∙ ap (λ (xs : List Entry). are_applicable (after_entries s xs) rest) more
    ∙ ap (λ (t : State). are_applicable t rest) (after_entries-append s (take i es) (e ∷ []))
    ∙ ap (λ b. b && are_applicable (after_entry before e) rest) (sym fits)
    ∙ ap (are_applicable before) (sym here)
