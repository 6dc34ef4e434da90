-- The receipt that came in the turn of a call.
use Rattle.std.proofs.Common.{◌≡◌, ◌∙◌, List, [], ◌∷◌, ◌++◌, Ok, Result, ap, sym}
use Rattle.std.proofs.lemmas.List.{append-nil, append_cancel_left}
use Rattle.craq_names.specs.declared.refusal.Refusal.{Refusal}
use Rattle.craq_seat.specs.Calls.{Called}
use Rattle.craq_event_loop.specs.Halves.{HasOwnReceipt}

-- two lists with a last item each are one list only if the last items are one
last_of : (xs : List Called) (a b : Called) → xs ++ a ∷ [] ≡ xs ++ b ∷ [] → a ≡ b
last_of xs a b is = let same : a ∷ [] ≡ b ∷ [] = append_cancel_left xs (a ∷ []) (b ∷ []) is in cc

-- a list with one more item is another list
one_more : (xs : List Called) (a : Called) → xs ≡ xs ++ a ∷ [] → ⊥
one_more xs a is = let same : [] ≡ a ∷ [] = append_cancel_left xs [] (a ∷ []) (append-nil xs ∙ is) in cc

-- the receipt is that of the outcome
pub own_receipt : (outcome : Result Called Refusal) (old new : List Called) (c : Called) → outcome ≡ Ok c → new ≡ old ++ c ∷ [] → HasOwnReceipt outcome old new
own_receipt outcome old new c is kept other came = is ∙ ap Ok (last_of old c other (sym kept ∙ came))

-- no receipt came
pub no_receipt : (outcome : Result Called Refusal) (old new : List Called) → new ≡ old → HasOwnReceipt outcome old new
no_receipt outcome old new same c came = absurd (one_more old c (sym same ∙ came))
