-- The receiver of a message that was sent.
use Rattle.std.proofs.Common.{◌≡◌, ℕ, zero, suc, List, [], ◌∷◌, map, Some, None, refl, ap}
use Rattle.craq_model.specs.declared.message.LinkMessage.{LinkMessage}
use Rattle.craq_runs.specs.Chain.{message_at}
use Rattle.craq_runs.specs.Seen.{receiver_of}

pub sent_to : (ms : List LinkMessage) (number : ℕ) (m : LinkMessage) → message_at ms number ≡ Some m → receiver_of (map (λ (x : LinkMessage). x.receiver) ms) number ≡ m.receiver
sent_to ms zero m e = cc
sent_to [] (suc i) m e = cc
sent_to (x ∷ ms) (suc zero) m e = let same : x ≡ m = cc in ap (λ (y : LinkMessage). y.receiver) same
sent_to (x ∷ ms) (suc (suc i)) m e = sent_to ms (suc i) m e

pub sent_to_none : (ms : List LinkMessage) (number : ℕ) → message_at ms number ≡ None → receiver_of (map (λ (x : LinkMessage). x.receiver) ms) number ≡ 0
sent_to_none ms zero e = refl
sent_to_none [] (suc i) e = refl
sent_to_none (x ∷ ms) (suc zero) e = cc
sent_to_none (x ∷ ms) (suc (suc i)) e = sent_to_none ms (suc i) e
