-- Values that may be encoded: any number, and the replies of a window that have an encoding.
use Rattle.std.proofs.Common.{◌<◌, ℕ, List, [], ◌∷◌, length, arith}
use Rattle.std.specs.Prelude.{⊤}
use Rattle.std.specs.List.{AllByRecursion}
use Rattle.craq_commands.specs.Kept.{Kept, Window}
use Rattle.craq_model.specs.Encodable.{IsReply, IsNotStale, IsEncodableWindow}
use Rattle.craq_wire.specs.PartEncoding.{IsPair}

pub all_of_any : {A : Type 0} (P : A → Type 0) → ((x : A) → P x) → (xs : List A) → AllByRecursion P xs
all_of_any P each [] = tt
all_of_any P each (x ∷ xs) = (each x, all_of_any P each xs)

replies_of : (w : Window) → AllByRecursion (λ (k : Kept). IsReply k.1 × IsNotStale k.1) w → AllByRecursion (IsPair (λ (n : ℕ). ⊤) IsReply) w
replies_of [] h = tt
replies_of (k ∷ ks) h = ((tt, h.0.0), replies_of ks h.1)

pub writable_replies : (w : Window) → IsEncodableWindow w → AllByRecursion (IsPair (λ (n : ℕ). ⊤) IsReply) w
writable_replies w s = replies_of w s.replies

pub few_replies : (w : Window) → IsEncodableWindow w → length w < 256
few_replies w s = omega (arith, s.few)
