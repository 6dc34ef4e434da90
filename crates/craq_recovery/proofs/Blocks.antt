-- Adjacent messages, and their effect on a node.
use Rattle.std.proofs.Common.{◌≡◌, ℕ, ◌+◌, List, [], ◌∷◌, ◌++◌}
use Rattle.std.specs.List.{AllByRecursion}
use Rattle.craq_model.specs.declared.message.LinkMessage.{LinkMessage}
use Rattle.craq_model.specs.Plain.{Plain}
use Rattle.craq_refinement.specs.Lines.{IsFollowed}
use Rattle.craq_runs.specs.Chain.{Chain}
use Rattle.craq_recovery.proofs.Arriving.{BringAll, Brings, Stays, bring_both, bring_more}
use Rattle.craq_recovery.proofs.Onward.{Onward}
use Rattle.craq_recovery.proofs.Travels.{NodeIs, not_stopped}

-- ---- the effect of messages on a node

-- the message's arrival leads the node of this id from E to F
abbrev pub Transitions : (Chain → Type 0) → Chain → ℕ → LinkMessage → (Plain → Type 0) → (Plain → Type 0) → Type 0
Transitions C c id m E F = Brings C c (λ d. NodeIs d id E) (λ d. NodeIs d id F) m

-- these messages, arriving one after the other, lead the node from E to F
abbrev pub Conveys : (Chain → Type 0) → Chain → ℕ → (Plain → Type 0) → (Plain → Type 0) → List LinkMessage → Type 0
Conveys C c id E F ms = BringAll C c (λ d. NodeIs d id E) (λ d. NodeIs d id F) ms

-- a property that holds wherever the messages begin to arrive
pub conveys_none : (C : Chain → Type 0) (c : Chain) (id : ℕ) (E F : Plain → Type 0) → ((d : Chain) → C d → IsFollowed d → Onward c d → NodeIs d id E → NodeIs d id F) → Conveys C c id E F []
conveys_none C c id E F so = λ before rest number d s0 s f on g is at has. so d s0 f on g

pub conveys_more : (C : Chain → Type 0) (c : Chain) (id : ℕ) (m : LinkMessage) (ms : List LinkMessage) (E G F : Plain → Type 0) → Stays C → m.receiver ≡ id → Transitions C c id m E G → Conveys C c id G F ms → Conveys C c id E F (m ∷ ms)
conveys_more C c id m ms E G F stays to transitions then =
    bring_more C stays c m ms (λ d. NodeIs d id E) (λ d. NodeIs d id G) (λ d. NodeIs d id F) transitions (λ d g stopped. absurd (not_stopped d id m E to g stopped)) then

pub conveys_both : (C : Chain → Type 0) (c : Chain) (id : ℕ) (xs ys : List LinkMessage) (E G F : Plain → Type 0) → Stays C → Conveys C c id E G xs → Conveys C c id G F ys → Conveys C c id E F (xs ++ ys)
conveys_both C c id xs ys E G F stays first second = bring_both C stays c xs ys (λ d. NodeIs d id E) (λ d. NodeIs d id G) (λ d. NodeIs d id F) first second

-- messages that preserve the property, to any receiver
pub conveys_mild : (C : Chain → Type 0) (c : Chain) (id : ℕ) (Mild : LinkMessage → Type 0) (E : Plain → Type 0) (ms : List LinkMessage) → Stays C → ((m : LinkMessage) → Mild m → Transitions C c id m E E)
    → AllByRecursion Mild ms → Conveys C c id E E ms
conveys_mild C c id Mild E [] stays kept a = λ before others number d s0 s f on g is at has. g
conveys_mild C c id Mild E (m ∷ ms) stays kept a =
    let N : Chain → Type 0 = λ d. NodeIs d id E in
    bring_more C stays c m ms N N N (kept m a.0) (λ d g stopped. g) (conveys_mild C c id Mild E ms stays kept a.1)
