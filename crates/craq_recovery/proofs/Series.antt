-- A series of messages, each of which takes a node one step further.
use Rattle.std.proofs.Common.{◌≡◌, ◌⊎◌, inl, inr, ℕ, List, [], ◌∷◌, ◌++◌, refl, ap, sym, subst, arith}
use Rattle.craq_model.specs.declared.message.LinkMessage.{LinkMessage}
use Rattle.craq_model.specs.declared.step.Out.{Out}
use Rattle.craq_model.specs.declared.step.Out.TheVariants as outs
use Rattle.craq_runs.specs.Chain.{sent_in}

-- the list has messages, in this order, that lead from the first number to the second, with others
-- between them
abbrev pub Series : (ℕ → ℕ → LinkMessage → Type 0) → List LinkMessage → ℕ → ℕ → Type 0
Series Step [] a b = a ≡ b
Series Step (m ∷ ms) a b = Series Step ms a b ⊎ ((k : ℕ) × Step a k m × Series Step ms k b)

pub series_none : (Step : ℕ → ℕ → LinkMessage → Type 0) (ms : List LinkMessage) (a : ℕ) → Series Step ms a a
series_none Step [] a = refl
series_none Step (m ∷ ms) a = inl (series_none Step ms a)

pub series_both : (Step : ℕ → ℕ → LinkMessage → Type 0) (xs ys : List LinkMessage) (a k b : ℕ) → Series Step xs a k → Series Step ys k b → Series Step (xs ++ ys) a b
series_both Step [] ys a k b h g = let P : ℕ → Type 0 = λ n. Series Step ys n b in subst P (sym h) g
series_both Step (x ∷ xs) ys a k b (inl h) g = inl (series_both Step xs ys a k b h g)
series_both Step (x ∷ xs) ys a k b (inr h) g = inr (h.0, h.1, series_both Step xs ys h.0 k b h.2 g)

pub series_left : (Step : ℕ → ℕ → LinkMessage → Type 0) (xs ys : List LinkMessage) (a b : ℕ) → Series Step xs a b → Series Step (xs ++ ys) a b
series_left Step xs ys a b h = series_both Step xs ys a b b h (series_none Step ys b)

pub series_right : (Step : ℕ → ℕ → LinkMessage → Type 0) (xs ys : List LinkMessage) (a b : ℕ) → Series Step ys a b → Series Step (xs ++ ys) a b
series_right Step xs ys a b h = series_both Step xs ys a a b (series_none Step xs a) h

-- ---- one message alone

-- some message of the list is such
abbrev pub Has : (LinkMessage → Type 0) → List LinkMessage → Type 0
Has Is [] = ⊥
Has Is (m ∷ ms) = Is m ⊎ Has Is ms

-- such a message leads from 0 to 1
abbrev pub One : (LinkMessage → Type 0) → ℕ → ℕ → LinkMessage → Type 0
One Is a k m = (a ≡ 0) × (k ≡ 1) × Is m

pub one_series : (Is : LinkMessage → Type 0) (ms : List LinkMessage) → Has Is ms → Series (One Is) ms 0 1
one_series Is [] h = absurd h
one_series Is (m ∷ ms) (inl is) = inr (1, (refl, refl, is), series_none (One Is) ms 1)
one_series Is (m ∷ ms) (inr h) = inl (one_series Is ms h)

pub series_one : (Is : LinkMessage → Type 0) (ms : List LinkMessage) → Series (One Is) ms 0 1 → Has Is ms
series_one Is [] h = absurd (omega (arith, h))
series_one Is (m ∷ ms) (inl h) = inr (series_one Is ms h)
series_one Is (m ∷ ms) (inr h) = inl h.1.2

pub has_front : (Is : LinkMessage → Type 0) (xs ys : List LinkMessage) → Has Is xs → Has Is (xs ++ ys)
has_front Is [] ys h = absurd h
has_front Is (x ∷ xs) ys (inl is) = inl is
has_front Is (x ∷ xs) ys (inr h) = inr (has_front Is xs ys h)

pub has_back : (Is : LinkMessage → Type 0) (xs ys : List LinkMessage) → Has Is ys → Has Is (xs ++ ys)
has_back Is [] ys h = h
has_back Is (x ∷ xs) ys h = inr (has_back Is xs ys h)

-- ---- among the messages sent

pub sent_both : (os ps : List Out) → sent_in (os ++ ps) ≡ sent_in os ++ sent_in ps
unfolding sent_in
sent_both [] ps = refl
sent_both (outs.Send to m ∷ os) ps = ap (λ l. m ∷ l) (sent_both os ps)
sent_both (outs.Answer ticket answer ∷ os) ps = sent_both os ps

pub sent_left : (Step : ℕ → ℕ → LinkMessage → Type 0) (os ps : List Out) (a b : ℕ) → Series Step (sent_in os) a b → Series Step (sent_in (os ++ ps)) a b
sent_left Step os ps a b h =
    let P : List LinkMessage → Type 0 = λ l. Series Step l a b in
    subst P (sym (sent_both os ps)) (series_left Step (sent_in os) (sent_in ps) a b h)

pub sent_right : (Step : ℕ → ℕ → LinkMessage → Type 0) (os ps : List Out) (a b : ℕ) → Series Step (sent_in ps) a b → Series Step (sent_in (os ++ ps)) a b
sent_right Step os ps a b h =
    let P : List LinkMessage → Type 0 = λ l. Series Step l a b in
    subst P (sym (sent_both os ps)) (series_right Step (sent_in os) (sent_in ps) a b h)
