-- The number of occurrences of a ticket in a list.
use Rattle.std.proofs.Common.{◌≡◌, ℕ, ◌+◌, ◌≤◌, ◌==◌, nat_le, nat_lt, not, cond, List, [], ◌∷◌, ◌++◌, map, filter, find, Option, Some, refl, ap, ◌∙◌, arith}
use Rattle.std.proofs.lemmas.Bool.{cond_both, cond-true, cond-false, eqb-true, leb-true, ltb-true}
use Rattle.craq_model.specs.declared.step.Out.{Out}
use Rattle.craq_model.specs.declared.step.Out.TheVariants as outs
use Rattle.craq_model.specs.declared.waiting.WaitingUpdate.{WaitingUpdate}
use Rattle.craq_model.specs.declared.waiting.WaitingRead.{WaitingRead}
use Rattle.craq_model.specs.Plain.{Plain}
use Rattle.craq_model.specs.Settle.{Given, insert_given, by_ticket, answer_outs}
use Rattle.craq_strong_answers.proofs.Outs.{AllReported}

unfoldable pub times : ℕ → List ℕ → ℕ
times k [] = 0
times k (x ∷ xs) = cond (x == k) 1 0 + times k xs

pub times_cons : (k x : ℕ) (xs : List ℕ) → times k (x ∷ xs) ≡ cond (x == k) 1 0 + times k xs
unfolding times
times_cons k x xs = refl

pub times_nil : (k : ℕ) → times k [] ≡ 0
unfolding times
times_nil k = refl

pub times_append : (k : ℕ) (xs ys : List ℕ) → times k (xs ++ ys) ≡ times k xs + times k ys
unfolding times
times_append k [] ys = omega arith
times_append k (x ∷ xs) ys = omega (arith, times_append k xs ys)

-- the tickets that wait at a node
abbrev pub update_tickets : List WaitingUpdate → List ℕ
update_tickets us = map (λ (u : WaitingUpdate). u.ticket) us

abbrev pub read_tickets : List WaitingRead → List ℕ
read_tickets rs = map (λ (r : WaitingRead). r.ticket) rs

abbrev pub open_of : Plain → List ℕ
open_of p = update_tickets p.waiting_updates ++ read_tickets p.waiting_reads

-- the tickets that are answered
unfoldable pub given_in : List Out → List ℕ
given_in [] = []
given_in (outs.Send to m ∷ os) = given_in os
given_in (outs.Answer ticket answer ∷ os) = ticket ∷ given_in os

pub given_both : (os ps : List Out) → given_in (os ++ ps) ≡ given_in os ++ given_in ps
unfolding given_in
given_both [] ps = refl
given_both (outs.Send to m ∷ os) ps = given_both os ps
given_both (outs.Answer ticket answer ∷ os) ps = ap (λ l. ticket ∷ l) (given_both os ps)

pub given_answers : (gs : List Given) → given_in (answer_outs gs) ≡ map (λ (g : Given). g.0) gs
unfolding given_in
given_answers [] = refl
given_answers (g ∷ gs) = ap (λ l. g.0 ∷ l) (given_answers gs)

-- if no reply is allowed, there is none
pub none_given : (Q : ℕ → ℕ → List ℕ → Type 0) (V : ℕ → ℕ → ℕ → Type 0) (os : List Out) → AllReported (λ ticket answer. ⊥) Q V os → given_in os ≡ []
unfolding given_in
none_given Q V [] a = refl
none_given Q V (outs.Send to m ∷ os) a = none_given Q V os a.1
none_given Q V (outs.Answer ticket answer ∷ os) a = absurd a.0

inserted : (k : ℕ) (g : Given) (gs : List Given) → times k (map (λ (g : Given). g.0) (insert_given g gs)) ≡ times k (g.0 ∷ map (λ (g : Given). g.0) gs)
unfolding insert_given times
inserted k g [] = refl
inserted k g (h ∷ hs) =
    cond_both (nat_lt g.0 h.0) (g ∷ h ∷ hs) (h ∷ insert_given g hs) (λ (l : List Given). times k (map (λ (g : Given). g.0) l) ≡ times k (g.0 ∷ map (λ (g : Given). g.0) (h ∷ hs)))
    (λ e. refl)
    (λ e. omega (arith, inserted k g hs))

pub sorted_times : (k : ℕ) (gs : List Given) → times k (map (λ (g : Given). g.0) (by_ticket gs)) ≡ times k (map (λ (g : Given). g.0) gs)
unfolding by_ticket times
sorted_times k [] = refl
sorted_times k (g ∷ gs) = inserted k g (by_ticket gs) ∙ ap (λ n. cond (g.0 == k) 1 0 + n) (sorted_times k gs)

-- the updates that are answered now, and the others
pub parted_times : (k position : ℕ) (us : List WaitingUpdate)
    → times k (update_tickets (filter (λ (u : WaitingUpdate). nat_le u.position position) us)) + times k (update_tickets (filter (λ (u : WaitingUpdate). nat_lt position u.position) us)) ≤ times k (update_tickets us)
unfolding times
parted_times k position [] = omega arith
parted_times k position (u ∷ us) =
    let rest : _ = parted_times k position us in
    cond_both (nat_le u.position position) (u ∷ filter (λ (u : WaitingUpdate). nat_le u.position position) us) (filter (λ (u : WaitingUpdate). nat_le u.position position) us)
    (λ (l : List WaitingUpdate). times k (update_tickets l) + times k (update_tickets (cond (nat_lt position u.position) (u ∷ filter (λ (u : WaitingUpdate). nat_lt position u.position) us) (filter (λ (u : WaitingUpdate). nat_lt position u.position) us))) ≤ times k (update_tickets (u ∷ us)))
    (λ e. cond_both (nat_lt position u.position) (u ∷ filter (λ (u : WaitingUpdate). nat_lt position u.position) us) (filter (λ (u : WaitingUpdate). nat_lt position u.position) us)
    (λ (l : List WaitingUpdate). (cond (u.ticket == k) 1 0 + times k (update_tickets (filter (λ (u : WaitingUpdate). nat_le u.position position) us))) + times k (update_tickets l) ≤ cond (u.ticket == k) 1 0 + times k (update_tickets us))
    (λ f. absurd (omega (arith, leb-true u.position position e, ltb-true position u.position f)))
    (λ f. omega (arith, rest)))
    (λ e. cond_both (nat_lt position u.position) (u ∷ filter (λ (u : WaitingUpdate). nat_lt position u.position) us) (filter (λ (u : WaitingUpdate). nat_lt position u.position) us)
    (λ (l : List WaitingUpdate). times k (update_tickets (filter (λ (u : WaitingUpdate). nat_le u.position position) us)) + times k (update_tickets l) ≤ cond (u.ticket == k) 1 0 + times k (update_tickets us))
    (λ f. omega (arith, rest))
    (λ f. omega (arith, rest)))

-- a read that is answered waits no more
without_times : (k ticket : ℕ) (rs : List WaitingRead) → times k (read_tickets (filter (λ (r : WaitingRead). not (r.ticket == ticket)) rs)) ≤ times k (read_tickets rs)
unfolding times
without_times k ticket [] = omega arith
without_times k ticket (r ∷ rs) =
    cond_both (not (r.ticket == ticket)) (r ∷ filter (λ (r : WaitingRead). not (r.ticket == ticket)) rs) (filter (λ (r : WaitingRead). not (r.ticket == ticket)) rs)
    (λ (l : List WaitingRead). times k (read_tickets l) ≤ times k (read_tickets (r ∷ rs)))
    (λ e. omega (arith, without_times k ticket rs))
    (λ e. omega (arith, without_times k ticket rs))

pub answered_times : (k ticket : ℕ) (rs : List WaitingRead) (r : WaitingRead) → find (λ (r : WaitingRead). r.ticket == ticket) rs ≡ Some r
    → cond (ticket == k) 1 0 + times k (read_tickets (filter (λ (r : WaitingRead). not (r.ticket == ticket)) rs)) ≤ times k (read_tickets rs)
unfolding times
answered_times k ticket [] r h = absurd (cc)
answered_times k ticket (x ∷ rs) r h =
    let rest : List WaitingRead = filter (λ (r : WaitingRead). not (r.ticket == ticket)) rs in
    cond_both (x.ticket == ticket) (Some x) (find (λ (r : WaitingRead). r.ticket == ticket) rs)
    (λ (o : Option WaitingRead). o ≡ Some r → cond (ticket == k) 1 0 + times k (read_tickets (cond (not (x.ticket == ticket)) (x ∷ rest) rest)) ≤ cond (x.ticket == k) 1 0 + times k (read_tickets rs))
    (λ e i.
    let same : x.ticket ≡ ticket = eqb-true x.ticket ticket e in
    let gone : cond (not (x.ticket == ticket)) (x ∷ rest) rest ≡ rest = cond-false (not (x.ticket == ticket)) (x ∷ rest) rest (ap not e) in
    let count : ℕ → ℕ = λ t. cond (t == k) 1 0 in
    let one : count x.ticket ≡ count ticket = ap count same in
    omega (arith, ap (λ l. times k (read_tickets l)) gone, one, without_times k ticket rs))
    (λ e i.
    let kept : cond (not (x.ticket == ticket)) (x ∷ rest) rest ≡ x ∷ rest = cond-true (not (x.ticket == ticket)) (x ∷ rest) rest (ap not e) in
    let count : times k (read_tickets (cond (not (x.ticket == ticket)) (x ∷ rest) rest)) ≡ cond (x.ticket == k) 1 0 + times k (read_tickets rest) = ap (λ l. times k (read_tickets l)) kept in
    omega (arith, count, answered_times k ticket rs r i))
    h
