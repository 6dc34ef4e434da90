-- The requests and replies seen in the run of a merge.
use Rattle.std.proofs.Common.{◌≡◌, ◌<◌, ◌≤◌, ℕ, zero, suc, ◌+◌, List, [], ◌∷◌, ◌++◌, map, Some, refl, sym, ap, subst, arith, ◌∙◌, inl, inr, append_assoc, append-nil}
use Rattle.std.proofs.lemmas.List.{map-append}
use Rattle.std.specs.Prelude.{slice_get}
use Rattle.craq_model.specs.declared.ask.Answer.{Answer}
use Rattle.craq_model.specs.declared.ask.Ask.{Ask}
use Rattle.craq_model.specs.declared.ask.Event.TheVariants as events
use Rattle.craq_model.specs.declared.message.LinkMessage.{LinkMessage}
use Rattle.craq_model.specs.declared.step.Out.{Out}
use Rattle.craq_model.specs.declared.step.Out.TheVariants as outs
use Rattle.craq_runs.specs.Chain.{Chain, sent_in}
use Rattle.craq_runs.specs.Seen.{ask_in, asks_from, answers_in, answers_from, node_of, receivers_in}
use Rattle.craq_seat.specs.Merge.{AtNode, IsBefore, MergedStep, move_among}
use Rattle.craq_seat.specs.Numbered.{AreFrom}
use Rattle.craq_causality.proofs.AtNodes.{receivers_of}
use Rattle.craq_causality.proofs.Numbers.{all_sent, all_sent-append}
use Rattle.craq_causality.proofs.Orders.{IsIn, all_in, in_get, in_left, in_right}
use Rattle.craq_causality.proofs.Reached.{AreSound, IsReached}
use Rattle.craq_causality.proofs.Senders.{receivers_same}
use Rattle.craq_causality.proofs.Walk.{next_line, taken_among}
use Rattle.craq_merge.proofs.Orders.{AreRising}

-- ---- places

pub place_of : {X : Type 0} (xs : List X) (x : X) → IsIn xs x → (k : ℕ) × (slice_get xs k ≡ Some x)
place_of [] x i = absurd i
place_of (y ∷ xs) x (inl e) = (0, ap Some e)
place_of (y ∷ xs) x (inr i) = let t = place_of xs x i in (suc t.0, t.1)

-- a line of a higher index is later
pub later_line : (lines : List MergedStep) (i k : ℕ) (a b : MergedStep) → AreRising lines → slice_get lines i ≡ Some a → slice_get lines k ≡ Some b → i < k → IsBefore a b
later_line [] i k a b r h g less = cc
later_line (l ∷ lines) i zero a b r h g less = absurd (omega (arith, less))
later_line (l ∷ lines) zero (suc k) a b r h g less =
    let e : l ≡ a = cc in
    subst (λ x. IsBefore x b) e (all_in (IsBefore l) lines b r.0 (in_get lines k b g))
later_line (l ∷ lines) (suc i) (suc k) a b r h g less = later_line lines i k a b r.1 h g (omega (arith, less))

same_place : {X : Type 0} (xs : List X) (k : ℕ) (a b : X) → slice_get xs k ≡ Some a → slice_get xs k ≡ Some b → a ≡ b
same_place xs k a b h g = cc

-- a line of a lower stamp is earlier
pub before_by_stamp : (lines : List MergedStep) (i k : ℕ) (a b : MergedStep) → AreRising lines → slice_get lines i ≡ Some a → slice_get lines k ≡ Some b → a.stamp < b.stamp → i < k
before_by_stamp lines i k a b r h g less = grind (arith, not_after, less)
  where
    not_after : k ≤ i → ⊥
    not_after le = by_order (λ lt. by_before (later_line lines k i b a r g h lt)) (λ e. let s : a ≡ b = same_place lines k a b (subst (λ n. slice_get lines n ≡ Some a) (sym e) h) g in let t : a.stamp ≡ b.stamp = ap (λ (x : MergedStep). x.stamp) s in omega (arith, t, less)) le
      where
        by_before : IsBefore b a → ⊥
        by_before (inl lt) = omega (arith, lt, less)
        by_before (inr t) = let e = t.0 in omega (arith, e, less)

        by_order : (k < i → ⊥) → (k ≡ i → ⊥) → k ≤ i → ⊥
        by_order f g le = grind (arith, f, g, le)

-- ---- requests

pub asked_at : (lines rest : List MergedStep) (number k : ℕ) (l : MergedStep) (ask : Ask) → slice_get rest k ≡ Some l → l.event ≡ AtNode (events.Ask ask) → IsIn (asks_from number (map (taken_among lines) rest)) (record { move = number + k; node = l.node; ticket = l.step.ticket; ask = ask })
unfolding asks_from
asked_at lines [] number k l ask h e = cc
asked_at lines (x ∷ rest) number zero l ask h e =
    let s : x ≡ l = cc in
    let event : x.event ≡ AtNode (events.Ask ask) = ap (λ (y : MergedStep). y.event) s ∙ e in
    let n : number + 0 ≡ number = omega arith in
    in_left (ask_in number x.step.ticket (move_among lines x.node x.event)) (asks_from (number + 1) (map (taken_among lines) rest)) _
    (rw (event, n) (inl (ap (λ (y : MergedStep). record { move = number; node = y.node; ticket = y.step.ticket; ask = ask }) s)))
asked_at lines (x ∷ rest) number (suc k) l ask h e =
    let n : number + suc k ≡ number + 1 + k = omega arith in
    in_right (ask_in number x.step.ticket (move_among lines x.node x.event)) (asks_from (number + 1) (map (taken_among lines) rest)) _
    (rw n (asked_at lines rest (number + 1) k l ask h e))

-- ---- answers

answer_in : (number node : ℕ) (os : List Out) (ticket : ℕ) (answer : Answer) → IsIn os (outs.Answer ticket answer) → IsIn (answers_in number node os) (record { move = number; node = node; ticket = ticket; answer = answer })
unfolding answers_in
answer_in number node [] ticket answer i = absurd i
answer_in number node (outs.Send to m ∷ os) ticket answer (inl e) = cc
answer_in number node (outs.Send to m ∷ os) ticket answer (inr i) = answer_in number node os ticket answer i
answer_in number node (outs.Answer t a ∷ os) ticket answer (inl e) =
    let s : t ≡ ticket = cc in
    let u : a ≡ answer = cc in
    inl (rw (s, u) refl)
answer_in number node (outs.Answer t a ∷ os) ticket answer (inr i) = inr (answer_in number node os ticket answer i)

-- the receivers after one more line
receivers_more : (done : List MergedStep) (l : MergedStep) → AreFrom l.node l.step.outs → receivers_of (all_sent (done ++ l ∷ [])) ≡ receivers_of (all_sent done) ++ receivers_in l.step.outs
receivers_more done l a =
    ap receivers_of (all_sent-append done (l ∷ []) ∙ ap (λ ms. all_sent done ++ ms) (append-nil (sent_in l.step.outs)))
    ∙ map-append (λ (m : LinkMessage). m.receiver) (all_sent done) (sent_in l.step.outs)
    ∙ ap (λ rs. receivers_of (all_sent done) ++ rs) (sym (receivers_same l.node l.step.outs a))

pub answered_at : (chain : ℕ) (members : List ℕ) (lines done rest : List MergedStep) (c : Chain) (number k : ℕ) (l : MergedStep) (ticket : ℕ) (answer : Answer) → lines ≡ done ++ rest → AreSound members lines → IsReached chain members done rest c → slice_get rest k ≡ Some l → IsIn l.step.outs (outs.Answer ticket answer) → IsIn (answers_from number (receivers_of (all_sent done)) (map (taken_among lines) rest)) (record { move = number + k; node = l.node; ticket = ticket; answer = answer })
unfolding answers_from
answered_at chain members lines done [] c number k l ticket answer e sound r h i = cc
answered_at chain members lines done (x ∷ rest) c number zero l ticket answer e sound r h i =
    let s : x ≡ l = cc in
    let t = next_line chain members lines done rest x c e sound r in
    let n : number + 0 ≡ number = omega arith in
    let node : node_of (receivers_of (all_sent done)) (move_among lines x.node x.event) ≡ l.node = subst (λ ms. node_of (receivers_of ms) (move_among lines x.node x.event) ≡ x.node) r.sent t.place ∙ ap (λ (y : MergedStep). y.node) s in
    let outs : IsIn x.step.outs (outs.Answer ticket answer) = subst (λ (y : MergedStep). IsIn y.step.outs (outs.Answer ticket answer)) (sym s) i in
    in_left (answers_in number (node_of (receivers_of (all_sent done)) (move_among lines x.node x.event)) x.step.outs) (answers_from (number + 1) (receivers_of (all_sent done) ++ receivers_in x.step.outs) (map (taken_among lines) rest)) _
    (rw (node, n) (answer_in number l.node x.step.outs ticket answer outs))
answered_at chain members lines done (x ∷ rest) c number (suc k) l ticket answer e sound r h i =
    let t = next_line chain members lines done rest x c e sound r in
    let f : lines ≡ (done ++ x ∷ []) ++ rest = e ∙ sym (append_assoc done (x ∷ []) rest) in
    let from : AreFrom x.node x.step.outs = t.reached.from x (in_right done (x ∷ []) x (inl refl)) in
    let n : number + suc k ≡ number + 1 + k = omega arith in
    let later = answered_at chain members lines (done ++ x ∷ []) rest t.next (number + 1) k l ticket answer f sound t.reached h i in
    in_right (answers_in number (node_of (receivers_of (all_sent done)) (move_among lines x.node x.event)) x.step.outs) (answers_from (number + 1) (receivers_of (all_sent done) ++ receivers_in x.step.outs) (map (taken_among lines) rest)) _
    (rw n (subst (λ rs. IsIn (answers_from (number + 1) rs (map (taken_among lines) rest)) (record { move = number + 1 + k; node = l.node; ticket = ticket; answer = answer })) (receivers_more done x from) later))
