-- The number of a message among all that were sent.
use Rattle.std.proofs.Common.{◌≡◌, ℕ, zero, suc, ◌+◌, ◌<◌, ◌==◌, ◌&&◌, false, List, [], ◌∷◌, ◌++◌, length, Some, refl, sym, ap, subst, arith, ◌∙◌, inl, inr, append_assoc}
use Rattle.std.specs.Prelude.{slice_get, flat_map}
use Rattle.craq_model.specs.declared.message.LinkMessage.{LinkMessage}
use Rattle.craq_runs.specs.Chain.{message_at, sent_in}
use Rattle.craq_seat.specs.Merge.{MergedStep, number_among}
use Rattle.craq_causality.proofs.Orders.{AreApart, IsApart, IsIn, all_in, in_left}
use Rattle.craq_causality.proofs.Nodes.{same_or_not}

-- the messages that were sent in these steps
abbrev pub all_sent : List MergedStep → List LinkMessage
all_sent ls = flat_map (λ (l : MergedStep). sent_in l.step.outs) ls

-- past the first list
pub get_past : {X : Type 0} (xs ys : List X) (k : ℕ) → slice_get (xs ++ ys) (length xs + k) ≡ slice_get ys k
get_past [] ys k = let e : 0 + k ≡ k = omega arith in rw e refl
get_past (x ∷ xs) ys k = let e : suc (length xs) + k ≡ suc (length xs + k) = omega arith in rw e (get_past xs ys k)

-- within the first list
pub get_within : {X : Type 0} (xs ys : List X) (k : ℕ) (x : X) → slice_get xs k ≡ Some x → slice_get (xs ++ ys) k ≡ Some x
get_within [] ys k x h = cc
get_within (y ∷ xs) ys zero x h = h
get_within (y ∷ xs) ys (suc k) x h = get_within xs ys k x h

pub first_is : (d : MergedStep) (ls : List MergedStep) (m : LinkMessage) → d.node ≡ m.sender → d.stamp ≡ m.stamp → number_among (d ∷ ls) m ≡ suc m.index
unfolding number_among
first_is d ls m e f = grind (arith, e, f)

other_step : (d s : MergedStep) (m : LinkMessage) → IsApart d s → s.node ≡ m.sender → s.stamp ≡ m.stamp → ((d.node == m.sender) && (d.stamp == m.stamp)) ≡ false
other_step d s m h e f =
    elim (same_or_not d.node m.sender) [
      | inl n ↦ (let k : d.stamp < s.stamp = h (n ∙ sym e) in grind (arith, k, f))
      | inr n ↦ grind (arith, n)
    ]

pub not_first : (d s : MergedStep) (ls : List MergedStep) (m : LinkMessage) → IsApart d s → s.node ≡ m.sender → s.stamp ≡ m.stamp → number_among (d ∷ ls) m ≡ length (sent_in d.step.outs) + number_among ls m
unfolding number_among
not_first d s ls m h e f = rw (other_step d s m h e f)

-- the number names the message, among those of the steps so far
numbered : (done rest : List MergedStep) (s : MergedStep) (m n : LinkMessage) → AreApart (done ++ rest) → IsIn done s → s.node ≡ m.sender → s.stamp ≡ m.stamp → slice_get (sent_in s.step.outs) m.index ≡ Some n → (k : ℕ) × (number_among (done ++ rest) m ≡ suc k) × (slice_get (all_sent done) k ≡ Some n)
numbered [] rest s m n r i e f g = absurd i
numbered (d ∷ ds) rest s m n r (inl x) e f g = (
  m.index,
  first_is d (ds ++ rest) m (ap (λ (l : MergedStep). l.node) x ∙ e) (ap (λ (l : MergedStep). l.stamp) x ∙ f),
  get_within (sent_in d.step.outs) (all_sent ds) m.index n (subst (λ (l : MergedStep). slice_get (sent_in l.step.outs) m.index ≡ Some n) (sym x) g),
)
numbered (d ∷ ds) rest s m n r (inr i) e f g =
    let t = numbered ds rest s m n r.1 i e f g in
    let long : ℕ = length (sent_in d.step.outs) in
    let here : IsApart d s = all_in (IsApart d) (ds ++ rest) s r.0 (in_left ds rest s i) in
    let next : number_among (ds ++ rest) m ≡ suc t.0 = t.1 in
    let sum : long + suc t.0 ≡ suc (long + t.0) = omega arith in (
      long + t.0,
      not_first d s (ds ++ rest) m here e f ∙ ap (λ n. long + n) next ∙ sum,
      get_past (sent_in d.step.outs) (all_sent ds) t.0 ∙ t.2,
    )

pub number_names : (done rest : List MergedStep) (s : MergedStep) (m n : LinkMessage) → AreApart (done ++ rest) → IsIn done s → s.node ≡ m.sender → s.stamp ≡ m.stamp → slice_get (sent_in s.step.outs) m.index ≡ Some n → message_at (all_sent done) (number_among (done ++ rest) m) ≡ Some n
number_names done rest s m n r i e f g =
    let t = numbered done rest s m n r i e f g in
    rw t.1 t.2

pub all_sent-append : (xs ys : List MergedStep) → all_sent (xs ++ ys) ≡ all_sent xs ++ all_sent ys
all_sent-append [] ys = refl
all_sent-append (x ∷ xs) ys = rw (all_sent-append xs ys) (search append_assoc)
