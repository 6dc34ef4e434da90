-- The number of a message, from the count of messages sent before each line.
use Rattle.std.proofs.Common.{◌≡◌, ◌<◌, ◌≤◌, ℕ, zero, suc, ◌+◌, ◌==◌, ltb, Bool, true, false, List, [], ◌∷◌, ◌++◌, length, get_or, map, take, drop, refl, sym, ap, subst, ◌∙◌, arith, inl, inr, length-append}
use Rattle.std.specs.Prelude.{◌||◌, ◌&&◌}
use Rattle.std.specs.List.{AllByRecursion, AllWithin}
use Rattle.std.specs.List.Sorted.{IsPartitionPoint, IsPartitionedBy}
use Rattle.craq_model.specs.declared.message.LinkMessage.{LinkMessage}
use Rattle.craq_runs.specs.Chain.{sent_in}
use Rattle.craq_seat.specs.Merge.{AreInOrder, IsBefore, MergedStep, number_among}
use Rattle.craq_causality.proofs.Numbers.{all_sent, first_is, not_first}
use Rattle.craq_causality.proofs.Orders.{IsIn, all_in, from_contains}
use Rattle.craq_merge.proofs.Orders.{AreRising, apart_by_stamp, rising}
use Rattle.craq_audit.specs.Lines.{IsSentIn, sums_from}

-- the line precedes the sending of the message
abbrev pub is_below : LinkMessage → MergedStep → Bool
is_below m l = ltb l.stamp m.stamp || ((l.stamp == m.stamp) && ltb l.node m.sender)

below_before : (m : LinkMessage) (a b : MergedStep) → IsBefore a b → is_below m b ≡ true → is_below m a ≡ true
below_before m a b (inl h) e = grind (arith, h, e)
below_before m a b (inr h) e = let n = h.1 in grind (arith, h.0, n, e)

below_sending : (m : LinkMessage) (a s : MergedStep) → IsBefore a s → s.node ≡ m.sender → s.stamp ≡ m.stamp → is_below m a ≡ true
below_sending m a s (inl h) e f = grind (arith, h, e, f)
below_sending m a s (inr h) e f = let n = h.1 in grind (arith, h.0, n, e, f)

not_below : (m : LinkMessage) (s : MergedStep) → s.node ≡ m.sender → s.stamp ≡ m.stamp → is_below m s ≡ false
not_below m s e f = grind (arith, e, f)

rises : (ls : List MergedStep) (j : ℕ) (a d : MergedStep) → AreRising (a ∷ ls) → j < length ls → IsBefore a (get_or ls j d)
rises [] j a d r less = absurd (omega (arith, less))
rises (b ∷ ls) zero a d r less = r.0.0
rises (b ∷ ls) (suc j) a d r less = rises ls j a d (r.0.1, r.1.1) (omega (arith, less))

partitioned : (m : LinkMessage) (ls : List MergedStep) → AreRising ls → IsPartitionedBy (is_below m) ls
partitioned m [] r i j d le less e = absurd (omega (arith, less))
partitioned m (a ∷ ls) r zero zero d le less e = e
partitioned m (a ∷ ls) r zero (suc j) d le less e = below_before m a (get_or ls j d) (rises ls j a d r (omega (arith, less))) e
partitioned m (a ∷ ls) r (suc i) zero d le less e = absurd (omega (arith, le))
partitioned m (a ∷ ls) r (suc i) (suc j) d le less e = partitioned m ls r.1 i j d (omega (arith, le)) (omega (arith, less)) e

pub parted : (m : LinkMessage) (ls : List MergedStep) → AreInOrder ls → IsPartitionedBy (is_below m) ls
parted m ls o = partitioned m ls (rising ls o)

abbrev Before : LinkMessage → MergedStep → Type 0
Before m l = is_below m l ≡ true

abbrev NotBefore : LinkMessage → MergedStep → Type 0
NotBefore m l = is_below m l ≡ false

false_true : (b : Bool) → b ≡ true → b ≡ false → ⊥
false_true b h k = cc

number : (before place : ℕ) (ls : List MergedStep) (m : LinkMessage) (s : MergedStep) → AreRising ls → IsIn ls s → s.node ≡ m.sender → s.stamp ≡ m.stamp → AllWithin (Before m) ls 0 place → AllWithin (NotBefore m) ls place (length ls) → (place < length ls) × (get_or (sums_from before ls) place 0 + m.index + 1 ≡ before + number_among ls m)
number before place [] m s r i e f low high = absurd i
number before zero (d ∷ ds) m s r (inl x) e f low high =
    let n = first_is d ds m (ap (λ (l : MergedStep). l.node) x ∙ e) (ap (λ (l : MergedStep). l.stamp) x ∙ f) in
    (omega arith, rw n (omega arith))
number before (suc k) (d ∷ ds) m s r (inl x) e f low high =
    absurd (false_true (is_below m d) (low 0 d (omega arith) (omega arith)) (not_below m d (ap (λ (l : MergedStep). l.node) x ∙ e) (ap (λ (l : MergedStep). l.stamp) x ∙ f)))
number before zero (d ∷ ds) m s r (inr i) e f low high =
    absurd (false_true (is_below m d) (below_sending m d s (all_in (IsBefore d) ds s r.0 i) e f) (high 0 d (omega arith) (omega arith)))
number before (suc k) (d ∷ ds) m s r (inr i) e f low high =
    let long : ℕ = length (sent_in d.step.outs) in
    let t = number (before + long) k ds m s r.1 i e f (λ j x a b. low (suc j) x (omega arith) (omega (arith, b))) (λ j x a b. high (suc j) x (omega (arith, a)) (omega (arith, b))) in
    let n : number_among (d ∷ ds) m ≡ long + number_among ds m = not_first d s ds m (apart_by_stamp d s (all_in (IsBefore d) ds s r.0 i)) e f in
    let within = t.0 in
    let is = t.1 in
    (omega (arith, within), omega (arith, is, n))

-- it is not above the number of all messages
bounded : (ls : List MergedStep) (m : LinkMessage) (s : MergedStep) → AreRising ls → IsIn ls s → s.node ≡ m.sender → s.stamp ≡ m.stamp → m.index < length (sent_in s.step.outs) → number_among ls m ≤ length (all_sent ls)
bounded [] m s r i e f less = absurd i
bounded (d ∷ ds) m s r (inl x) e f less =
    let n = first_is d ds m (ap (λ (l : MergedStep). l.node) x ∙ e) (ap (λ (l : MergedStep). l.stamp) x ∙ f) in
    let own : m.index < length (sent_in d.step.outs) = subst (λ (l : MergedStep). m.index < length (sent_in l.step.outs)) (sym x) less in
    let all = length-append (sent_in d.step.outs) (all_sent ds) in
    omega (arith, n, own, all)
bounded (d ∷ ds) m s r (inr i) e f less =
    let n = not_first d s ds m (apart_by_stamp d s (all_in (IsBefore d) ds s r.0 i)) e f in
    let t = bounded ds m s r.1 i e f less in
    let all = length-append (sent_in d.step.outs) (all_sent ds) in
    omega (arith, n, t, all)

pub number_here : (place : ℕ) (ls : List MergedStep) (m : LinkMessage) → AreInOrder ls → IsSentIn ls m → IsPartitionPoint (Before m) (NotBefore m) ls place → (place < length ls) × (get_or (sums_from 0 ls) place 0 + m.index + 1 ≡ number_among ls m) × (number_among ls m ≤ length (all_sent ls))
number_here place ls m o s p =
    let r = rising ls o in
    let i = from_contains ls s.line s.there in
    let t = number 0 place ls m s.line r i s.node s.stamp p.0 p.1 in
    let is = t.1 in
    (t.0, omega (arith, is), bounded ls m s.line r i s.node s.stamp s.index)

pub sums_long : (before : ℕ) (ls : List MergedStep) → length (sums_from before ls) ≡ length ls
sums_long before [] = refl
sums_long before (l ∷ ls) = ap suc (sums_long (before + length (sent_in l.step.outs)) ls)

pub past_end : {X : Type 0} (xs : List X) (i : ℕ) → length xs ≤ i → drop i xs ≡ []
past_end [] zero h = refl
past_end [] (suc i) h = refl
past_end (x ∷ xs) zero h = absurd (omega (arith, h))
past_end (x ∷ xs) (suc i) h = past_end xs i (omega (arith, h))

map_more : {X Y : Type 0} (f : X → Y) (xs : List X) (i : ℕ) (x : X) → i < length xs → x ≡ get_or xs i x → map f (take (i + 1) xs) ≡ map f (take i xs) ++ f x ∷ []
map_more f [] i x less is = absurd (omega (arith, less))
map_more f (y ∷ xs) zero x less is = ap (λ z. f z ∷ []) (sym is)
map_more f (y ∷ xs) (suc i) x less is =
    let e : suc i + 1 ≡ suc (i + 1) = omega arith in
    rw (e, map_more f xs i x (omega (arith, less)) is) refl

pub mapped_push : {X Y : Type 0} (f : X → Y) (xs : List X) (i : ℕ) (x : X) (old new : List Y) (y : Y) → i < length xs → x ≡ get_or xs i x → new ≡ old ++ y ∷ [] → old ≡ map f (take i xs) → y ≡ f x → new ≡ map f (take (i + 1) xs)
mapped_push f xs i x old new y less is e o m =
    e ∙ ap (λ zs. zs ++ y ∷ []) o ∙ ap (λ z. map f (take i xs) ++ z ∷ []) m ∙ sym (map_more f xs i x less is)

pub at_place : {X : Type 0} (P : X → Type 0) (xs : List X) (i : ℕ) (x : X) → AllByRecursion P xs → i < length xs → x ≡ get_or xs i x → P x
at_place P [] i x h less is = absurd (omega (arith, less))
at_place P (y ∷ xs) zero x h less is = subst P (sym is) h.0
at_place P (y ∷ xs) (suc i) x h less is = at_place P xs i x h.1 (omega (arith, less)) is
