-- The number of versions that a prefix of writes gives an object.
use Rattle.std.proofs.Common.{◌≡◌, ℕ, zero, suc, ◌+◌, ◌-◌, ◌<◌, ◌≤◌, Bool, true, false, cond, List, [], ◌∷◌, length, take, get_or, refl, sym, ◌∙◌, ap, arith, add-one}
use Rattle.std.proofs.lemmas.List.{length-take-le}
use Rattle.std.specs.Prelude.{if◌then◌else◌}
use Rattle.craq_names.specs.Maps.{same_bytes}
use Rattle.craq_commands.specs.declared.entry.Write.{Write}
use Rattle.craq_model.specs.Past.{values_in}
use Rattle.craq_compact_state.specs.declared.value_locations.ValueLocation.{ValueLocation}
use Rattle.craq_compact_state.specs.Placed.{count_of}

-- the first write gives one version, or none
pub count_first : (w : Write) (ws : List Write) (key : List ℕ) → count_of (w ∷ ws) key ≡ (if same_bytes w.key key then 1 else 0) + count_of ws key
unfolding values_in
count_first w ws key =
    let split : (b : Bool) → length (cond b ((w.version, w.value) ∷ values_in ws key) (values_in ws key)) ≡ (if b then 1 else 0) + length (values_in ws key) = elim [ true ↦ omega arith | false ↦ omega arith ] in
    split (same_bytes w.key key)

pub count_none : (key : List ℕ) → count_of [] key ≡ 0
unfolding values_in
count_none key = refl

-- one more of some writes
count_to_suc : (ws : List Write) (i : ℕ) (w : Write) (key : List ℕ) → i < length ws → w ≡ get_or ws i w → count_of (take (suc i) ws) key ≡ count_of (take i ws) key + (if same_bytes w.key key then 1 else 0)
count_to_suc [] i w key low is = absurd (omega (arith, low))
count_to_suc (v ∷ ws) zero w key low is =
    let none : count_of [] key ≡ 0 = count_none key in
    let one = count_first v [] key in
    let n : ℕ = (if same_bytes v.key key then 1 else 0) in
    let sum : n + count_of [] key ≡ count_of [] key + n = omega arith in
    one ∙ sum ∙ ap (λ (x : Write). count_of [] key + (if same_bytes x.key key then 1 else 0)) (sym is)
count_to_suc (v ∷ ws) (suc i) w key low is =
    let rest = count_to_suc ws i w key (omega (arith, low)) is in
    let n : ℕ = (if same_bytes v.key key then 1 else 0) in
    let k : ℕ = count_of (take i ws) key in
    let m : ℕ = (if same_bytes w.key key then 1 else 0) in
    let sum : n + (k + m) ≡ (n + k) + m = omega arith in
    count_first v (take (suc i) ws) key ∙ ap (λ (x : ℕ). n + x) rest ∙ sum ∙ ap (λ (x : ℕ). x + m) (sym (count_first v (take i ws) key))

pub count_next : (ws : List Write) (i : ℕ) (w : Write) (key : List ℕ) → i < length ws → w ≡ get_or ws i w → count_of (take (i + 1) ws) key ≡ count_of (take i ws) key + (if same_bytes w.key key then 1 else 0)
count_next ws i w key low is = ap (λ (n : ℕ). count_of (take n ws) key) (add-one i) ∙ count_to_suc ws i w key low is

take_fewer : (m n : ℕ) (l : List (ℕ × ValueLocation)) → m ≤ n → take m (take n l) ≡ take m l
take_fewer zero n l few = refl
take_fewer (suc m) zero l few = absurd (omega (arith, few))
take_fewer (suc m) (suc n) [] few = refl
take_fewer (suc m) (suc n) (r ∷ l) few = ap (λ (t : List (ℕ × ValueLocation)). r ∷ t) (take_fewer m n l (omega (arith, few)))

-- some of the newest are dropped, and then some more
pub gone_twice : (l r : List (ℕ × ValueLocation)) (k c : ℕ) → r ≡ take (length l - k) l → take (length r - c) r ≡ take (length l - (k + c)) l
gone_twice l r k c is =
    let n : ℕ = length l - k in
    let few : n ≤ length l = omega arith in
    let all : length (take n l) ≡ n = length-take-le n l few in
    let fewer : n - c ≤ n = omega arith in
    let sum : n - c ≡ length l - (k + c) = omega arith in
    ap (λ (x : List (ℕ × ValueLocation)). take (length x - c) x) is ∙ ap (λ (m : ℕ). take (m - c) (take n l)) all ∙ take_fewer (n - c) n l fewer ∙ ap (λ (m : ℕ). take m l) sum
