-- The versions that a prefix of writes gives an object, with their locations.
use Rattle.std.proofs.Common.{◌≡◌, ℕ, zero, suc, ◌+◌, ◌-◌, ◌<◌, Bool, true, false, cond, List, [], ◌∷◌, ◌++◌, length, take, get_or, refl, sym, ◌∙◌, ap, arith, add-one, append_assoc, length-append}
use Rattle.std.specs.Prelude.{if◌then◌else◌}
use Rattle.craq_names.specs.Maps.{same_bytes}
use Rattle.craq_commands.specs.declared.entry.Write.{Write}
use Rattle.craq_compact_state.specs.declared.value_locations.ValueLocation.{ValueLocation}
use Rattle.craq_compact_state.specs.Indexed.{version_at, written_in}
use Rattle.craq_compact_state.specs.Placed.{count_of}
use Rattle.craq_compact_state.proofs.Counts.{count_first, count_none}
use Rattle.craq_compact_state.proofs.Placing.{none_more}

abbrev pub one_at : ℕ → ℕ → Write → List ℕ → List (ℕ × ValueLocation)
one_at position index w key = if same_bytes w.key key then version_at position index w ∷ [] else []

written_first : (p k : ℕ) (w : Write) (ws : List Write) (key : List ℕ) → written_in p k (w ∷ ws) key ≡ one_at p k w key ++ written_in p (k + 1) ws key
unfolding written_in
written_first p k w ws key =
    let r : ℕ × ValueLocation = version_at p k w in
    let rest : List (ℕ × ValueLocation) = written_in p (k + 1) ws key in
    let split : (b : Bool) → cond b (r ∷ rest) rest ≡ (if b then r ∷ [] else []) ++ rest = elim [ true ↦ refl | false ↦ refl ] in
    split (same_bytes w.key key)

pub written_none : (l : List (ℕ × ValueLocation)) (p : ℕ) (key : List ℕ) → l ≡ l ++ written_in p 0 [] key
unfolding written_in
written_none l p key = none_more l

written_to_suc : (p k : ℕ) (ws : List Write) (i : ℕ) (w : Write) (key : List ℕ) → i < length ws → w ≡ get_or ws i w → written_in p k (take (suc i) ws) key ≡ written_in p k (take i ws) key ++ one_at p (k + i) w key
unfolding written_in
written_to_suc p k [] i w key low is = absurd (omega (arith, low))
written_to_suc p k (v ∷ ws) zero w key low is =
    let here : k ≡ k + 0 = omega arith in
    written_first p k v [] key ∙ sym (none_more (one_at p k v key)) ∙ ap (λ (x : Write). one_at p k x key) (sym is) ∙ ap (λ (n : ℕ). one_at p n w key) here
written_to_suc p k (v ∷ ws) (suc i) w key low is =
    let there : (k + 1) + i ≡ k + suc i = omega arith in
    written_first p k v (take (suc i) ws) key
    ∙ ap (λ (l : List (ℕ × ValueLocation)). one_at p k v key ++ l) (written_to_suc p (k + 1) ws i w key (omega (arith, low)) is ∙ ap (λ (n : ℕ). written_in p (k + 1) (take i ws) key ++ one_at p n w key) there)
    ∙ sym (append_assoc (one_at p k v key) (written_in p (k + 1) (take i ws) key) (one_at p (k + suc i) w key))
    ∙ ap (λ (l : List (ℕ × ValueLocation)). l ++ one_at p (k + suc i) w key) (sym (written_first p k v (take i ws) key))

-- one more write is indexed
pub written_next : (a b c : List (ℕ × ValueLocation)) (p : ℕ) (ws : List Write) (i : ℕ) (w : Write) (key : List ℕ) → i < length ws → w ≡ get_or ws i w → b ≡ a ++ written_in p 0 (take i ws) key → c ≡ b ++ one_at p i w key → c ≡ a ++ written_in p 0 (take (i + 1) ws) key
written_next a b c p ws i w key low is before more =
    let here : 0 + i ≡ i = omega arith in
    more ∙ ap (λ (l : List (ℕ × ValueLocation)). l ++ one_at p i w key) before ∙ append_assoc a (written_in p 0 (take i ws) key) (one_at p i w key)
    ∙ ap (λ (l : List (ℕ × ValueLocation)). a ++ l) (sym (ap (λ (n : ℕ). written_in p 0 (take n ws) key) (add-one i) ∙ written_to_suc p 0 ws i w key low is ∙ ap (λ (n : ℕ). written_in p 0 (take i ws) key ++ one_at p n w key) here))

pub length_written : (p k : ℕ) (ws : List Write) (key : List ℕ) → length (written_in p k ws key) ≡ count_of ws key
unfolding written_in
length_written p k [] key = sym (count_none key)
length_written p k (w ∷ ws) key =
    let split : (b : Bool) → length (if b then version_at p k w ∷ [] else []) ≡ (if b then 1 else 0) = elim [ true ↦ refl | false ↦ refl ] in
    ap length (written_first p k w ws key) ∙ length-append (one_at p k w key) (written_in p (k + 1) ws key)
    ∙ ap (λ (n : ℕ). n + length (written_in p (k + 1) ws key)) (split (same_bytes w.key key))
    ∙ ap (λ (n : ℕ). (if same_bytes w.key key then 1 else 0) + n) (length_written p (k + 1) ws key) ∙ sym (count_first w ws key)

take_front : (l r : List (ℕ × ValueLocation)) → take (length l) (l ++ r) ≡ l
take_front [] r = refl
take_front (x ∷ l) r = ap (λ (t : List (ℕ × ValueLocation)). x ∷ t) (take_front l r)

-- the indexed versions are removed
pub taken_back : (a b c : List (ℕ × ValueLocation)) (p : ℕ) (ws : List Write) (key : List ℕ) → b ≡ a ++ written_in p 0 ws key → c ≡ take (length b - count_of ws key) b → c ≡ a
taken_back a b c p ws key before is =
    let w : List (ℕ × ValueLocation) = written_in p 0 ws key in
    let n : ℕ = count_of ws key in
    let more : length w ≡ n = length_written p 0 ws key in
    let sum : length (a ++ w) ≡ length a + length w = length-append a w in
    let left : length (a ++ w) - n ≡ length a = omega (arith, more, sum) in
    is ∙ ap (λ (l : List (ℕ × ValueLocation)). take (length l - n) l) before ∙ ap (λ (m : ℕ). take m (a ++ w)) left ∙ take_front a w
