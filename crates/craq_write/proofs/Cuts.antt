-- A state that is cut into parts, from its end.
use Rattle.std.proofs.Common.{◌≡◌, ℕ, suc, ◌+◌, ◌-◌, ◌*◌, ◌≤◌, List, ◌∷◌, map, length, take, drop, refl, ap, ◌∙◌, arith}
use Rattle.std.proofs.lemmas.List.{take_all}
use Rattle.std.specs.List.{range_with_len}
use Rattle.std.specs.Slice.Iter.{chunk_count}
use Rattle.craq_commands.specs.Kept.{Window}
use Rattle.craq_commands.specs.declared.state.State.{State}
use Rattle.craq_model.specs.declared.message.StatePart.{StatePart}
use Rattle.craq_model.specs.Parts.{part_count, part_of}

enough : (m n : ℕ) → m ≤ 64 * chunk_count (m + n) 64
enough m n = omega arith

enough_later : (m n : ℕ) → n ≤ 64 * chunk_count (m + n) 64 - m
enough_later m n = omega arith

-- all parts together have all items
pub all_objects : (s : State) (count : ℕ) → count ≡ part_count s → take (64 * count) s.objects ≡ s.objects
all_objects s count e = ap (λ n. take (64 * n) s.objects) e ∙ take_all (64 * part_count s) s.objects (enough (length s.objects) (length s.kept))

pub all_kept : (s : State) (count : ℕ) → count ≡ part_count s → take (64 * count - length s.objects) s.kept ≡ s.kept
all_kept s count e = ap (λ n. take (64 * n - length s.objects) s.kept) e ∙ take_all (64 * part_count s - length s.objects) s.kept (enough_later (length s.objects) (length s.kept))

-- the part before those that are cut off already
pub part_is : (position : ℕ) (s : State) (count k i : ℕ) (objects : List (List ℕ × (ℕ × List ℕ))) (kept : List (ℕ × Window)) → i + 1 ≡ k → count ≡ part_count s
    → objects ≡ drop (64 * i) (take (64 * k) s.objects) → kept ≡ drop (64 * i - length s.objects) (take (64 * k - length s.objects) s.kept)
    → record { position = position; number = i + 1; count = count; state = record { objects = objects; kept = kept } } ≡ part_of position s k
part_is position s count k i objects kept e c o m =
    let before : k - 1 ≡ i = omega (arith, e) in
    rw (before, e, c, o, m) refl

pub one_more : (position : ℕ) (s : State) (count k i : ℕ) (part : StatePart) (later : List StatePart) → i + 1 ≡ k → k ≤ count → part ≡ part_of position s k
    → later ≡ map (part_of position s) (range_with_len (k + 1) (count - k)) → part ∷ later ≡ map (part_of position s) (range_with_len (i + 1) (count - i))
one_more position s count k i part later e le p l =
    let left : count - i ≡ suc (count - k) = omega (arith, e, le) in
    rw (p, l, left, e) refl
