-- A sound state is cut into parts that have an encoding.
use Rattle.std.proofs.Common.{◌≡◌, ◌≤◌, ◌<◌, ℕ, zero, suc, ◌+◌, ◌-◌, ◌*◌, min, List, map, length, take, drop, ap, ◌∙◌, arith, length-drop}
use Rattle.std.proofs.lemmas.List.{length-take}
use Rattle.std.specs.List.{AllByRecursion, range_with_len}
use Rattle.std.specs.Ordering.{nat_cmp}
use Rattle.std.specs.Slice.Iter.{chunk_count}
use Rattle.craq_names.specs.Maps.{key_cmp}
use Rattle.craq_names.proofs.Lists.{all_drop, all_take}
use Rattle.craq_commands.specs.Kept.{Window}
use Rattle.craq_commands.specs.declared.state.State.{State}
use Rattle.craq_model.specs.Parts.{item_count, share, part_count, part_of, parts_of}
use Rattle.craq_model.specs.Encodable.{IsEncodablePart, IsEncodableWindow}
use Rattle.craq_node_invariant.specs.Sound.{IsSoundState}
use Rattle.craq_node_invariant.proofs.Sorted.{rising_drop, rising_take}

-- a property of the items made from each number of a range holds for all of them
pub all_range : {A : Type 0} (P : A → Type 0) (f : ℕ → A) (a n : ℕ) → ((i : ℕ) → a ≤ i → i < a + n → P (f i)) → AllByRecursion P (map f (range_with_len a n))
all_range P f a zero h = tt
all_range P f a (suc n) h = (h a (omega arith) (omega arith), all_range P f (a + 1) n (λ i l u. h i (omega (arith, l)) (omega (arith, u))))

share_is : (s : State) (a b : ℕ) → IsSoundState s → IsSoundState (share s a b)
share_is s a b i =
    let m : ℕ = length s.objects in
    record {
      versions = all_drop (λ (o : List ℕ × (ℕ × List ℕ)). 1 ≤ o.1.0) a (take b s.objects) (all_take (λ (o : List ℕ × (ℕ × List ℕ)). 1 ≤ o.1.0) b s.objects i.versions);
      windows = all_drop (λ (k : ℕ × Window). IsEncodableWindow k.1) (a - m) (take (b - m) s.kept) (all_take (λ (k : ℕ × Window). IsEncodableWindow k.1) (b - m) s.kept i.windows);
      keys_rise = rising_drop key_cmp a (take b s.objects) (rising_take key_cmp b s.objects i.keys_rise);
      clients_rise = rising_drop nat_cmp (a - m) (take (b - m) s.kept) (rising_take nat_cmp (b - m) s.kept i.clients_rise);
    }

length_between : {A : Type 0} (a b : ℕ) (xs : List A) → length (drop a (take b xs)) ≡ min b (length xs) - a
length_between a b xs = length-drop a (take b xs) ∙ ap (λ n. n - a) (length-take b xs)

counted : (a b m k : ℕ) → a ≤ b → (min b m - a) + (min (b - m) k - (a - m)) ≡ min b (m + k) - a
counted a b m k h = omega (arith, h)

items_in_share : (s : State) (a b : ℕ) → a ≤ b → item_count (share s a b) ≡ min b (item_count s) - a
items_in_share s a b h =
    let m : ℕ = length s.objects in
    (λ i. length_between a b s.objects i + length_between (a - m) (b - m) s.kept i) ∙ counted a b m (length s.kept) h

from_before : (i : ℕ) → 64 * (i - 1) ≤ 64 * i
from_before i = omega arith

-- the number of items before the last part
begun : (n i : ℕ) → 64 < n → 1 ≤ i → i < 1 + chunk_count n 64 → 64 * (i - 1) < n
begun n i many some last = omega (arith, many, some, last)

filled : (n i : ℕ) → 1 ≤ i → i < chunk_count n 64 → 64 * i ≤ n
filled n i some last = omega (arith, some, last)

two_parts : (n : ℕ) → 64 < n → 2 ≤ chunk_count n 64
two_parts n many = omega (arith, many)

few_of : (a b n : ℕ) → a + b ≡ n → n ≤ 64 → (a ≤ 4294967295) × (b ≤ 4294967295)
few_of a b n e f = (omega (arith, e, f), omega (arith, e, f))

part_is : (position : ℕ) (s : State) (i : ℕ) → 1 ≤ position → IsSoundState s → 64 < item_count s → 1 ≤ i → i < 1 + part_count s → IsEncodablePart (part_of position s i)
part_is position s i h sound many some last =
    let part : State = share s (64 * (i - 1)) (64 * i) in
    let count : item_count part ≡ min (64 * i) (item_count s) - 64 * (i - 1) = items_in_share s (64 * (i - 1)) (64 * i) (from_before i) in
    let start : 64 * (i - 1) < item_count s = begun (item_count s) i many some last in
    let few : item_count part ≤ 64 = omega (arith, count, some) in
    let is : IsSoundState part = share_is s (64 * (i - 1)) (64 * i) sound in
    let fits = few_of (length part.objects) (length part.kept) (item_count part) (omega arith) few in
    record {
      position = h;
      from = some;
      to = omega (arith, last);
      several = two_parts (item_count s) many;
      some = omega (arith, count, start, some);
      few = few;
      whole = λ l. let full : 64 * i ≤ item_count s = filled (item_count s) i some l in omega (arith, count, full, some);
      state = record { few_objects = fits.0; few_kept = fits.1; versions = is.versions; windows = is.windows; keys_rise = is.keys_rise; clients_rise = is.clients_rise };
    }

pub parts_are : (position : ℕ) (s : State) → 1 ≤ position → IsSoundState s → 64 < item_count s → AllByRecursion IsEncodablePart (parts_of position s)
unfolding parts_of
parts_are position s h sound many = all_range IsEncodablePart (part_of position s) 1 (part_count s) (λ i some last. part_is position s i h sound many some last)
