-- Runs of entries and parts of states are full, except the last.
use Rattle.std.proofs.Common.{◌≡◌, ◌<◌, ◌≤◌, ℕ, zero, suc, ◌+◌, ◌-◌, ◌*◌, List, map, length, take, drop, min, ◌∙◌, arith, length-drop}
use Rattle.std.proofs.lemmas.List.{length-take}
use Rattle.std.specs.List.{range_with_len}
use Rattle.std.specs.Slice.Iter.{chunk_count}
use Rattle.craq_commands.specs.declared.entry.Entry.{Entry}
use Rattle.craq_commands.specs.declared.state.State.{State}
use Rattle.craq_model.specs.declared.message.StatePart.{StatePart}
use Rattle.craq_model.specs.Parts.{item_count, share, part_count, part_of, parts_of}
use Rattle.craq_model.specs.Sends.{runs_of}
use Rattle.craq_laws.specs.Pieces.{AreFullButLast}

-- numbered pieces are full except the last, if those of lower numbers are full
module _ {A : Type 0} (count : A → ℕ) (n : ℕ) (piece : ℕ → A) where
  numbered : (first c : ℕ) → ((k : ℕ) → first ≤ k → k + 1 < first + c → count (piece k) ≡ n)
      → ((k : ℕ) → k + 1 ≡ first + c → first ≤ k → (1 ≤ count (piece k)) × (count (piece k) ≤ n)) → AreFullButLast count n (map piece (range_with_len first c))
  numbered first zero full last = tt
  numbered first (suc zero) full last = last first (omega arith) (omega arith)
  numbered first (suc (suc c)) full last =
      (full first (omega arith) (omega arith), numbered (first + 1) (suc c) (λ k low high. full k (omega (arith, low)) (omega (arith, high))) (λ k is low. last k (omega (arith, is)) (omega (arith, low))))

run_full : (m i : ℕ) → i + 1 < 0 + chunk_count m 16 → min 16 (m - 16 * i) ≡ 16
run_full m i h = omega (arith, h)

run_last : (m i : ℕ) → i + 1 ≡ 0 + chunk_count m 16 → 1 ≤ min 16 (m - 16 * i)
run_last m i h = omega (arith, h)

run_most : (x : ℕ) → min 16 x ≤ 16
run_most x = omega arith

run_length : (es : List Entry) (i : ℕ) → length (take 16 (drop (16 * i) es)) ≡ min 16 (length es - 16 * i)
run_length es i = simp (length-take, length-drop)

pub runs_full : (es : List Entry) → AreFullButLast length 16 (runs_of es)
unfolding runs_of
runs_full es =
    numbered length 16 (λ i. take 16 (drop (16 * i) es)) 0 (chunk_count (length es) 16)
    (λ k low high. run_length es k ∙ run_full (length es) k high)
    (λ k is low.
    let size = run_length es k in
    let some = run_last (length es) k is in
    let most = run_most (length es - 16 * k) in
    (omega (arith, size, some), omega (arith, size, most)))

-- the items of a state from one index up to another
share_count : (s : State) (a b : ℕ) → item_count (share s a b) ≡ (min b (length s.objects) - a) + (min (b - length s.objects) (length s.kept) - (a - length s.objects))
share_count s a b = simp (length-take, length-drop)

part_full : (m k i : ℕ) → 1 ≤ i → i + 1 < 1 + chunk_count (m + k) 64 → (min (64 * i) m - 64 * (i - 1)) + (min (64 * i - m) k - (64 * (i - 1) - m)) ≡ 64
part_full m k i low h = omega (arith, low, h)

part_last : (m k i : ℕ) → 1 ≤ i → i + 1 ≡ 1 + chunk_count (m + k) 64 → 1 ≤ (min (64 * i) m - 64 * (i - 1)) + (min (64 * i - m) k - (64 * (i - 1) - m))
part_last m k i low h = omega (arith, low, h)

part_most : (m k i : ℕ) → 1 ≤ i → (min (64 * i) m - 64 * (i - 1)) + (min (64 * i - m) k - (64 * (i - 1) - m)) ≤ 64
part_most m k i low = omega (arith, low)

pub parts_full : (position : ℕ) (s : State) → AreFullButLast (λ (p : StatePart). item_count p.state) 64 (parts_of position s)
unfolding parts_of
parts_full position s =
    let m = length s.objects in
    let k = length s.kept in
    numbered (λ (p : StatePart). item_count p.state) 64 (part_of position s) 1 (part_count s)
    (λ i low high. share_count s (64 * (i - 1)) (64 * i) ∙ part_full m k i low high)
    (λ i is low.
    let size = share_count s (64 * (i - 1)) (64 * i) in
    let some = part_last m k i low is in
    let most = part_most m k i low in
    (omega (arith, size, some), omega (arith, size, most)))
