-- The index after more entries are indexed, or the first ones are removed.
use Rattle.std.proofs.Common.{◌≡◌, ℕ, zero, suc, ◌+◌, ◌-◌, ◌≤◌, min, List, [], ◌++◌, length, take, drop, refl, sym, ◌∙◌, ap, arith, take-add}
use Rattle.std.proofs.lemmas.List.{length-take, length-drop, take-append-drop, take-take, drop-take}
use Rattle.std.proofs.Math.Seq.{take-length}
use Rattle.craq_commands.specs.declared.entry.Entry.{Entry}
use Rattle.craq_model.specs.Past.{last_position}
use Rattle.craq_node_invariant.specs.Sound.{AreInRow}
use Rattle.craq_node_invariant.proofs.Rows.{row_take}
use Rattle.craq_full_history.specs.Slots.{Slots, slots_after}
use Rattle.craq_full_history.proofs.Windows.{slots_further}
use Rattle.std.specs.Prelude.{unwrap_or, None}
use Rattle.std.specs.List.{last_or}
use Rattle.craq_client_index.specs.Indexed.{Indexed, Placed, Tells, positions_of, noted_of}
use Rattle.craq_client_index.proofs.Through.{newest_noted, no_entries, positions_further}

abbrev pub indexed : ℕ → ℕ → Placed → Indexed
indexed from to places = record { from = from; to = to; places = places }

long_take : (n : ℕ) (es : List Entry) → n ≤ length es → length (take n es) ≡ n
long_take n es h = let l : length (take n es) ≡ min n (length es) = length-take n es in omega (arith, l, h)

-- the empty index is right
pub tells_nothing : (from : ℕ) (es : List Entry) → Tells (indexed from from []) es
tells_nothing from es =
    let none : from - from ≡ 0 = omega arith in
    record {
      from = omega arith;
      to = omega arith;
      positions = λ client. sym (no_entries client from) ∙ sym (ap (λ (n : ℕ). positions_of client from (take n es)) none);
    }

-- this many more entries are indexed
pub tells_more : (x : Indexed) (qs : Placed) (n count : ℕ) (later es : List Entry) → Tells x es → later ≡ drop (x.to - x.from) es → n ≤ length (take count later)
    → ((q : ℕ) → noted_of qs q ≡ noted_of x.places q ++ positions_of q x.to (take n (take count later))) → Tells (indexed x.from (x.to + n) qs) es
tells_more x qs n count later es t rest some more =
    let size : length (take count later) ≡ min count (length later) = length-take count later in
    let few : n ≤ count = omega (arith, some, size) in
    let fits : n ≤ length later = omega (arith, some, size) in
    let m : ℕ = x.to - x.from in
    let low = t.from in
    let high = t.to in
    let left : length later ≡ length es - m = ap length rest ∙ length-drop m es in
    let within : m ≤ length es = omega arith in
    let all : x.to + n - x.from ≡ m + n = omega (arith, low) in
    let place : x.from + m ≡ x.to = omega (arith, low) in
    record {
      from = omega (arith, low);
      to = omega (arith, low, left, few, fits, within);
      positions = λ q.
          more q
          ∙ ap (λ (l : List ℕ). l ++ positions_of q x.to (take n (take count later))) (t.positions q)
          ∙ ap (λ (l : List Entry). positions_of q x.from (take m es) ++ positions_of q x.to l) (take-take n count later few ∙ ap (take n) rest)
          ∙ ap (λ (k : ℕ). positions_of q x.from (take m es) ++ positions_of q k (take n (drop m es))) (sym (ap (λ (k : ℕ). x.from + k) (long_take m es within) ∙ place))
          ∙ sym (positions_further q x.from (take m es) (take n (drop m es)))
          ∙ ap (positions_of q x.from) (sym (take-add m n es))
          ∙ ap (λ (k : ℕ). positions_of q x.from (take k es)) (sym all);
    }

-- the rest of the indexed entries
moved : (q from m n to : ℕ) (es : List Entry) → to ≡ (from + n) + (from + m - (from + n)) → positions_of q (from + min m n) (take (m - min m n) (drop (min m n) es)) ≡ positions_of q (from + n) (take (to - (from + n)) (drop n es))
moved q from m n to es end =
    let split : (d : ℕ) → m - n ≡ d → positions_of q (from + min m n) (take (m - min m n) (drop (min m n) es)) ≡ positions_of q (from + n) (take (to - (from + n)) (drop n es)) = elim [
      | zero ↦ λ e.
          let none : m - min m n ≡ 0 = omega (arith, e) in
          let left : to - (from + n) ≡ 0 = omega (arith, e, end) in
          ap (λ (i : ℕ). positions_of q (from + min m n) (take i (drop (min m n) es))) none ∙ no_entries q (from + min m n) ∙ sym (no_entries q (from + n)) ∙ sym (ap (λ (i : ℕ). positions_of q (from + n) (take i (drop n es))) left)
      | suc j ↦ λ e.
          let all : min m n ≡ n = omega (arith, e) in
          let left : m - n ≡ to - (from + n) = omega (arith, e, end) in
          ap (λ (i : ℕ). positions_of q (from + i) (take (m - i) (drop i es))) all ∙ ap (λ (i : ℕ). positions_of q (from + n) (take i (drop n es))) left
    ] in
    split (m - n) refl

-- the first entries are removed from the index, as far as they are indexed
pub tells_less : (x : Indexed) (qs : Placed) (to : ℕ) (first es : List Entry) → Tells x es → length first ≤ length es → first ≡ take (length first) es
    → to ≡ (x.from + length first) + (x.to - (x.from + length first))
    → ((later : List Entry) (q : ℕ) → noted_of x.places q ≡ positions_of q x.from (take (min (x.to - x.from) (length first)) first ++ later) → noted_of qs q ≡ positions_of q (x.from + length (take (min (x.to - x.from) (length first)) first)) later)
    → Tells (indexed (x.from + length first) to qs) (drop (length first) es)
tells_less x qs to first es t few same end less =
    let m : ℕ = x.to - x.from in
    let n : ℕ = length first in
    let k : ℕ = min m n in
    let low = t.from in
    let high = t.to in
    let below : k ≤ n = omega arith in
    let under : k ≤ m = omega arith in
    let inside : k ≤ length es = omega (arith, few) in
    let front : take k first ≡ take k es = ap (take k) same ∙ take-take k n es below in
    let long : length (take k first) ≡ k = ap length front ∙ long_take k es inside in
    let noted : take k first ++ drop k (take m es) ≡ take m es = ap (λ (l : List Entry). l ++ drop k (take m es)) (front ∙ sym (take-take k m es under)) ∙ take-append-drop k (take m es) in
    let more : m ≡ k + (m - k) = omega arith in
    let left : drop k (take m es) ≡ take (m - k) (drop k es) = ap (λ (i : ℕ). drop k (take i es)) more ∙ drop-take k (m - k) es in
    let rest : (q : ℕ) → noted_of qs q ≡ positions_of q (x.from + k) (take (m - k) (drop k es)) = λ q.
    less (drop k (take m es)) q (t.positions q ∙ ap (positions_of q x.from) (sym noted))
    ∙ ap (λ (i : ℕ). positions_of q (x.from + i) (drop k (take m es))) long
    ∙ ap (positions_of q (x.from + k)) left in
    let shorter : length (drop n es) ≡ length es - n = length-drop n es in
    let last : to ≡ (x.from + n) + (x.from + m - (x.from + n)) = omega (arith, end, low) in
    record {
      from = omega (arith, end);
      to = omega (arith, end, high, shorter, few, low);
      positions = λ q. rest q ∙ moved q x.from m n to es last;
    }

-- a client's newest entry, by its positions and by the entries that are not indexed
pub newest_of_all : (x : Indexed) (es : List Entry) (client : ℕ) (ps : List ℕ) → Tells x es → AreInRow (x.from + 1) es → ps ≡ noted_of x.places client
    → last_position client (unwrap_or (last_or None ps) x.from) (drop (x.to - x.from) es) ≡ last_position client x.from es
newest_of_all x es client ps t row is =
    let m : ℕ = x.to - x.from in
    newest_noted client x.from (take m es) (drop m es) ps (row_take (x.from + 1) m es row) (is ∙ t.positions client)
    ∙ ap (last_position client x.from) (take-append-drop m es)

-- the slots after the indexed entries and the others
pub slots_of_all : (client first m : ℕ) (es : List Entry) (xs ys : Slots) → m ≤ length es → ys ≡ slots_after client first (take m es) xs → slots_after client (first + m) (drop m es) ys ≡ slots_after client first es xs
slots_of_all client first m es xs ys within is =
    ap (slots_after client (first + m) (drop m es)) is
    ∙ ap (λ (k : ℕ). slots_after client (first + k) (drop m es) (slots_after client first (take m es) xs)) (sym (long_take m es within))
    ∙ sym (slots_further client first (take m es) (drop m es) xs)
    ∙ ap (λ (l : List Entry). slots_after client first l xs) (take-append-drop m es)

-- a borrowed suffix of the entries
pub from_index : (n : ℕ) (es : List Entry) → take (length es - n) (drop n es) ≡ drop n es
from_index n es = ap (λ (k : ℕ). take k (drop n es)) (sym (length-drop n es)) ∙ take-length (drop n es)
