-- The later versions of objects after the entries that write them are applied.
use Rattle.std.proofs.Common.{◌≡◌, ℕ, zero, suc, ◌+◌, ◌-◌, ◌≤◌, List, [], ◌∷◌, ◌++◌, length, take, drop, refl, sym, ◌∙◌, ap, arith, drop-drop, length-append, length-drop, append_assoc}
use Rattle.std.proofs.Math.Seq.{drop-append_seam, drop-nil}
use Rattle.std.proofs.lemmas.List.{append-nil}
use Rattle.std.specs.Prelude.{if◌then◌else◌, Result, Ok, Err, OnErr, OnOk}
use Rattle.craq_names.specs.Maps.{same_bytes}
use Rattle.craq_commands.specs.declared.entry.Entry.{Entry}
use Rattle.craq_commands.specs.declared.entry.Write.{Write}
use Rattle.craq_log.specs.Suffixed.{Suffixed, IsFirstOf, length_of}
use Rattle.craq_model.specs.Past.{values_in, values_after}
use Rattle.craq_compact_state.specs.declared.value_locations.ValueLocation.{ValueLocation}
use Rattle.craq_compact_state.specs.Indexed.{AreIndexed, LaterAreSettled, written_in, written_after}
use Rattle.craq_compact_state.specs.Placed.{Placed, KeepsLater, LaterWithout, count_of, later_of}
use Rattle.craq_compact_state.proofs.Counts.{count_first, count_none}
use Rattle.craq_compact_state.proofs.Written.{length_written}

-- the first of the remaining writes is settled
pub write_settled : (a b c : List (ℕ × ValueLocation)) (rest left : List Write) (w : Write) (key : List ℕ) → rest ≡ w ∷ left → drop (count_of rest key) b ≡ a → c ≡ drop (if same_bytes w.key key then 1 else 0) b → drop (count_of left key) c ≡ a
write_settled a b c rest left w key step before now =
    let one : ℕ = (if same_bytes w.key key then 1 else 0) in
    ap (λ (l : List (ℕ × ValueLocation)). drop (count_of left key) l) now ∙ drop-drop (count_of left key) one b
    ∙ ap (λ (n : ℕ). drop n b) (sym (count_first w left key)) ∙ ap (λ (ws : List Write). drop (count_of ws key) b) (sym step) ∙ before

-- no write remains
pub writes_settled : (a b : List (ℕ × ValueLocation)) (rest : List Write) (key : List ℕ) → rest ≡ [] → drop (count_of rest key) b ≡ a → b ≡ a
writes_settled a b rest key none all = ap (λ (n : ℕ). drop n b) (sym (count_none key)) ∙ ap (λ (ws : List Write). drop (count_of ws key) b) (sym none) ∙ all

-- the first entry is applied
pub first_settled : (ps qs : Placed) (old new : Suffixed) (e : Entry) → IsFirstOf e old new → LaterWithout e.writes ps qs → LaterAreSettled ps old qs new
unfolding values_after
first_settled ps qs old new e first without key =
    let base = first.base in
    let one : 1 ≡ new.base - old.base = omega arith in
    without key
    ∙ ap (λ (vs : List (ℕ × List ℕ)). drop (length vs) (later_of ps key)) (sym (append-nil (values_in e.writes key)))
    ∙ ap (λ (es : List Entry). drop (length (values_after (take 1 es) key)) (later_of ps key)) (sym first.entries)
    ∙ ap (λ (n : ℕ). drop (length (values_after (take n old.entries) key)) (later_of ps key)) one

take_nothing : (n : ℕ) → take {A = Entry} n [] ≡ []
take_nothing zero = refl
take_nothing (suc n) = refl

-- the versions of the first m entries, without those of the first n
written_left : (base : ℕ) (es : List Entry) (n m : ℕ) (key : List ℕ) → n ≤ length es → drop (length (values_after (take n es) key)) (written_after base (take m es) key) ≡ written_after (base + n) (take (m - n) (drop n es)) key
unfolding written_after values_after
written_left base es zero m key few =
    let here : base ≡ base + 0 = omega arith in
    let all : m ≡ m - 0 = omega arith in
    ap (λ (b : ℕ). written_after b (take m es) key) here ∙ ap (λ (k : ℕ). written_after (base + 0) (take k es) key) all
written_left base [] (suc n) m key few = absurd (omega (arith, few))
written_left base (e ∷ es) (suc n) zero key few =
    let none : 0 ≡ zero - suc n = omega arith in
    drop-nil (length (values_in e.writes key ++ values_after (take n es) key)) ∙ ap (λ (k : ℕ). written_after (base + suc n) (take k (drop n es)) key) none
written_left base (e ∷ es) (suc n) (suc m) key few =
    let first : List (ℕ × ValueLocation) = written_in (base + 1) 0 e.writes key in
    let rest : List (ℕ × ValueLocation) = written_after (base + 1) (take m es) key in
    let more : ℕ = length (values_after (take n es) key) in
    let there : base + 1 + n ≡ base + suc n = omega arith in
    let left : m - n ≡ suc m - suc n = omega arith in
    ap (λ (k : ℕ). drop k (first ++ rest)) (length-append (values_in e.writes key) (values_after (take n es) key) ∙ ap (λ (k : ℕ). k + more) (sym (length_written (base + 1) 0 e.writes key)))
    ∙ sym (drop-drop more (length first) (first ++ rest)) ∙ ap (λ (l : List (ℕ × ValueLocation)). drop more l) (drop-append_seam first rest)
    ∙ written_left (base + 1) es n m key (omega (arith, few))
    ∙ ap (λ (b : ℕ). written_after b (take (m - n) (drop n es)) key) there ∙ ap (λ (k : ℕ). written_after (base + suc n) (take k (drop n es)) key) left

-- the index after entries are applied
pub indexed_left : (ps qs : Placed) (old new : Suffixed) (indexed now : ℕ) → old.base ≤ new.base → new.base ≤ length_of old → new.base ≤ now → now ≤ length_of old → now - new.base ≡ indexed - new.base → new.entries ≡ drop (new.base - old.base) old.entries
    → AreIndexed ps old indexed → LaterAreSettled ps old qs new → AreIndexed qs new now
indexed_left ps qs old new indexed now low high from to same left before settled =
    let n : ℕ = new.base - old.base in
    let m : ℕ = indexed - old.base in
    let few : n ≤ length old.entries = omega arith in
    let here : old.base + n ≡ new.base = omega arith in
    let was : old.base ≤ indexed = before.from in
    let more : m - n ≡ now - new.base = omega arith in
    let long : length new.entries ≡ length old.entries - n = ap length left ∙ length-drop n old.entries in
    let end : now ≤ length_of new = omega (arith, long) in
    record {
      from = from;
      to = end;
      later = λ key.
          settled key ∙ ap (λ (l : List (ℕ × ValueLocation)). drop (length (values_after (take n old.entries) key)) l) (before.later key)
          ∙ written_left old.base old.entries n m key few
          ∙ ap (λ (b : ℕ). written_after b (take (m - n) (drop n old.entries)) key) here
          ∙ ap (λ (k : ℕ). written_after new.base (take k (drop n old.entries)) key) more
          ∙ ap (λ (es : List Entry). written_after new.base (take (now - new.base) es) key) (sym left);
    }

-- the entries after the first is removed
pub left_is : (old new : Suffixed) (e : Entry) → IsFirstOf e old new → new.entries ≡ drop (new.base - old.base) old.entries
left_is old new e first =
    let base = first.base in
    let one : 1 ≡ new.base - old.base = omega arith in
    ap (λ (l : List Entry). drop 1 l) (sym first.entries) ∙ ap (λ (n : ℕ). drop n old.entries) one
