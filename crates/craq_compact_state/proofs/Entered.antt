-- The versions that a prefix of entries gives an object.
use Rattle.std.proofs.Common.{◌≡◌, ℕ, zero, suc, ◌+◌, ◌-◌, ◌<◌, ◌≤◌, List, [], ◌∷◌, ◌++◌, length, take, drop, get_or, refl, sym, ◌∙◌, ap, arith, append_assoc, length-append}
use Rattle.std.proofs.lemmas.List.{append-nil, get_or-drop, length-drop, take-append-le}
use Rattle.craq_commands.specs.declared.entry.Entry.{Entry}
use Rattle.craq_node_invariant.specs.Sound.{AreInRow}
use Rattle.craq_log.specs.Suffixed.{Suffixed, length_of}
use Rattle.craq_compact_state.specs.declared.value_locations.ValueLocation.{ValueLocation}
use Rattle.craq_compact_state.specs.Indexed.{AreIndexed, written_in, written_after}
use Rattle.craq_compact_state.specs.Placed.{Placed, KeepsLater, later_of}
use Rattle.craq_compact_state.proofs.Placing.{none_more}

-- one more entry
entered_to_suc : (base : ℕ) (es : List Entry) (n : ℕ) (e : Entry) (key : List ℕ) → n < length es → e ≡ get_or es n e → written_after base (take (suc n) es) key ≡ written_after base (take n es) key ++ written_in (base + n + 1) 0 e.writes key
unfolding written_after
entered_to_suc base [] n e key low is = absurd (omega (arith, low))
entered_to_suc base (d ∷ es) zero e key low is =
    let here : base + 1 ≡ base + 0 + 1 = omega arith in
    sym (none_more (written_in (base + 1) 0 d.writes key)) ∙ ap (λ (x : Entry). written_in (base + 1) 0 x.writes key) (sym is) ∙ ap (λ (n : ℕ). written_in n 0 e.writes key) here
entered_to_suc base (d ∷ es) (suc n) e key low is =
    let there : (base + 1) + n + 1 ≡ base + suc n + 1 = omega arith in
    let first : List (ℕ × ValueLocation) = written_in (base + 1) 0 d.writes key in
    ap (λ (l : List (ℕ × ValueLocation)). first ++ l) (entered_to_suc (base + 1) es n e key (omega (arith, low)) is ∙ ap (λ (p : ℕ). written_after (base + 1) (take n es) key ++ written_in p 0 e.writes key) there)
    ∙ sym (append_assoc first (written_after (base + 1) (take n es) key) (written_in (base + suc n + 1) 0 e.writes key))

-- nothing more is indexed
pub indexed_still : (ps qs : Placed) (s : Suffixed) (done : ℕ) → AreIndexed ps s done → KeepsLater ps qs → AreIndexed qs s done
indexed_still ps qs s done indexed kept = record {
  from = indexed.from;
  to = indexed.to;
  later = λ q. kept q ∙ indexed.later q;
}

first_in_row : (front : List Entry) (n : ℕ) (e : Entry) → 0 < length front → e ≡ get_or front 0 e → AreInRow n front → e.position ≡ n
first_in_row [] n e some is row = absurd (omega (arith, some))
first_in_row (d ∷ ds) n e some is row = ap (λ (x : Entry). x.position) is ∙ row.0

-- one more entry is indexed
pub indexed_next : (ps qs : Placed) (s : Suffixed) (done : ℕ) (front : List Entry) (e : Entry) → AreIndexed ps s done → done < length_of s → front ≡ drop (done - s.base) s.entries → AreInRow (done + 1) front → e ≡ get_or front 0 e
    → ((q : List ℕ) → later_of qs q ≡ later_of ps q ++ written_in e.position 0 e.writes q) → AreIndexed qs s e.position
indexed_next ps qs s done front e indexed low rest row is more =
    let from = indexed.from in
    let n : ℕ = done - s.base in
    let few : n < length s.entries = omega arith in
    let long : length front ≡ length s.entries - n = ap length rest ∙ length-drop n s.entries in
    let some : 0 < length front = omega arith in
    let zero_more : n + 0 ≡ n = omega arith in
    let its : e ≡ get_or s.entries n e = is ∙ ap (λ (l : List Entry). get_or l 0 e) rest ∙ get_or-drop n s.entries 0 e ∙ ap (λ (m : ℕ). get_or s.entries m e) zero_more in
    let next : e.position ≡ done + 1 = first_in_row front (done + 1) e some is row in
    let here : s.base + n + 1 ≡ e.position = omega arith in
    let one : suc n ≡ e.position - s.base = omega arith in
    let low_enough : s.base ≤ e.position = omega arith in
    let high_enough : e.position ≤ length_of s = omega arith in
    record {
      from = low_enough;
      to = high_enough;
      later = λ q.
          more q ∙ ap (λ (l : List (ℕ × ValueLocation)). l ++ written_in e.position 0 e.writes q) (indexed.later q)
          ∙ ap (λ (p : ℕ). written_after s.base (take n s.entries) q ++ written_in p 0 e.writes q) (sym here)
          ∙ sym (entered_to_suc s.base s.entries n e q few its)
          ∙ ap (λ (m : ℕ). written_after s.base (take m s.entries) q) one;
    }

-- the indexed entry is the next one
pub indexed_later : (s : Suffixed) (done : ℕ) (front : List Entry) (e : Entry) → s.base ≤ done → done < length_of s → front ≡ drop (done - s.base) s.entries → AreInRow (done + 1) front → e ≡ get_or front 0 e → e.position ≡ done + 1
indexed_later s done front e from low rest row is =
    let n : ℕ = done - s.base in
    let long : length front ≡ length s.entries - n = ap length rest ∙ length-drop n s.entries in
    let some : 0 < length front = omega arith in
    first_in_row front (done + 1) e some is row

-- the index stays true when more entries follow
pub indexed_before : (ps : Placed) (s t : Suffixed) (more : List Entry) (done : ℕ) → t.base ≡ s.base → t.entries ≡ s.entries ++ more → AreIndexed ps s done → AreIndexed ps t done
indexed_before ps s t more done base entries indexed =
    let from = indexed.from in
    let to = indexed.to in
    let few : done - s.base ≤ length s.entries = omega arith in
    let taken : take (done - s.base) s.entries ≡ take (done - t.base) t.entries = sym (take-append-le (done - s.base) s.entries more few) ∙ ap (λ (l : List Entry). take (done - s.base) l) (sym entries) ∙ ap (λ (b : ℕ). take (done - b) t.entries) (sym base) in
    let long : length t.entries ≡ length (s.entries ++ more) = ap length entries in
    let sum : length (s.entries ++ more) ≡ length s.entries + length more = length-append s.entries more in
    let low : t.base ≤ done = omega arith in
    let high : done ≤ length_of t = omega arith in
    record {
      from = low;
      to = high;
      later = λ q. indexed.later q ∙ ap (λ (b : ℕ). written_after b (take (done - s.base) s.entries) q) (sym base) ∙ ap (λ (l : List Entry). written_after t.base l q) taken;
    }

-- the index stays true when the entries are unchanged
pub indexed_same : (ps : Placed) (s t : Suffixed) (done : ℕ) → t.base ≡ s.base → t.entries ≡ s.entries → AreIndexed ps s done → AreIndexed ps t done
indexed_same ps s t done base entries indexed = indexed_before ps s t [] done base (entries ∙ sym (append-nil s.entries)) indexed

none_of_none : (n : ℕ) (base : ℕ) (key : List ℕ) → [] ≡ written_after base (take n []) key
unfolding written_after
none_of_none zero base key = refl
none_of_none (suc n) base key = refl

-- without entries the index is empty
pub none_indexed : (ps : Placed) (s : Suffixed) (indexed : ℕ) → s.base ≡ indexed → s.entries ≡ [] → ((q : List ℕ) → later_of ps q ≡ []) → AreIndexed ps s indexed
none_indexed ps s indexed base none empty =
    let from : s.base ≤ indexed = omega (arith, base) in
    let to : indexed ≤ length_of s = omega (arith, base) in
    record {
      from = from;
      to = to;
      later = λ q. empty q ∙ none_of_none (indexed - s.base) s.base q ∙ ap (λ (es : List Entry). written_after s.base (take (indexed - s.base) es) q) (sym none);
    }

-- there is a next entry
pub front_some : (s : Suffixed) (done : ℕ) (front : List Entry) {t : Placed} → AreIndexed t s done → done < length_of s → front ≡ drop (done - s.base) s.entries → 0 < length front
front_some s done front indexed low rest =
    let from = indexed.from in
    let long : length front ≡ length s.entries - (done - s.base) = ap length rest ∙ length-drop (done - s.base) s.entries in
    omega arith
