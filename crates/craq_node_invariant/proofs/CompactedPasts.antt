-- Look-ups in a compacted past agree with those in the past, except the positions of settled
-- entries.
use Rattle.std.proofs.Common.{◌≡◌, ◌≤◌, ℕ, ◌+◌, ◌-◌, List, ◌++◌, length, take, drop, sym, ap, ◌∙◌, subst, arith, length-drop, length-append}
use Rattle.std.proofs.lemmas.List.{take-append-drop, take-append-le, drop-append-le, drop-drop}
use Rattle.std.proofs.Math.Seq.{take-add}
use Rattle.craq_commands.specs.declared.entry.Entry.{Entry}
use Rattle.craq_commands.specs.declared.state.State.{State}
use Rattle.craq_commands.specs.SingleCopy.{after_entries}
use Rattle.craq_commands.proofs.Entries.{after_entries-append}
use Rattle.craq_model.specs.Past.{Past, length_in, entries_in, newest_in, clean_in, with_entries_in, acknowledged_in}
use Rattle.craq_node_invariant.specs.Compacted.{compacted_in, HoldsCommitted}

-- ---- states after entries

after_parts : (s : State) (m n : ℕ) (es : List Entry) → after_entries (after_entries s (take m es)) (take n (drop m es)) ≡ after_entries s (take (m + n) es)
after_parts s m n es = sym (after_entries-append s (take m es) (take n (drop m es))) ∙ ap (after_entries s) (sym (take-add m n es))

-- ---- one past

nothing : (n : ℕ) → n - n ≡ 0
nothing n = omega arith

pub settled_count : (h : Past) → HoldsCommitted h → h.acknowledged - h.base ≤ length h.entries
settled_count h w = omega (arith, w.based, w.within)

-- the number of entries between the commit index and a later position
later_count : (base acknowledged n : ℕ) → base ≤ acknowledged → acknowledged ≤ n → (acknowledged - base) + (n - acknowledged) ≡ n - base
later_count base acknowledged n a b = omega arith

-- a past whose base is its commit index
abbrev past_at : ℕ → State → List Entry → Past
past_at n s es = record { base = n; base_state = s; entries = es; acknowledged = n }

same_past : (n : ℕ) (s t : State) (es fs : List Entry) → s ≡ t → es ≡ fs → past_at n s es ≡ past_at n t fs
same_past n s t es fs a b = ap (λ (x : State). past_at n x es) a ∙ ap (λ (x : List Entry). past_at n t x) b

pub compacted_length : (h : Past) → HoldsCommitted h → length_in (compacted_in h) ≡ length_in h
compacted_length h w = omega (arith, w.based, w.within, length-drop (h.acknowledged - h.base) h.entries)

pub compacted_newest : (h : Past) → newest_in (compacted_in h) ≡ newest_in h
compacted_newest h =
    sym (after_entries-append h.base_state (take (h.acknowledged - h.base) h.entries) (drop (h.acknowledged - h.base) h.entries))
    ∙ ap (after_entries h.base_state) (take-append-drop (h.acknowledged - h.base) h.entries)

pub compacted_clean : (h : Past) → clean_in (compacted_in h) ≡ clean_in h
compacted_clean h = ap (λ (n : ℕ). after_entries (clean_in h) (take n (entries_in h h.acknowledged))) (nothing h.acknowledged)

pub compacted_entries : (h : Past) (n : ℕ) → HoldsCommitted h → h.acknowledged ≤ n → entries_in (compacted_in h) n ≡ entries_in h n
compacted_entries h n w le =
    drop-drop (n - h.acknowledged) (h.acknowledged - h.base) h.entries
    ∙ ap (λ (k : ℕ). drop k h.entries) (later_count h.base h.acknowledged n w.based le)

-- compacting a past twice is compacting it once
pub compacted_twice : (h : Past) → compacted_in (compacted_in h) ≡ compacted_in h
compacted_twice h =
    let es : List Entry = entries_in h h.acknowledged in
    ap (λ (n : ℕ). past_at h.acknowledged (after_entries (clean_in h) (take n es)) (drop n es)) (nothing h.acknowledged)

pub compacted_append : (h : Past) (es : List Entry) → HoldsCommitted h → compacted_in (with_entries_in h es) ≡ with_entries_in (compacted_in h) es
compacted_append h es w =
    let m : ℕ = h.acknowledged - h.base in
    let le : m ≤ length h.entries = settled_count h w in
    same_past h.acknowledged (after_entries h.base_state (take m (h.entries ++ es))) (clean_in h) (drop m (h.entries ++ es)) (drop m h.entries ++ es)
    (ap (after_entries h.base_state) (take-append-le m h.entries es le)) (drop-append-le m h.entries es le)

pub compacted_acknowledge : (h : Past) (n : ℕ) → HoldsCommitted h → h.acknowledged ≤ n → compacted_in (acknowledged_in (compacted_in h) n) ≡ compacted_in (acknowledged_in h n)
compacted_acknowledge h n w le =
    let m : ℕ = h.acknowledged - h.base in
    let sum : m + (n - h.acknowledged) ≡ n - h.base = later_count h.base h.acknowledged n w.based le in
    same_past n (after_entries (clean_in h) (take (n - h.acknowledged) (drop m h.entries))) (clean_in (acknowledged_in h n)) (drop (n - h.acknowledged) (drop m h.entries)) (drop (n - h.base) h.entries)
    (after_parts h.base_state m (n - h.acknowledged) h.entries ∙ ap (λ (k : ℕ). after_entries h.base_state (take k h.entries)) sum)
    (compacted_entries h n w le)

-- ---- two pasts

-- pasts that are equal after compaction
pub record AreAlike (h k : Past) : Type 0 where
  pub first : HoldsCommitted h
  pub second : HoldsCommitted k
  pub same : compacted_in h ≡ compacted_in k

pub alike_compacted : (h : Past) → HoldsCommitted h → AreAlike (compacted_in h) h
alike_compacted h w = record {
  first = record { based = omega arith; within = omega arith };
  second = w;
  same = compacted_twice h;
}

pub same_acknowledged : (h k : Past) → AreAlike h k → h.acknowledged ≡ k.acknowledged
same_acknowledged h k a = ap (λ (x : Past). x.acknowledged) a.same

pub same_clean : (h k : Past) → AreAlike h k → clean_in h ≡ clean_in k
same_clean h k a = ap (λ (x : Past). x.base_state) a.same

pub same_length : (h k : Past) → AreAlike h k → length_in h ≡ length_in k
same_length h k a = sym (compacted_length h a.first) ∙ ap (λ (x : Past). length_in x) a.same ∙ compacted_length k a.second

pub same_newest : (h k : Past) → AreAlike h k → newest_in h ≡ newest_in k
same_newest h k a = sym (compacted_newest h) ∙ ap (λ (x : Past). newest_in x) a.same ∙ compacted_newest k

pub same_entries : (h k : Past) (n : ℕ) → AreAlike h k → k.acknowledged ≤ n → entries_in h n ≡ entries_in k n
same_entries h k n a le =
    let e : h.acknowledged ≡ k.acknowledged = same_acknowledged h k a in
    sym (compacted_entries h n a.first (omega (arith, e, le))) ∙ ap (λ (x : Past). entries_in x n) a.same ∙ compacted_entries k n a.second le

pub same_later : (h k : Past) → AreAlike h k → entries_in h h.acknowledged ≡ entries_in k k.acknowledged
same_later h k a = ap (λ (x : Past). x.entries) a.same

-- alike pasts stay alike with more entries, and with a higher commit index
pub alike_append : (h k : Past) (es : List Entry) → AreAlike h k → AreAlike (with_entries_in h es) (with_entries_in k es)
alike_append h k es a = record {
  first = record { based = a.first.based; within = omega (arith, a.first.within, length-append h.entries es) };
  second = record { based = a.second.based; within = omega (arith, a.second.within, length-append k.entries es) };
  same = compacted_append h es a.first ∙ ap (λ (x : Past). with_entries_in x es) a.same ∙ sym (compacted_append k es a.second);
}

pub alike_acknowledge : (h k : Past) (n : ℕ) → AreAlike h k → k.acknowledged ≤ n → n ≤ length_in k → AreAlike (acknowledged_in h n) (acknowledged_in k n)
alike_acknowledge h k n a above below =
    let e : h.acknowledged ≡ k.acknowledged = same_acknowledged h k a in
    let l : length_in h ≡ length_in k = same_length h k a in
    record {
      first = record { based = omega (arith, a.first.based, e, above); within = omega (arith, l, below) };
      second = record { based = omega (arith, a.second.based, above); within = below };
      same = sym (compacted_acknowledge h n a.first (omega (arith, e, above)))
          ∙ ap (λ (x : Past). compacted_in (acknowledged_in x n)) a.same
          ∙ compacted_acknowledge k n a.second above;
    }

-- alike pasts stay alike with all their entries committed
pub alike_committed : (h k : Past) → AreAlike h k → AreAlike (acknowledged_in h (length_in h)) (acknowledged_in k (length_in k))
alike_committed h k a =
    let P : ℕ → Type 0 = λ n. AreAlike (acknowledged_in h n) (acknowledged_in k (length_in k)) in
    subst P (sym (same_length h k a)) (alike_acknowledge h k (length_in k) a a.second.within (omega arith))
