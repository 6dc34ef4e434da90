-- The stored form represents the same past while settled entries are applied to its state.
use Rattle.std.proofs.Common.{◌≡◌, ◌≤◌, ℕ, ◌+◌, ◌-◌, List, [], length, take, drop, sym, ap, ◌∙◌, arith}
use Rattle.craq_commands.specs.declared.entry.Entry.{Entry}
use Rattle.craq_commands.specs.declared.state.State.{State}
use Rattle.craq_commands.specs.SingleCopy.{after_entries}
use Rattle.craq_model.specs.Past.{Past, length_in, acknowledged_in, installed_in}
use Rattle.craq_node_invariant.specs.Compacted.{compacted_in, HoldsCommitted}
use Rattle.craq_node_invariant.proofs.CompactedPasts.{compacted_acknowledge, compacted_length}
use Rattle.craq_compact_history.specs.Stored.{stored}

-- a past whose base is its commit index
abbrev past_at : ℕ → State → List Entry → Past
past_at n s es = record { base = n; base_state = s; entries = es; acknowledged = n }

same_count : (base n : ℕ) → n ≡ (base + n) - base
same_count base n = omega arith

-- a prefix of the entries is applied to the state
pub applied_many : (base acknowledged n : ℕ) (s : State) (es : List Entry) → base + n ≤ acknowledged → n ≤ length es
    → compacted_in (stored (base + n) (after_entries s (take n es)) (drop n es) acknowledged) ≡ compacted_in (stored base s es acknowledged)
applied_many base acknowledged n s es a b =
    ap (λ (k : ℕ). compacted_in (stored (base + n) (after_entries s (take k es)) (drop k es) acknowledged)) (same_count base n)
    ∙ compacted_acknowledge (stored base s es (base + n)) acknowledged (record { based = omega arith; within = omega (arith, b) }) a

-- more entries are settled, and those up to some position are applied to the state
pub applied_up_to : (h : Past) (position base : ℕ) (s : State) (es : List Entry) → HoldsCommitted h → HoldsCommitted (acknowledged_in (compacted_in h) position)
    → h.base ≤ base → base ≤ position → s ≡ after_entries h.base_state (take (base - h.base) h.entries) → es ≡ drop (base - h.base) h.entries
    → compacted_in (stored base s es position) ≡ compacted_in (acknowledged_in (compacted_in h) position)
applied_up_to h position base s es w next low high e f =
    let n : ℕ = base - h.base in
    let sum : h.base + n ≡ base = omega arith in
    let same : length_in (compacted_in h) ≡ length_in h = compacted_length h w in
    let some : n ≤ length h.entries = omega (arith, next.within) in
    ap (λ (x : State). compacted_in (stored base x es position)) e
    ∙ ap (λ (xs : List Entry). compacted_in (stored base (after_entries h.base_state (take n h.entries)) xs position)) f
    ∙ ap (λ (k : ℕ). compacted_in (stored k (after_entries h.base_state (take n h.entries)) (drop n h.entries) position)) (sym sum)
    ∙ applied_many h.base position n h.base_state h.entries (omega arith) some
    ∙ sym (compacted_acknowledge h position w next.based)

nothing_left : (n : ℕ) (s : State) → past_at n (after_entries s (take (n - n) [])) (drop (n - n) []) ≡ past_at n s []
nothing_left n s = let none : n - n ≡ 0 = omega arith in ap (λ (k : ℕ). past_at n (after_entries s (take k [])) (drop k [])) none

-- a state without entries
pub installed_is : (n : ℕ) (s t : State) → t ≡ s → compacted_in (stored n t [] n) ≡ installed_in n s
installed_is n s t e = nothing_left n t ∙ ap (λ (x : State). past_at n x []) e

pub holds : (base acknowledged : ℕ) (s : State) (es : List Entry) → base ≤ acknowledged → acknowledged ≤ base + length es → HoldsCommitted (stored base s es acknowledged)
holds base acknowledged s es a b = record { based = a; within = b }

-- if all settled entries are applied, the stored form is the past that it represents
pub all_applied : (base n : ℕ) (s : State) (es : List Entry) → base ≡ n → stored base s es n ≡ compacted_in (stored base s es n)
all_applied base n s es e =
    let none : n - base ≡ 0 = omega arith in
    ap (λ (k : ℕ). stored k s es n) e ∙ sym (ap (λ (k : ℕ). past_at n (after_entries s (take k es)) (drop k es)) none)
