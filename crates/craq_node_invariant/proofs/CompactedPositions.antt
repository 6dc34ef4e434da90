-- The position of a client's newest entry: a compacted past may give another, if both are settled.
use Rattle.std.proofs.Common.{◌≡◌, ◌≤◌, ◌==◌, ◌⊎◌, ℕ, ◌+◌, ◌-◌, Bool, true, false, cond, List, [], ◌∷◌, ◌++◌, length, take, drop, refl, sym, ap, ◌∙◌, arith, inl, inr}
use Rattle.std.proofs.lemmas.Bool.{cond_both}
use Rattle.std.proofs.lemmas.List.{take-append-drop, length-take-le}
use Rattle.craq_commands.specs.declared.entry.Entry.{Entry}
use Rattle.craq_model.specs.Past.{Past, last_position}
use Rattle.craq_node_invariant.specs.Sound.{AreInRow}
use Rattle.craq_node_invariant.proofs.Rows.{row_take}
use Rattle.craq_node_invariant.specs.Compacted.{compacted_in, HoldsCommitted}

last_both : (client found : ℕ) (es fs : List Entry) → last_position client found (es ++ fs) ≡ last_position client (last_position client found es) fs
unfolding last_position
last_both client found [] fs = refl
last_both client found (e ∷ es) fs = last_both client (if_own e.position found (e.client == client)) es fs
  where
    if_own : ℕ → ℕ → Bool → ℕ
    if_own x y b = cond b x y

-- it depends only on the entries, or none is the client's
last_reads : (client : ℕ) (es : List Entry) → ((m n : ℕ) → last_position client m es ≡ last_position client n es) ⊎ ((m : ℕ) → last_position client m es ≡ m)
unfolding last_position
last_reads client [] = inr (λ m. refl)
last_reads client (e ∷ es) =
    let Same : Bool → Type 0 = λ b. (m n : ℕ) → last_position client (cond b e.position m) es ≡ last_position client (cond b e.position n) es in
    let Given : Bool → Type 0 = λ b. (m : ℕ) → last_position client (cond b e.position m) es ≡ m in
    let by : ((m : ℕ) → last_position client m es ≡ m) → (b : Bool) → Same b ⊎ Given b = λ g. elim [ true ↦ inl (λ m n. refl) | false ↦ inr (λ m. g m) ] in
    elim (last_reads client es) [
      | inl same ↦ inl (λ m n. same (cond (e.client == client) e.position m) (cond (e.client == client) e.position n))
      | inr given ↦ by given (e.client == client)
    ]

-- it is at most the last position
last_within : (client found position : ℕ) (es : List Entry) → AreInRow (position + 1) es → found ≤ position + length es → last_position client found es ≤ position + length es
unfolding last_position
last_within client found position [] r h = h
last_within client found position (e ∷ es) r h =
    let next : ℕ = cond (e.client == client) e.position found in
    let low : next ≤ position + 1 + length es = cond_both (e.client == client) e.position found (λ (n : ℕ). n ≤ position + 1 + length es) (λ t. omega (arith, r.0)) (λ t. omega (arith, h)) in
    let rest : last_position client next es ≤ position + 1 + length es = last_within client next (position + 1) es r.1 low in
    omega (arith, rest)

-- the newest position of a client's entries
abbrev pub last_in : Past → ℕ → ℕ
last_in h client = last_position client h.base h.entries

-- positions that are equal, or both of settled entries
abbrev pub AreLast : Past → ℕ → ℕ → Type 0
AreLast k m n = (m ≡ n) ⊎ ((m ≤ k.acknowledged) × (n ≤ k.acknowledged))

pub last_compacted : (k : Past) (client : ℕ) → HoldsCommitted k → AreInRow (k.base + 1) k.entries → AreLast k (last_in (compacted_in k) client) (last_in k client)
last_compacted k client w r =
    let m : ℕ = k.acknowledged - k.base in
    let settled : List Entry = take m k.entries in
    let later : List Entry = drop m k.entries in
    let before : ℕ = last_position client k.base settled in
    let whole : last_position client before later ≡ last_in k client =
    sym (last_both client k.base settled later) ∙ ap (λ (es : List Entry). last_position client k.base es) (take-append-drop m k.entries)
    in
    let count : length settled ≡ m = length-take-le m k.entries (omega (arith, w.based, w.within)) in
    let low : before ≤ k.base + length settled = last_within client k.base k.base settled (row_take (k.base + 1) m k.entries r) (omega arith) in
    elim (last_reads client later) [
      | inl same ↦ inl (same k.acknowledged before ∙ whole)
      | inr given ↦ let one : last_in (compacted_in k) client ≡ k.acknowledged = given k.acknowledged in
          let two : before ≡ last_in k client = sym (given before) ∙ whole in
          inr (omega (arith, one), omega (arith, two, low, count, w.based))
    ]
