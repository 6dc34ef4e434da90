-- The positions of a client's entries, during a pass over the entries.
use Rattle.std.proofs.Common.{◌≡◌, ℕ, zero, suc, ◌+◌, ◌<◌, Bool, true, false, cond, List, [], ◌∷◌, ◌++◌, length, take, drop, get_or, Option, Some, None, refl, sym, ◌∙◌, ap, arith, add-one, append_assoc, drop-cons}
use Rattle.std.specs.Prelude.{unwrap_or, if◌then◌else◌, ◌==◌}
use Rattle.std.specs.List.{last_or}
use Rattle.craq_commands.specs.declared.entry.Entry.{Entry}
use Rattle.craq_model.specs.Past.{last_position}
use Rattle.craq_node_invariant.specs.Sound.{AreInRow}
use Rattle.craq_client_index.specs.Indexed.{positions_of}

-- the first entry's position is in front if the entry is the client's
abbrev first_and : Bool → ℕ → List ℕ → List ℕ
first_and b position ps = cond b (position ∷ ps) ps

-- one more entry
pub one_entry_more : (q after : ℕ) (es : List Entry) (n : ℕ) (e : Entry) → n < length es → e ≡ get_or es n e → positions_of q after (take (suc n) es) ≡ positions_of q after (take n es) ++ (if e.client == q then (after + n + 1) ∷ [] else [])
unfolding positions_of
one_entry_more q after [] n e low is = absurd (omega (arith, low))
one_entry_more q after (d ∷ es) zero e low is =
    let here : after + 1 ≡ after + 0 + 1 = omega arith in
    ap (λ (x : Entry). cond (x.client == q) ((after + 1) ∷ []) []) (sym is) ∙ ap (λ (p : ℕ). cond (e.client == q) (p ∷ []) []) here
one_entry_more q after (d ∷ es) (suc n) e low is =
    let there : (after + 1) + n + 1 ≡ after + suc n + 1 = omega arith in
    let more : List ℕ = if e.client == q then (after + suc n + 1) ∷ [] else [] in
    let rest : List ℕ = positions_of q (after + 1) (take n es) in
    let split : (b : Bool) → first_and b (after + 1) (rest ++ more) ≡ first_and b (after + 1) rest ++ more = elim [ true ↦ refl | false ↦ refl ] in
    ap (first_and (d.client == q) (after + 1)) (one_entry_more q (after + 1) es n e (omega (arith, low)) is ∙ ap (λ (p : ℕ). rest ++ (if e.client == q then p ∷ [] else [])) there)
    ∙ split (d.client == q)

-- one entry is removed
pub one_entry_less : (q after : ℕ) (e : Entry) (es : List Entry) → drop (if e.client == q then 1 else 0) (positions_of q after (e ∷ es)) ≡ positions_of q (after + 1) es
unfolding positions_of
one_entry_less q after e es =
    let rest : List ℕ = positions_of q (after + 1) es in
    let split : (b : Bool) → drop (if b then 1 else 0) (first_and b (after + 1) rest) ≡ rest = elim [ true ↦ refl | false ↦ refl ] in
    split (e.client == q)

pub no_entries : (q after : ℕ) → positions_of q after [] ≡ []
unfolding positions_of
no_entries q after = refl

-- a client's newest entry is at the last of its positions
last_noted : (client after f : ℕ) (o : Option ℕ) (es : List Entry) → AreInRow (after + 1) es → last_position client (unwrap_or o f) es ≡ unwrap_or (last_or o (positions_of client after es)) f
unfolding positions_of last_position
last_noted client after f o [] row = refl
last_noted client after f o (e ∷ es) row =
    let split : (b : Bool) → last_position client (if b then e.position else unwrap_or o f) es ≡ unwrap_or (last_or o (first_and b (after + 1) (positions_of client (after + 1) es))) f = elim [
      | true ↦ ap (λ (p : ℕ). last_position client p es) row.0 ∙ last_noted client (after + 1) f (Some (after + 1)) es row.1
      | false ↦ last_noted client (after + 1) f o es row.1
    ] in
    split (e.client == client)

last_further : (client f : ℕ) (xs ys : List Entry) → last_position client f (xs ++ ys) ≡ last_position client (last_position client f xs) ys
unfolding last_position
last_further client f [] ys = refl
last_further client f (x ∷ xs) ys = last_further client (if x.client == client then x.position else f) xs ys

pub newest_noted : (client after : ℕ) (xs ys : List Entry) (ps : List ℕ) → AreInRow (after + 1) xs → ps ≡ positions_of client after xs → last_position client (unwrap_or (last_or None ps) after) ys ≡ last_position client after (xs ++ ys)
newest_noted client after xs ys ps row is =
    ap (λ (l : List ℕ). last_position client (unwrap_or (last_or None l) after) ys) is
    ∙ ap (λ (p : ℕ). last_position client p ys) (sym (last_noted client after after None xs row))
    ∙ sym (last_further client after xs ys)

-- the last position is the one at the last index
pub newest_is : (ps : List ℕ) (i p none : ℕ) → i + 1 ≡ length ps → p ≡ get_or ps i p → p ≡ unwrap_or (last_or None ps) none
newest_is [] i p none count is = absurd (omega (arith, count))
newest_is (x ∷ []) i p none count is = let first : i ≡ 0 = omega (arith, count) in is ∙ ap (λ (n : ℕ). get_or (x ∷ []) n p) first
newest_is (x ∷ y ∷ ys) zero p none count is = absurd (omega (arith, count))
newest_is (x ∷ y ∷ ys) (suc i) p none count is = newest_is (y ∷ ys) i p none (omega (arith, count)) is

-- the positions of concatenated entries
pub positions_further : (q after : ℕ) (xs ys : List Entry) → positions_of q after (xs ++ ys) ≡ positions_of q after xs ++ positions_of q (after + length xs) ys
unfolding positions_of
positions_further q after [] ys = let here : after ≡ after + 0 = omega arith in ap (λ (n : ℕ). positions_of q n ys) here
positions_further q after (x ∷ xs) ys =
    let there : after + 1 + length xs ≡ after + length (x ∷ xs) = omega arith in
    let first : List ℕ = positions_of q (after + 1) xs in
    let rest : List ℕ = positions_of q (after + length (x ∷ xs)) ys in
    let split : (b : Bool) → first_and b (after + 1) (first ++ rest) ≡ first_and b (after + 1) first ++ rest = elim [ true ↦ refl | false ↦ refl ] in
    ap (first_and (x.client == q) (after + 1)) (positions_further q (after + 1) xs ys ∙ ap (λ (n : ℕ). first ++ positions_of q n ys) there) ∙ split (x.client == q)

-- the positions after one more entry is indexed
pub more_at : (q after i client : ℕ) (es : List Entry) (e : Entry) (first old new : List ℕ) → i < length es → e ≡ get_or es i e → client ≡ e.client → new ≡ old ++ (if client == q then (after + i + 1) ∷ [] else []) → old ≡ first ++ positions_of q after (take i es) → new ≡ first ++ positions_of q after (take (i + 1) es)
more_at q after i client es e first old new low is its more so =
    let last : List ℕ = if e.client == q then (after + i + 1) ∷ [] else [] in
    more
    ∙ ap (λ (k : ℕ). old ++ (if k == q then (after + i + 1) ∷ [] else [])) its
    ∙ ap (λ (l : List ℕ). l ++ last) so
    ∙ append_assoc first (positions_of q after (take i es)) last
    ∙ ap (λ (l : List ℕ). first ++ l) (sym (one_entry_more q after es i e low is))
    ∙ ap (λ (n : ℕ). first ++ positions_of q after (take n es)) (sym (add-one i))

-- the positions after one entry is removed from the index
pub less_at : (q after i client : ℕ) (es later : List Entry) (e : Entry) (old new : List ℕ) → i < length es → e ≡ get_or es i e → client ≡ e.client → new ≡ drop (if client == q then 1 else 0) old → old ≡ positions_of q (after + i) (drop i es ++ later) → new ≡ positions_of q (after + (i + 1)) (drop (i + 1) es ++ later)
less_at q after i client es later e old new low is its less so =
    let front : drop i es ≡ e ∷ drop (suc i) es = drop-cons es i e low ∙ ap (λ (x : Entry). x ∷ drop (suc i) es) (sym is) in
    let there : after + i + 1 ≡ after + (i + 1) = omega arith in
    less
    ∙ ap (λ (k : ℕ). drop (if k == q then 1 else 0) old) its
    ∙ ap (drop (if e.client == q then 1 else 0)) (so ∙ ap (λ (l : List Entry). positions_of q (after + i) (l ++ later)) front)
    ∙ one_entry_less q (after + i) e (drop (suc i) es ++ later)
    ∙ ap (λ (n : ℕ). positions_of q n (drop (suc i) es ++ later)) there
    ∙ ap (λ (n : ℕ). positions_of q (after + (i + 1)) (drop n es ++ later)) (sym (add-one i))
