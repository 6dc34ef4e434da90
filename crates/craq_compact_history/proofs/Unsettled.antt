-- The index of clients' unsettled entries, after more are appended or the first ones are settled.
use Rattle.std.proofs.Common.{◌≡◌, ◌≤◌, ℕ, ◌+◌, ◌-◌, min, List, ◌++◌, length, take, drop, sym, ap, ◌∙◌, subst, arith, length-drop, length-append}
use Rattle.std.proofs.lemmas.List.{length-take, take-append-le, drop-append-le, drop-drop}
use Rattle.craq_commands.specs.declared.entry.Entry.{Entry}
use Rattle.craq_client_index.specs.Indexed.{Indexed, Tells, positions_of}

-- the index stays true when entries follow
reported_further : (x : Indexed) (es more : List Entry) → Tells x es → Tells x (es ++ more)
reported_further x es more t =
    let low = t.from in
    let high = t.to in
    let longer : length (es ++ more) ≡ length es + length more = length-append es more in
    let within : x.to - x.from ≤ length es = omega (arith, low, high) in
    record {
      from = low;
      to = omega (arith, high, longer);
      positions = λ client. t.positions client ∙ ap (positions_of client x.from) (sym (take-append-le (x.to - x.from) es more within));
    }

-- the index after entries are appended
pub reported_appended : (x y : Indexed) (base acknowledged base' : ℕ) (es more es' later : List Entry) → x.from ≡ acknowledged → base ≤ acknowledged → acknowledged ≤ base + length es → Tells x (drop (acknowledged - base) es)
    → base' ≡ base → es' ≡ es ++ more → later ≡ drop (x.to - base') es'
    → ((entries : List Entry) → Tells x entries → later ≡ drop (x.to - x.from) entries → Tells y entries) → Tells y (drop (acknowledged - base') es')
reported_appended x y base acknowledged base' es more es' later begin a b t same all rest add =
    let m : ℕ = acknowledged - base in
    let low = t.from in
    let within : m ≤ length es = omega (arith, a, b) in
    let left : drop (acknowledged - base') es' ≡ drop m es ++ more = ap (λ (k : ℕ). drop (acknowledged - k) es') same ∙ ap (drop m) all ∙ drop-append-le m es more within in
    let sum : (acknowledged - base') + (x.to - x.from) ≡ x.to - base' = omega (arith, begin, low, a, same) in
    add (drop (acknowledged - base') es')
    (subst (λ (l : List Entry). Tells x l) (sym left) (reported_further x (drop m es) more t))
    (rest ∙ ap (λ (k : ℕ). drop k es') (sym sum) ∙ sym (drop-drop (x.to - x.from) (acknowledged - base') es'))

-- the index after the first entries are settled, and entries up to some position are applied
pub reported_settled : (x y : Indexed) (base acknowledged position base' : ℕ) (es first es' : List Entry) → base ≤ acknowledged → acknowledged ≤ position → position ≤ base + length es → base ≤ base' → base' ≤ position
    → es' ≡ drop (base' - base) es → Tells x (drop (acknowledged - base) es) → first ≡ take (position - acknowledged) (drop (acknowledged - base) es)
    → ((entries : List Entry) → Tells x entries → length first ≤ length entries → first ≡ take (length first) entries → Tells y (drop (length first) entries)) → Tells y (drop (position - base') es')
reported_settled x y base acknowledged position base' es first es' a b c d e rest t is less =
    let m : ℕ = acknowledged - base in
    let n : ℕ = position - acknowledged in
    let left : length (drop m es) ≡ length es - m = length-drop m es in
    let size : length (take n (drop m es)) ≡ min n (length (drop m es)) = length-take n (drop m es) in
    let long : length first ≡ n = ap length is ∙ (let k : min n (length (drop m es)) ≡ n = omega (arith, left, a, b, c) in size ∙ k) in
    let few : length first ≤ length (drop m es) = omega (arith, long, left, a, b, c) in
    let sum : m + n ≡ (base' - base) + (position - base') = omega (arith, a, b, d, e) in
    let same : drop (length first) (drop m es) ≡ drop (position - base') es' =
    ap (λ (k : ℕ). drop k (drop m es)) long
    ∙ drop-drop n m es
    ∙ ap (λ (k : ℕ). drop k es) sum
    ∙ sym (drop-drop (position - base') (base' - base) es)
    ∙ ap (drop (position - base')) (sym rest) in
    subst (λ (l : List Entry). Tells y l) same (less (drop m es) t few (is ∙ ap (λ (k : ℕ). take k (drop m es)) (sym long)))
