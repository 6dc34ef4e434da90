-- Lists of positions after the list of one client is written.
use Rattle.std.proofs.Common.{◌≡◌, ℕ, Bool, true, false, cond, List, [], ◌∷◌, ◌++◌, drop, Option, Some, None, refl, sym, ◌∙◌, ap, rules}
use Rattle.std.specs.Prelude.{Result, Ok, Err, OnOk, unwrap_or, if◌then◌else◌, ◌==◌}
use Rattle.std.specs.Ordering.{nat_cmp, is_eq}
use Rattle.std.specs.declared.cmp.Ordering.{Ordering}
use Rattle.std.specs.declared.cmp.Ordering.TheVariants.{Less, Equal, Greater}
use Rattle.std.specs.BTreeMap.{is_at}
use Rattle.std.specs.Result.{is_err}
use Rattle.std.specs.FinMap.{nat_cmp-IsAntisymmetric}
use Rattle.craq_client_index.specs.Indexed.{Placed, place_of, noted_of}

-- one client has these positions, and every other client the ones it had
abbrev pub IsPlaced : Placed → Placed → ℕ → List ℕ → Type 0
IsPlaced ps qs client v = (q : ℕ) → place_of qs q ≡ cond (is_at (nat_cmp client) q) (Some v) (place_of ps q)

noted_equal : (client q : ℕ) → is_at (nat_cmp client) q ≡ true → client ≡ q
noted_equal client q h =
    let split : (r : Ordering) → nat_cmp client q ≡ r → is_eq r ≡ true → client ≡ q = elim [ Less ↦ λ e h. cc | Equal ↦ λ e h. nat_cmp-IsAntisymmetric client q e | Greater ↦ λ e h. cc ] in
    split (nat_cmp client q) refl h

is_eq_same : (x y : ℕ) → (x == y) ≡ is_at (nat_cmp x) y
is_eq_same x y = search rules

-- the positions of each client after those of one are changed
noted_changed : (ps qs : Placed) (client : ℕ) (v : List ℕ) (f : List ℕ → List ℕ) → IsPlaced ps qs client v → v ≡ f (noted_of ps client) → (q : ℕ) → noted_of qs q ≡ cond (client == q) (f (noted_of ps q)) (noted_of ps q)
noted_changed ps qs client v f at is q =
    let split : (b : Bool) → is_at (nat_cmp client) q ≡ b → unwrap_or (cond b (Some v) (place_of ps q)) [] ≡ cond b (f (noted_of ps q)) (noted_of ps q) = elim [
      | true ↦ λ e. let same : client ≡ q = noted_equal client q e in is ∙ ap (λ (k : ℕ). f (noted_of ps k)) same
      | false ↦ λ e. refl
    ] in
    ap (λ (o : Option (List ℕ)). unwrap_or o []) (at q) ∙ split (is_at (nat_cmp client) q) refl ∙ ap (λ b. cond b (f (noted_of ps q)) (noted_of ps q)) (sym (is_eq_same client q))

pub none_more : (l : List ℕ) → l ≡ l ++ []
none_more [] = refl
none_more (p ∷ l) = ap (λ (t : List ℕ). p ∷ t) (none_more l)

one_more : (b : Bool) (position : ℕ) (l : List ℕ) → cond b (l ++ position ∷ []) l ≡ l ++ (if b then position ∷ [] else [])
one_more true position l = refl
one_more false position l = none_more l

first_gone : (b : Bool) (l : List ℕ) → cond b (drop 1 l) l ≡ drop (if b then 1 else 0) l
first_gone true l = refl
first_gone false l = refl

same_either : (b : Bool) (l : List ℕ) → cond b l l ≡ l
same_either true l = refl
same_either false l = refl

pub positions_there : (ps : Placed) (client : ℕ) (was : List ℕ) → Some was ≡ place_of ps client → was ≡ noted_of ps client
positions_there ps client was is = ap (λ (o : Option (List ℕ)). unwrap_or o []) is

pub none_there : (ps : Placed) (client : ℕ) → None ≡ place_of ps client → [] ≡ noted_of ps client
none_there ps client is = ap (λ (o : Option (List ℕ)). unwrap_or o []) is

-- one position is appended
pub noted_more : (ps qs : Placed) (client position : ℕ) (was now : List ℕ) → Some was ≡ place_of ps client → now ≡ was ++ position ∷ [] → IsPlaced ps qs client now → (q : ℕ) → noted_of qs q ≡ noted_of ps q ++ (if client == q then position ∷ [] else [])
noted_more ps qs client position was now is more at q =
    noted_changed ps qs client now (λ l. l ++ position ∷ []) at (more ∙ ap (λ (l : List ℕ). l ++ position ∷ []) (positions_there ps client was is)) q ∙ one_more (client == q) position (noted_of ps q)

-- the first position of a client without a list
pub noted_first : (ps qs : Placed) (client position : ℕ) (was now : List ℕ) → place_of ps client ≡ None → was ≡ [] → now ≡ was ++ position ∷ [] → IsPlaced ps qs client now → (q : ℕ) → noted_of qs q ≡ noted_of ps q ++ (if client == q then position ∷ [] else [])
noted_first ps qs client position was now none empty more at q =
    noted_changed ps qs client now (λ l. l ++ position ∷ []) at (more ∙ ap (λ (l : List ℕ). l ++ position ∷ []) (empty ∙ none_there ps client (sym none))) q ∙ one_more (client == q) position (noted_of ps q)

-- the positions are unchanged
pub noted_same : (ps qs : Placed) (client : ℕ) (was now : List ℕ) → Some was ≡ place_of ps client → now ≡ was → IsPlaced ps qs client now → (q : ℕ) → noted_of qs q ≡ noted_of ps q
noted_same ps qs client was now is same at q = noted_changed ps qs client now (λ l. l) at (same ∙ positions_there ps client was is) q ∙ same_either (client == q) (noted_of ps q)

-- the oldest position is removed
pub noted_less : (ps qs : Placed) (client : ℕ) (was now : List ℕ) → Some was ≡ place_of ps client → now ≡ drop 1 was → IsPlaced ps qs client now → (q : ℕ) → noted_of qs q ≡ drop (if client == q then 1 else 0) (noted_of ps q)
noted_less ps qs client was now is less at q =
    noted_changed ps qs client now (drop 1) at (less ∙ ap (drop 1) (positions_there ps client was is)) q ∙ first_gone (client == q) (noted_of ps q)

-- nothing is removed for a client without a list
pub noted_none : (ps qs : Placed) (client : ℕ) → qs ≡ ps → None ≡ place_of ps client → (q : ℕ) → noted_of qs q ≡ drop (if client == q then 1 else 0) (noted_of ps q)
noted_none ps qs client same none q =
    let split : (b : Bool) → (client == q) ≡ b → noted_of ps q ≡ drop (if b then 1 else 0) (noted_of ps q) = elim [
      | true ↦ λ e. let it : client ≡ q = noted_equal client q (sym (is_eq_same client q) ∙ e) in let empty : noted_of ps q ≡ [] = ap (noted_of ps) (sym it) ∙ sym (none_there ps client none) in empty ∙ sym (ap (drop 1) empty)
      | false ↦ λ e. refl
    ] in
    ap (λ (x : Placed). noted_of x q) same ∙ split (client == q) refl

clash : true ≡ false → ⊥
clash h = cc

-- a fact that holds if a call succeeded
pub not_err : {T E P : Type 0} (r : Result T E) → is_err r ≡ false → OnOk r P → P
not_err (Ok x) h p = p
not_err (Err e) h p = absurd (clash h)
