-- The chain of objects, and the chains read so far.
use Rattle.std.proofs.Common.{◌≡◌, ℕ, suc, ◌+◌, ◌<◌, ◌≤◌, ◌∙◌, Bool, true, false, not, ◌||◌, cond, eqb, leb, ltb, List, [], ◌∷◌, ◌++◌, map, length, drop, get_or, Option, Some, None, is_some, refl, ap, arith, add-one, drop-cons, String, Global, string_bytes}
use Rattle.std.specs.Prelude.{Ok, Err}
use Rattle.std.specs.List.{list_any}
use Rattle.std.specs.Map.{lookup}
use Rattle.std.specs.Str.{bytes_eq}
use Rattle.std.proofs.Common.{◌⊎◌, inl, inr, length-drop}
use Rattle.std.proofs.lemmas.Bool.{or_parts, eq-eqb}
use Rattle.std.proofs.lemmas.List.{nil_from_length}
use Rattle.indexmap.specs.IndexMap.{insert_entry}
use Rattle.craq_names.specs.declared.name.ObjectId.{ObjectId}
use Rattle.craq_names.specs.declared.refusal.Refusal.{Refusal}
use Rattle.craq_names.specs.declared.refusal.Refusal.TheVariants.{UnknownChain, TwoChains, Memory, BadConfig}
use Rattle.craq_commands.specs.Transaction.{Transaction, compared, written}
use Rattle.toml.specs.Data.{item}
use Rattle.toml.specs.View.{view, items_of}
use Rattle.toml.specs.declared.value.Value.{Value}
use Rattle.craq_place.specs.Chains.{chain_of, chains_of}
use Rattle.craq_place.specs.Place.{objects_of, is_of_another, goes_elsewhere, chain_of_all, first_chain_of}
use Rattle.craq_place.specs.Plan.{Chain}
use Rattle.craq_place.specs.Reading.{has_name, chain_in, chains_from}

-- ---- objects

any_after : {A : Type 0} (p : A → Bool) (xs ys : List A) → list_any p (xs ++ ys) ≡ (list_any p xs || list_any p ys)
any_after p [] ys = refl
any_after p (x ∷ xs) ys = elim (p x) as (λ b. (b || list_any p (xs ++ ys)) ≡ ((b || list_any p xs) || list_any p ys)) [ true ↦ refl | false ↦ any_after p xs ys ]

any_mapped : {A B : Type 0} (f : A → B) (p : B → Bool) (xs : List A) → list_any p (map f xs) ≡ list_any (λ x. p (f x)) xs
any_mapped f p [] = refl
any_mapped f p (x ∷ xs) = ap (λ (b : Bool). p (f x) || b) (any_mapped f p xs)

pub elsewhere_parts : (t : Transaction) (chain : ℕ) → goes_elsewhere (objects_of t) chain
    ≡ (list_any (λ (c : ObjectId × ℕ). is_of_another chain c.0) t.compares || (list_any (is_of_another chain) t.reads || list_any (λ (w : ObjectId × List ℕ). is_of_another chain w.0) t.writes))
elsewhere_parts t chain =
    any_after (is_of_another chain) (compared t) (t.reads ++ written t)
    ∙ ap (λ (b : Bool). b || list_any (is_of_another chain) (t.reads ++ written t)) (any_mapped (λ (c : ObjectId × ℕ). c.0) (is_of_another chain) t.compares)
    ∙ ap (λ (b : Bool). list_any (λ (c : ObjectId × ℕ). is_of_another chain c.0) t.compares || b)
    (any_after (is_of_another chain) t.reads (written t) ∙ ap (λ (b : Bool). list_any (is_of_another chain) t.reads || b) (any_mapped (λ (w : ObjectId × List ℕ). w.0) (is_of_another chain) t.writes))

pub no_objects : (chains : List Chain) (os : List ObjectId) → first_chain_of os ≡ None → chain_of_all chains os ≡ Err UnknownChain
no_objects chains [] e = refl
no_objects chains (o ∷ os) e = absurd cc

-- the result for objects whose first one is on this chain
pub place_of : (chains : List Chain) (os : List ObjectId) (chain : ℕ) → first_chain_of os ≡ Some chain
    → chain_of_all chains os ≡ cond (not (ltb chain (length chains))) (Err UnknownChain) (cond (goes_elsewhere os chain) (Err TwoChains) (Ok chain))
place_of chains [] chain e = absurd cc
place_of chains (o ∷ os) chain e =
    let same : o.chain ≡ chain = cc in
    let itself : eqb o.chain chain ≡ true = eq-eqb o.chain chain same in
    rw (itself, same) refl

-- ---- chains read so far

named_before : (q : List ℕ) (es : List (String Global × List ℕ)) → is_some (lookup (λ k. bytes_eq q (string_bytes k)) es) ≡ has_name q (chains_of es)
named_before q [] = refl
named_before q (e ∷ es) =
    elim (bytes_eq q (string_bytes e.0)) as (λ b. is_some (cond b (Some e.1) (lookup (λ k. bytes_eq q (string_bytes k)) es)) ≡ (b || has_name q (chains_of es))) [ true ↦ refl | false ↦ named_before q es ]

pub is_named : (q : List ℕ) (es : List (String Global × List ℕ)) → is_some (lookup (λ k. bytes_eq q (string_bytes k)) es) ≡ has_name q (chains_of es)
is_named = named_before

pub chains_after : (es fs : List (String Global × List ℕ)) → chains_of (es ++ fs) ≡ chains_of es ++ chains_of fs
chains_after [] fs = refl
chains_after (e ∷ es) fs = ap (λ (cs : List Chain). chain_of e ∷ cs) (chains_after es fs)

-- ---- the values one after the other

next_value : (values : List Value) (i : ℕ) (v : Value) → i < length values → v ≡ get_or values i v → items_of (map view (drop i values)) ≡ item (view v) (items_of (map view (drop (i + 1) values)))
next_value values i v within is =
    let first : get_or values i v ∷ drop (suc i) values ≡ v ∷ drop (i + 1) values = rw (add-one, ← is) refl in
    ap (λ vs. items_of (map view vs)) (drop-cons values i v within ∙ first)

pub goes_on : (front : List Chain) (c : Chain) (values : List Value) (i : ℕ) (v : Value) → i < length values → v ≡ get_or values i v → chain_in (view v) ≡ Some c
    → (has_name c.0 front || leb 64 (length front)) ≡ false → chains_from front (items_of (map view (drop i values))) ≡ chains_from (front ++ c ∷ []) (items_of (map view (drop (i + 1) values)))
unfolding chains_from
goes_on front c values i v within is read free = ap (chains_from front) (next_value values i v within is) ∙ rw (read, free) refl

pub is_full : (front : List Chain) (c : Chain) (values : List Value) (i : ℕ) (v : Value) → i < length values → v ≡ get_or values i v → chain_in (view v) ≡ Some c
    → (has_name c.0 front || leb 64 (length front)) ≡ true → chains_from front (items_of (map view (drop i values))) ≡ None
unfolding chains_from
is_full front c values i v within is read full = ap (chains_from front) (next_value values i v within is) ∙ rw (read, full) refl

pub is_no_chain : (front : List Chain) (values : List Value) (i : ℕ) (v : Value) → i < length values → v ≡ get_or values i v → chain_in (view v) ≡ None → chains_from front (items_of (map view (drop i values))) ≡ None
unfolding chains_from
is_no_chain front values i v within is none = ap (chains_from front) (next_value values i v within is) ∙ rw none refl

pub stops : (e : Refusal) (front : List Chain) (values : List Value) (i : ℕ) (v : Value) (total : Option (List Chain)) → i < length values → v ≡ get_or values i v
    → (e ≡ Memory) ⊎ ((e ≡ BadConfig) × (chain_in (view v) ≡ None)) → total ≡ chains_from front (items_of (map view (drop i values))) → (e ≡ Memory) ⊎ ((e ≡ BadConfig) × (total ≡ None))
stops e front values i v total within is (inl memory) so_far = inl memory
stops e front values i v total within is (inr none) so_far = inr (none.0, so_far ∙ is_no_chain front values i v within is none.1)

pub ends : (front : List Chain) (values : List Value) (i : ℕ) → length values ≤ i → chains_from front (items_of (map view (drop i values))) ≡ Some front
unfolding chains_from
ends front values i past =
    let nothing : drop i values ≡ [] = nil_from_length (drop i values) (omega (arith, length-drop i values)) in
    ap (λ vs. chains_from front (items_of (map view vs))) nothing

-- a name that is new goes last
pub appended : (same : String Global → String Global → Bool) → ((k l : String Global) → same k l ≡ bytes_eq (string_bytes k) (string_bytes l)) → (es : List (String Global × List ℕ)) (k : String Global) (v : List ℕ)
    → has_name (string_bytes k) (chains_of es) ≡ false → insert_entry same es k v ≡ es ++ (k, v) ∷ []
appended same is [] k v h = refl
appended same is (e ∷ es) k v h =
    let o = or_parts (bytes_eq (string_bytes k) (string_bytes e.0)) (has_name (string_bytes k) (chains_of es)) h in
    let other : same k e.0 ≡ false = is k e.0 ∙ o.0 in
    rw other (ap (λ (xs : List (String Global × List ℕ)). e ∷ xs) (appended same is es k v o.1))

pub same_count : (es : List (String Global × List ℕ)) → length (chains_of es) ≡ length es
same_count [] = refl
same_count (e ∷ es) = ap suc (same_count es)
