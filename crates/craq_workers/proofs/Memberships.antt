-- A status tells a membership of each chain.
use Rattle.std.proofs.Common.{◌≡◌, ◌<◌, ◌≤◌, ℕ, ◌+◌, List, [], ◌∷◌, ◌++◌, map, take, drop, length, get_or, sym, ap, subst, ◌∙◌}
use Rattle.std.proofs.lemmas.List.{drop_more, map-append, map_more, take_all}
use Rattle.craq_model.specs.declared.config.Config.{Config}
use Rattle.craq_epochs.specs.Mastered.{Mastered}
use Rattle.craq_locked_chain.specs.Membered.{AreMembershipsOf, IsMembershipOf}
use Rattle.craq_workers.proofs.Names.{reported_more}

pushed : (firsts : List Mastered) (first : Mastered) (configs : List Config) (config : Config) → AreMembershipsOf firsts configs → IsMembershipOf first config → AreMembershipsOf (firsts ++ first ∷ []) (configs ++ config ∷ [])
pushed [] first [] config h is = (is, tt)
pushed [] first (c ∷ cs) config h is = absurd h
pushed (m ∷ ms) first [] config h is = absurd h
pushed (m ∷ ms) first (c ∷ cs) config (here, rest) is = (here, pushed ms first cs config rest is)

-- of one chain more
pub next_reported : {A B : Type 0} (f : A → Mastered) (g : B → Config) (cs : List A) (i : ℕ) (c : A) (old new : List B) (s : B)
    → i < length cs → c ≡ get_or cs i c → new ≡ old ++ s ∷ [] → IsMembershipOf (f c) (g s) → AreMembershipsOf (map f (take i cs)) (map g old) → AreMembershipsOf (map f (take (i + 1) cs)) (map g new)
next_reported {A} {B} f g cs i c old new s within at grown is h =
    let masters : map f (take (i + 1) cs) ≡ map f (take i cs) ++ f c ∷ [] = map_more f cs i c within ∙ ap (λ (x : A). map f (take i cs) ++ f x ∷ []) (sym at) in
    let configs : map g new ≡ map g old ++ g s ∷ [] = ap (map g) grown ∙ map-append g old (s ∷ []) in
    subst (λ (ms : List Mastered). AreMembershipsOf ms (map g new)) (sym masters)
    (subst (λ (xs : List Config). AreMembershipsOf (map f (take i cs) ++ f c ∷ []) xs) (sym configs) (pushed (map f (take i cs)) (f c) (map g old) (g s) h is))

-- under its name
pub next_same : {A B X : Type 0} (n : B → X) (m : A → X) (cs : List A) (i : ℕ) (c : A) (old new : List B) (s : B)
    → i < length cs → c ≡ get_or cs i c → new ≡ old ++ s ∷ [] → n s ≡ m c → map n old ++ map m (drop i cs) ≡ map m cs → map n new ++ map m (drop (i + 1) cs) ≡ map m cs
next_same {A} {B} {X} n m cs i c old new s within at grown same h =
    let rest = map m (drop (i + 1) cs) in
    let is : drop i cs ≡ c ∷ drop (i + 1) cs = drop_more cs i c within ∙ ap (λ (x : A). x ∷ drop (i + 1) cs) (sym at) in
    reported_more old new s n rest (map m cs) grown
    (ap (λ (x : X). map n old ++ (x ∷ rest)) same ∙ ap (λ (z : List A). map n old ++ map m z) (sym is) ∙ h)

-- of all chains
pub all_reported : {A : Type 0} (f : A → Mastered) (cs : List A) (i : ℕ) (configs : List Config) → length cs ≤ i → AreMembershipsOf (map f (take i cs)) configs → AreMembershipsOf (map f cs) configs
all_reported {A} f cs i configs past h = subst (λ (xs : List A). AreMembershipsOf (map f xs) configs) (take_all i cs past) h
