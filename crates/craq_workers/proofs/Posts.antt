-- The workers of a chain's members so far, and of the chains so far.
use Rattle.std.proofs.Common.{◌≡◌, ◌≤◌, ◌<◌, ℕ, Bool, true, false, ◌+◌, List, [], ◌∷◌, ◌++◌, take, drop, length, get_or, Option, Some, Ok, refl, sym, ap, ◌∙◌, append_assoc}
use Rattle.std.proofs.lemmas.Grind.{flat_map-append}
use Rattle.std.proofs.lemmas.List.{append-nil, drop_all, take_more}
use Rattle.craq_names.specs.declared.name.NodeName.{NodeName}
use Rattle.craq_place.specs.Place.{chain_at}
use Rattle.craq_place.specs.Plan.{Chain}
use Rattle.craq_workers.specs.Posts.{Master, Post, chain_posts, member_posts, node_posts}
use Rattle.craq_workers.proofs.Names.{begins}

-- those of a node more
members_more : (chain_threads : Bool) (chain : ℕ) (ms : List ℕ) (n : ℕ) → member_posts chain_threads chain (ms ++ n ∷ []) ≡ member_posts chain_threads chain ms ++ node_posts chain_threads (Some (record { chain = chain; node = n }))
members_more false chain ms n = flat_map-append (λ (m : ℕ). node_posts false (Some (record { chain = chain; node = m }))) ms (n ∷ [])
members_more true chain ms n = refl

-- the workers of one member more
pub next_posted : (chain_threads : Bool) (chain : ℕ) (ms : List ℕ) (i n : ℕ) (first now new : List Post) (name : Option NodeName)
    → i < length ms → n ≡ get_or ms i n → name ≡ Some (record { chain = chain; node = n }) → now ≡ first ++ member_posts chain_threads chain (take i ms) → new ≡ now ++ node_posts chain_threads name
    → new ≡ first ++ member_posts chain_threads chain (take (i + 1) ms)
next_posted chain_threads chain ms i n first now new name within at named h same =
    let more : take (i + 1) ms ≡ take i ms ++ n ∷ [] = take_more ms i n within ∙ ap (λ (m : ℕ). take i ms ++ m ∷ []) (sym at) in
    let own = node_posts chain_threads (Some (record { chain = chain; node = n })) in
    same ∙ ap (λ (o : Option NodeName). now ++ node_posts chain_threads o) named ∙ ap (λ (ps : List Post). ps ++ own) h ∙ append_assoc first (member_posts chain_threads chain (take i ms)) own
    ∙ ap (λ (ps : List Post). first ++ ps) (sym (members_more chain_threads chain (take i ms) n))
    ∙ ap (λ (l : List ℕ). first ++ member_posts chain_threads chain l) (sym more)

-- the workers of one chain more
pub next_chain : (chain_threads : Bool) (old new all : List Post) (p : List Chain) (id : ℕ) (x : Chain)
    → old ++ chain_posts chain_threads id (drop id p) ≡ all → chain_at p id ≡ Ok x → new ≡ old ++ (member_posts chain_threads id x.1 ++ Master id ∷ []) → new ++ chain_posts chain_threads (id + 1) (drop (id + 1) p) ≡ all
next_chain chain_threads old new all p id x h e same =
    let one = member_posts chain_threads id x.1 ++ Master id ∷ [] in
    let rest = chain_posts chain_threads (id + 1) (drop (id + 1) p) in
    ap (λ (ps : List Post). ps ++ rest) same ∙ append_assoc old one rest ∙ ap (λ (cs : List Chain). old ++ chain_posts chain_threads id cs) (sym (begins p id x e)) ∙ h

-- no chain more
pub all_posted : (chain_threads : Bool) (now all : List Post) (p : List Chain) (id : ℕ) → now ++ chain_posts chain_threads id (drop id p) ≡ all → length p ≤ id → now ≡ all
all_posted chain_threads now all p id h le = sym (append-nil now) ∙ ap (λ (cs : List Chain). now ++ chain_posts chain_threads id cs) (sym (drop_all id p le)) ∙ h
